-- A study that is accounted for: it answers as the account does, whatever is called.
use Rattle.std.specs.Prelude.{◌≡◌, ℕ, List}
use Rattle.model.specs.Meaning.{Meaning, Law}
use Rattle.day.specs.declared.place.Place.{Place}
use Rattle.account.specs.Account.{Account, Call, After, empty}
use Rattle.account.specs.Answers.{answer, after, history}
use Rattle.follows.specs.View.{View, blank_view}
use Rattle.follows.specs.Answering.{answer_of, after_of, views}
use Rattle.follows.specs.Follows.{Follows, Alike}
use Rattle.follows.specs.Modest.{Few}

-- a study whose values follow an account that accepted calls lead to
pub record Accounted (M : Meaning) (capacity : ℕ) (V : View) (A : Account) : Type 0 where
  pub after : After M A
  pub follows : Follows M V A
  pub few : Few capacity A

-- a new study is, by the account before the first call
abbrev pub AccountedBegun : Type 0
AccountedBegun = (M : Meaning) (capacity : ℕ) → Law M → (cell : ℕ → ℕ → ℕ) (content : ℕ → Place) → Accounted M capacity (blank_view cell content) (empty M)

-- one that holds the same as far as it matters is, too
abbrev pub AccountedAlike : Type 0
AccountedAlike = (M : Meaning) (capacity : ℕ) (V W : View) (A : Account) → Alike M.places V W → Accounted M capacity V A → Accounted M capacity W A

-- it answers as the account does
abbrev pub AnswersAlike : Type 0
AnswersAlike = (M : Meaning) (capacity : ℕ) → Law M → (V : View) (A : Account) → Accounted M capacity V A → (c : Call) → answer_of M capacity V c ≡ answer M capacity A c

-- and is accounted for after the call
abbrev pub AccountedAfter : Type 0
AccountedAfter = (M : Meaning) (capacity : ℕ) → Law M → (V : View) (A : Account) → Accounted M capacity V A → (c : Call) → Accounted M capacity (after_of M capacity V c) (after M capacity A c)

-- so it is after any list of calls
abbrev pub AccountedAlways : Type 0
AccountedAlways = (M : Meaning) (capacity : ℕ) → Law M → (cell : ℕ → ℕ → ℕ) (content : ℕ → Place) (calls : List Call) → Accounted M capacity (views M capacity (blank_view cell content) calls) (history M capacity calls)
