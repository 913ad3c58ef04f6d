-- What is shown of plain values that follow an account: every call keeps it, counts agree, cells are found.
use Rattle.std.specs.Prelude.{◌≡◌, ℕ, ◌+◌, ◌<◌, ◌≤◌, true, is_some, List, length, Some}
use Rattle.event.specs.declared.Key.{Key}
use Rattle.event.specs.declared.Start.{Start}
use Rattle.event.specs.Lists.{first}
use Rattle.group.specs.Groups.{only}
use Rattle.calendar.specs.declared.Held.{Held}
use Rattle.calendar.specs.Calls.{waiting}
use Rattle.model.specs.Meaning.{Meaning, Law}
use Rattle.day.specs.declared.place.Place.{Place}
use Rattle.account.specs.Account.{Account, ind, sum_below, least, empty, fed_load, fed_branch, fed_decide, fed_waive, fed_retire, fed_step, fed_step_at}
use Rattle.account.specs.Groups.{copies, held, taken, worked, entries}
use Rattle.account.specs.Sound.{Sound}
use Rattle.copies.specs.Sharing.{crowded, free, groups, shares, shares_decided, used}
use Rattle.follows.specs.View.{View, blank_view, loaded_view, branched, decided, waived, retired}
use Rattle.follows.specs.Steps.{with_key, took_all, group_in, turns, stepped, shares_after, leaders}
use Rattle.follows.specs.Follows.{Follows, Alike}

-- after every call that is accepted the study goes on following
pub record Kept (M : Meaning) : Type 0 where
  pub begun : (cell : ℕ → ℕ → ℕ) (content : ℕ → Place) → Follows M (blank_view cell content) (empty M)
  pub load : (A : Account) (l : List Start) (end : ℕ) → Follows M (loaded_view M l end) (fed_load M A l end)
  pub branch : (V : View) (A : Account) (v : ℕ) → Sound M A → Follows M V A → A.live v ≡ true → A.made < 16 → Follows M (branched V v) (fed_branch A v)
  pub decide : (V : View) (A : Account) (v place value : ℕ) → Sound M A → Follows M V A → A.live v ≡ true → place < M.places → copies M (fed_decide A v place value) ≤ 128
      → Follows M (decided M.places V v place value) (fed_decide A v place value)
  pub waive : (V : View) (A : Account) (v : ℕ) → Sound M A → Follows M V A → Follows M (waived V v) (fed_waive A v)
  pub retire : (V : View) (A : Account) (v : ℕ) → Sound M A → Follows M V A → A.live v ≡ true → Follows M (retired V v) (fed_retire A v)
  pub step : (V : View) (A : Account) → Sound M A → Follows M V A → copies M (fed_step M A) ≤ 128 → Follows M (stepped M V) (fed_step M A)

abbrev pub FollowsKept : Type 0
FollowsKept = (M : Meaning) → Law M → Kept M

-- and so does one that holds the same as far as it matters
abbrev pub AlikeFollows : Type 0
AlikeFollows = (M : Meaning) (V W : View) (A : Account) → Alike M.places V W → Follows M V A → Follows M W A

-- what the study counts is what the account counts; of a step and of an order, before anything is changed
pub record Counted (M : Meaning) (V : View) (A : Account) : Type 0 where
  pub held_same : length V.held ≡ held A
  pub entries_same : length V.entries ≡ entries A
  pub copies_same : groups M.places V.live (shares V.cell) ≡ copies M A
  pub cells_same : sum_below (λ c. ind (used M.places V.cell V.live c)) 128 ≡ copies M A
  pub copies_decided : (v place value : ℕ) → groups M.places V.live (shares_decided V.cell v place) ≡ copies M (fed_decide A v place value)
  pub taken_same : (k : Key) → least A 16 ≡ Some k → length (with_key k V.held) ≡ taken A k
  pub worked_ahead : (k : Key) → least A 16 ≡ Some k → leaders V k ≡ worked A k
  pub copies_ahead : (k : Key) → least A 16 ≡ Some k → groups M.places V.live (shares_after V k) ≡ copies M (fed_step_at M A (Some k))
  pub entries_after : (k : Key) → least A 16 ≡ Some k → length V.entries + length (with_key k V.held) ≡ entries (fed_step_at M A (Some k))

abbrev pub CountsAgree : Type 0
CountsAgree = (M : Meaning) → Law M → (V : View) (A : Account) → Sound M A → Follows M V A → Counted M V A

-- what is held in a step before n's turn
abbrev pub before_turn : Meaning → View → Key → ℕ → View
before_turn M V k n = turns M (with_key k V.held) (took_all V k) n

-- a free cell is found wherever one is wanted
pub record CellsFound (M : Meaning) (V : View) (A : Account) : Type 0 where
  pub decide : (v place value : ℕ) → A.live v ≡ true → place < M.places → copies M (fed_decide A v place value) ≤ 128 → crowded V.cell V.live (only v) place v ≡ true → is_some (free M.places V.cell V.live) ≡ true
  pub step : (k : Key) (n : ℕ) (h : Held) → least A 16 ≡ Some k → copies M (fed_step_at M A (Some k)) ≤ 128 → first (waiting n (with_key k V.held)) ≡ Some h
      → crowded (before_turn M V k n).cell (before_turn M V k n).live (group_in (before_turn M V k n) h n) h.message.receiver n ≡ true → is_some (free M.places (before_turn M V k n).cell (before_turn M V k n).live) ≡ true

abbrev pub CellsAreFound : Type 0
CellsAreFound = (M : Meaning) → Law M → (V : View) (A : Account) → Sound M A → Follows M V A → CellsFound M V A
