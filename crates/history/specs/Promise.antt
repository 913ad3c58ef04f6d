-- What is promised of a study whatever was called before, over its plain values and the pair account that is fed with these calls.
use Rattle.std.specs.Prelude.{◌≡◌, ℕ, ◌+◌, ◌<◌, ◌≤◌, Bool, true, not, List, [], ◌∷◌, length, Some, None}
use Rattle.event.specs.declared.Key.{Key}
use Rattle.group.specs.Groups.{has}
use Rattle.calendar.specs.Laws.{messages_of}
use Rattle.model.specs.Meaning.{Meaning}
use Rattle.day.specs.Day.{Day}
use Rattle.account.specs.Account.{Account, Call, step, least, runs, reached_by, sum_below}
use Rattle.account.specs.Answers.{answer, executions_of, history}
use Rattle.account.specs.Refusals.{refusal}
use Rattle.account.specs.Chain.{Moment, Touched, sides}
use Rattle.account.specs.Groups.{Groups, copies, entries}
use Rattle.account.specs.Orders.{alone_under}
use Rattle.copies.specs.Sharing.{groups, shares}
use Rattle.follows.specs.View.{View}

-- v's journal, waiting messages and places are those of the day d
pub record HasDay (M : Meaning) (V : View) (v : ℕ) (d : Day) : Type 0 where
  pub journal : messages_of v V.entries ≡ d.journal
  pub waiting : messages_of v V.held ≡ d.waiting
  pub places : (p : ℕ) → p < M.places → V.content (V.cell v p) ≡ d.place p

-- each live variant has its day of the account, which is its day run alone from the load under its orders, after as many events
pub record DaysAlone (M : Meaning) (V : View) (A : Account) : Type 0 where
  pub live : (v : ℕ) → has V.live v ≡ A.live v
  pub account : (v : ℕ) → A.live v ≡ true → HasDay M V v (A.day v)
  pub alone : (v : ℕ) → A.live v ≡ true → HasDay M V v (alone_under M A.end A.load (A.orders v) (length (messages_of v V.entries)))

-- one copy works a place for two live variants exactly when no chain of messages has reached it from an order that only one has
pub record CopiesShared (M : Meaning) (V : View) (A : Account) : Type 0 where
  pub untouched : (v w p : ℕ) → A.live v ≡ true → A.live w ≡ true → p < M.places → V.cell v p ≡ V.cell w p → (t : Moment) → Touched M A.end A.load (sides A v w) t p → ⊥
  pub one_copy : (v w p : ℕ) → A.live v ≡ true → A.live w ≡ true → p < M.places → ((t : Moment) → Touched M A.end A.load (sides A v w) t p → ⊥) → V.cell v p ≡ V.cell w p

-- the groups of the variants that run the message with the key k, each with those that share its receiver after the step
abbrev pub RunAsOne : Account → Key → List (ℕ → Bool) → Type 0
RunAsOne A k gs = Groups 16 (runs A k) (λ v w. not (reached_by A k v w k.receiver)) gs

-- the executions of these calls, the newest first: one for each message run and each group of variants that ran it as one
pub data Worked (M : Meaning) (capacity : ℕ) : List Call → ℕ → Type 0 where
  nothing : Worked M capacity [] 0
  -- a call that tells of no executions
  idle : {cs : List Call} {n : ℕ} (c : Call) → Worked M capacity cs n → executions_of (answer M capacity (history M capacity cs) c) ≡ 0 → Worked M capacity (c ∷ cs) n
  -- a step that is not denied, where a message waits
  ran : {cs : List Call} {n : ℕ} (k : Key) (gs : List (ℕ → Bool)) → Worked M capacity cs n → refusal M capacity (history M capacity cs) step ≡ None → least (history M capacity cs) 16 ≡ Some k
      → RunAsOne (history M capacity cs) k gs → Worked M capacity (step ∷ cs) (n + length gs)

-- the totals are the account's executions, copies in use and entries
pub record TotalsTold (M : Meaning) (V : View) (A : Account) : Type 0 where
  pub executions : V.executions ≡ A.executions
  pub copies : groups M.places V.live (shares V.cell) ≡ copies M A
  pub entries : length V.entries ≡ entries A
  -- never more than the events of all variants made, retired ones too, each counted from its load or branch
  pub bounded : V.executions ≤ sum_below A.since A.made

-- the whole promise, after these calls
pub record Promised (M : Meaning) (capacity : ℕ) (calls : List Call) (V : View) : Type 0 where
  pub days : DaysAlone M V (history M capacity calls)
  pub sharing : CopiesShared M V (history M capacity calls)
  pub totals : TotalsTold M V (history M capacity calls)
  pub worked : Worked M capacity calls V.executions
