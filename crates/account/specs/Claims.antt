-- What is shown of every account.
use Rattle.std.specs.Prelude.{◌≡◌, ℕ, ◌+◌, ◌*◌, ◌≤◌, Bool, true, not, List, length, Some, MatchOption}
use Rattle.event.specs.declared.Key.{Key}
use Rattle.model.specs.Meaning.{Meaning, Law}
use Rattle.account.specs.Orders.{alone_under}
use Rattle.account.specs.Account.{Account, Call, sharing, After, ind, sum_below, least, runs, reached_by}
use Rattle.account.specs.Groups.{Groups, copies, taken, worked}
use Rattle.account.specs.Answers.{shared, group_size, reads, answer, after, history, executions_of}
use Rattle.account.specs.Refusals.{cases, refusal, NoneMet, Smallest}
use Rattle.account.specs.Sound.{Sound, Faithful, Bounded}
use Rattle.account.specs.Chain.{ChainReaches, Moment, Touched, sides}

-- whatever calls were accepted, the account is sound
abbrev pub SoundStands : Type 0
SoundStands = (M : Meaning) (A : Account) → Law M → After M A → Sound M A

-- would this day have come out with nothing compared beside it? yes
abbrev pub AloneStands : Type 0
AloneStands = (M : Meaning) (A : Account) → Law M → After M A → Faithful M A

-- executions never exceed the events of all variants made
abbrev pub BoundedStands : Type 0
BoundedStands = (M : Meaning) (A : Account) → Law M → After M A → Bounded A

-- reached is touched by a chain, marked is sent from a touched place, joint is run by both and sent from none
abbrev pub ChainStands : Type 0
ChainStands = (M : Meaning) (A : Account) → Law M → After M A → ChainReaches M A

-- a place that no chain touches is the same in both days run alone
abbrev pub UntouchedSame : Type 0
UntouchedSame = (M : Meaning) (A : Account) → Law M → After M A → (v w p : ℕ) → A.live v ≡ true → A.live w ≡ true
    → ((t : Moment) → Touched M A.end A.load (sides A v w) t p → ⊥)
    → (alone_under M A.end A.load (A.orders v) (length (A.day v).journal)).place p ≡ (alone_under M A.end A.load (A.orders w) (length (A.day w).journal)).place p

-- so all that is said of accounts after accepted calls is said of any list of calls, newest first
abbrev pub HistoryAfter : Type 0
HistoryAfter = (M : Meaning) (capacity : ℕ) → Law M → (calls : List Call) → After M (history M capacity calls)

-- a step's executions are the groups, after the step, of those that ran and share the receiver
abbrev pub ExecutionsGroups : Type 0
ExecutionsGroups = (M : Meaning) (A : Account) (k : Key) (gs : List (ℕ → Bool)) → Law M → After M A → least A 16 ≡ Some k
    → Groups 16 (runs A k) (λ v w. not (reached_by A k v w k.receiver)) gs → worked A k ≡ length gs

-- copies in use are the groups of all places
abbrev pub CopiesGroups : Type 0
CopiesGroups = (M : Meaning) (A : Account) (gs : ℕ → List (ℕ → Bool)) → ((p : ℕ) → Groups 16 A.live (λ v w. not (A.reached v w p)) (gs p)) → copies M A ≡ sum_below (λ p. length (gs p)) M.places

-- a step takes one message for each group of those that ran it unmarked
abbrev pub TakenGroups : Type 0
TakenGroups = (A : Account) (k : Key) (gs : List (ℕ → Bool)) → Groups 16 (runs A k) (λ v w. not (A.marked v w k)) gs → taken A k ≡ length gs

-- a variant shares each place with itself, and stands in a group of one or more
abbrev pub SelfShares : Type 0
SelfShares = (M : Meaning) (A : Account) → Law M → After M A → (v p : ℕ) → A.live v ≡ true → (reads M A (sharing v v p) ≡ shared true) × (1 ≤ group_size A v p)

-- a step runs at least one execution where something waits, and at most one for each variant that ran
abbrev pub ExecutionsWithin : Type 0
ExecutionsWithin = (M : Meaning) (A : Account) (k : Key) → Law M → After M A → least A 16 ≡ Some k → (1 ≤ worked A k) × (worked A k ≤ sum_below (λ v. ind (runs A k v)) 16)

-- there is at least one copy of each place, and at most one for each live variant
abbrev pub CopiesWithin : Type 0
CopiesWithin = (M : Meaning) (A : Account) → Law M → After M A → (v : ℕ) → A.live v ≡ true → (M.places ≤ copies M A) × (copies M A ≤ M.places * sum_below (λ w. ind (A.live w)) 16)

-- a call is denied exactly if one of its cases is met, and with the first of them: the earliest position in a starting list, and there the smallest number
abbrev pub SmallestGiven : Type 0
SmallestGiven = (M : Meaning) (capacity : ℕ) (A : Account) (c : Call) → MatchOption (refusal M capacity A c) (NoneMet (cases M capacity A c)) (λ r. Smallest r (cases M capacity A c))

-- the total of executions grows by what a step tells, and by no other call
abbrev pub ExecutionsAdd : Type 0
ExecutionsAdd = (M : Meaning) (capacity : ℕ) (A : Account) (c : Call) → Law M → After M A → (after M capacity A c).executions ≡ A.executions + executions_of (answer M capacity A c)
