-- What each call answers, and what any list of calls leads to.
use Rattle.std.specs.Prelude.{ℕ, Bool, is_some, not, ◌&&◌, List, [], ◌∷◌, length, Some, None, Option, slice_index_or}
use Rattle.event.specs.declared.Message.{Message}
use Rattle.event.specs.declared.Key.{Key}
use Rattle.event.specs.Keys.{blank}
use Rattle.event.specs.Lists.{first}
use Rattle.refusal.specs.declared.Refusal.{Refusal}
use Rattle.model.specs.Meaning.{Meaning}
use Rattle.day.specs.declared.place.Place.{Place}
use Rattle.account.specs.Account.{Account, empty, ind, sum_below, least, told, Call, load, branch, decide, waive, step, retire, reading, Reading, events_of, entry_of, place_of, next_of, sharing, group_of, totals}
use Rattle.account.specs.Groups.{copies, worked, entries}
use Rattle.account.specs.Refusals.{refusal}

pub data Answer : Type 0 where
  refused : Refusal → Answer
  -- the variant that load or branch makes
  variant : ℕ → Answer
  -- decide, waive and retire have nothing to tell
  done : Answer
  -- a step's executions
  ran : ℕ → Answer
  -- of events, or of variants in a group
  number : ℕ → Answer
  message : Message → Answer
  -- the next message that waits, or nothing
  waits : Option Message → Answer
  stands : Place → Answer
  shared : Bool → Answer
  -- executions, copies in use and entries
  counted : ℕ → ℕ → ℕ → Answer

abbrev pub worked_at : Account → Option Key → ℕ
worked_at A None = 0
worked_at A (Some k) = worked A k

-- how many live variants v shares a place with, itself among them
abbrev pub group_size : Account → ℕ → ℕ → ℕ
group_size A v p = sum_below (λ w. ind (A.live w && not (A.reached v w p))) 16

-- what a reading tells
abbrev pub reads : Meaning → Account → Reading → Answer
reads M A (events_of v) = number (length (A.day v).journal)
reads M A (entry_of v i) = message (slice_index_or (A.day v).journal i blank)
reads M A (place_of v p) = stands ((A.day v).place p)
reads M A (next_of v) = waits (first (A.day v).waiting)
reads M A (sharing v w p) = shared (not (A.reached v w p))
reads M A (group_of v p) = number (group_size A v p)
reads M A totals = counted A.executions (copies M A) (entries A)

-- what a call tells that is not denied
abbrev pub tells : Meaning → Account → Call → Answer
tells M A (load l end) = variant 0
tells M A (branch v) = variant A.made
tells M A (decide v place value) = done
tells M A (waive v) = done
tells M A step = ran (worked_at A (least A 16))
tells M A (retire v) = done
tells M A (reading r) = reads M A r

abbrev pub unless_refused : Option Refusal → Answer → Answer
unless_refused None a = a
unless_refused (Some r) a = refused r

-- what a call answers, over a calendar of this capacity
abbrev pub answer : Meaning → ℕ → Account → Call → Answer
answer M capacity A c = unless_refused (refusal M capacity A c) (tells M A c)

-- the account after a call, denied or not
abbrev pub after : Meaning → ℕ → Account → Call → Account
after M capacity A c = told M A c (is_some (refusal M capacity A c))

-- the account after these calls, the newest first
unfoldable pub history : Meaning → ℕ → List Call → Account
history M capacity [] = empty M
history M capacity (c ∷ cs) = after M capacity (history M capacity cs) c

-- the executions that an answer tells
abbrev pub executions_of : Answer → ℕ
executions_of (ran n) = n
executions_of a = 0
