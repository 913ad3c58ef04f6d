-- A calendar has room for what a study puts, and gives what it takes in turn.
use Rattle.std.specs.Prelude.{◌≡◌, ℕ, ◌+◌, ◌<◌, ◌≤◌, true, List, [], ◌∷◌, ◌++◌, length, None, Some}
use Rattle.event.specs.declared.Key.{Key}
use Rattle.event.specs.declared.Message.{Message}
use Rattle.event.specs.declared.Start.{Start}
use Rattle.event.specs.Lists.{first, Sorted}
use Rattle.group.specs.declared.Group.{Group}
use Rattle.calendar.specs.declared.Held.{Held}
use Rattle.calendar.specs.Calls.{key_of_held, leading, waiting}
use Rattle.calendar.specs.Contents.{Contents, put_in}
use Rattle.model.specs.Meaning.{Meaning, Law}
use Rattle.day.specs.Day.{posted_by}
use Rattle.account.specs.Account.{Account, load, step}
use Rattle.follows.specs.View.{View, held_for, put_all}
use Rattle.follows.specs.Steps.{with_key, without_key, head_key, leads_in}
use Rattle.follows.specs.Refusing.{refusal_of}
use Rattle.follows.specs.Claims.{before_turn}
use Rattle.follows.specs.Accounted.{Accounted}

-- each in turn is put into a calendar
abbrev pub put_each : Group → List Message → Contents → Contents
put_each group [] s = s
put_each group (m ∷ ms) s = put_each group ms (put_in (held_for group m) s)

-- where there is room for all, none is denied
abbrev pub PutsAccepted : Type 0
PutsAccepted = (group : Group) (ms : List Message) (s : Contents) → length s.held + length ms ≤ s.room → s.puts + length ms ≤ 1000000
    → put_each group ms s ≡ record { held = put_all group ms s.held; room = s.room; puts = s.puts + length ms }

-- what h's message sends when n's group runs it
abbrev pub sends_at : Meaning → View → Held → ℕ → List Message
sends_at M W h n = posted_by M W.end (W.content (W.cell n h.message.receiver)) h.message

-- a calendar of this capacity has room for so many more
pub record HasRoom (capacity : ℕ) (V : View) (count : ℕ) : Type 0 where
  pub held : length V.held + count ≤ capacity
  pub puts : V.puts + count ≤ 1000000

-- where a load or a step is not refused, no put of it is denied: the calendar has room for all starting messages, and in a step for what each group sends
pub record RoomFound (M : Meaning) (capacity : ℕ) (V : View) : Type 0 where
  pub load : (l : List Start) (end : ℕ) → refusal_of M capacity V (load l end) ≡ None → length l ≤ capacity
  pub step : (k : Key) (n : ℕ) (h : Held) → refusal_of M capacity V step ≡ None → n < 16 → head_key V.held ≡ Some k → first (waiting n (with_key k V.held)) ≡ Some h → leads_in (before_turn M V k n) n (Some h) ≡ true
      → HasRoom capacity (before_turn M V k n) (length (sends_at M (before_turn M V k n) h n))

abbrev pub RoomIsFound : Type 0
RoomIsFound = (M : Meaning) (capacity : ℕ) → Law M → capacity ≤ 4096 → (V : View) (A : Account) → Accounted M capacity V A → RoomFound M capacity V

-- the messages with the smallest key stand in front of all others
abbrev pub FrontTaken : Type 0
FrontTaken = (x : Held) (xs : List Held) → Sorted key_of_held (x ∷ xs) → x ∷ xs ≡ leading (x ∷ xs) ++ without_key (key_of_held x) (x ∷ xs)
