-- A turn of a step can run without any number passing its type, and few messages have the smallest key.
use Rattle.std.specs.Prelude.{◌≡◌, ℕ, ◌+◌, ◌^◌, ◌<◌, ◌≤◌, true, length, None, Some}
use Rattle.event.specs.declared.Key.{Key}
use Rattle.event.specs.Lists.{first}
use Rattle.calendar.specs.declared.Held.{Held}
use Rattle.calendar.specs.Calls.{waiting}
use Rattle.model.specs.Meaning.{Meaning, Law}
use Rattle.account.specs.Account.{Account, step}
use Rattle.follows.specs.View.{View}
use Rattle.follows.specs.Steps.{with_key, head_key, leads_in}
use Rattle.follows.specs.Refusing.{refusal_of}
use Rattle.follows.specs.Claims.{before_turn}
use Rattle.follows.specs.Rooms.{HasRoom, sends_at}
use Rattle.follows.specs.Accounted.{Accounted}

-- v's group can run h's message: it goes to a place, which can count two messages more, as the study can count one execution more, and the calendar has room for what is sent
pub record Ready (M : Meaning) (capacity : ℕ) (V : View) (h : Held) (v : ℕ) : Type 0 where
  pub receiver : h.message.receiver < M.places
  pub sent : (V.content (V.cell v h.message.receiver)).sent + 2 < 2 ^ 32
  pub executions : V.executions + 1 < 2 ^ 32
  pub room : HasRoom capacity V (length (sends_at M V h v))

-- so it is in a step that is not refused, at each turn of one that leads
abbrev pub TurnsReady : Type 0
TurnsReady = (M : Meaning) (capacity : ℕ) → Law M → capacity ≤ 4096 → (V : View) (A : Account) → Accounted M capacity V A → refusal_of M capacity V step ≡ None
    → (k : Key) (n : ℕ) (h : Held) → head_key V.held ≡ Some k → n < 16 → first (waiting n (with_key k V.held)) ≡ Some h → leads_in (before_turn M V k n) n (Some h) ≡ true → Ready M capacity (before_turn M V k n) h n

-- who leads at its turn led before the first turn, and the other way round
abbrev pub LeadersStay : Type 0
LeadersStay = (M : Meaning) (capacity : ℕ) → Law M → (V : View) (A : Account) → Accounted M capacity V A → refusal_of M capacity V step ≡ None
    → (k : Key) (n : ℕ) → head_key V.held ≡ Some k → leads_in (before_turn M V k n) n (first (waiting n (with_key k V.held))) ≡ leads_in V n (first (waiting n (with_key k V.held)))

-- no more messages have the smallest key than there are variants
abbrev pub HeadsFew : Type 0
HeadsFew = (M : Meaning) (capacity : ℕ) → Law M → (V : View) (A : Account) → Accounted M capacity V A → (k : Key) → head_key V.held ≡ Some k → length (with_key k V.held) ≤ 16
