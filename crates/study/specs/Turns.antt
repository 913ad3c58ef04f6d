-- When a step is refused, and when its turns can run.
use Rattle.std.specs.Prelude.{◌≡◌, ℕ, ◌+◌, ◌*◌, ◌<◌, Bool, true, not, if◌then◌else◌, List, [], ◌∷◌, map, length, Some, None, Option, nat_lt}
use Rattle.event.specs.Lists.{first}
use Rattle.group.specs.declared.Group.{Group}
use Rattle.group.specs.Groups.{has}
use Rattle.calendar.specs.declared.Held.{Held}
use Rattle.calendar.specs.Calls.{waiting}
use Rattle.model.specs.Meaning.{Meaning}
use Rattle.copies.specs.Sharing.{groups, shares_stepped}
use Rattle.follows.specs.View.{View}
use Rattle.follows.specs.Steps.{group_of, leads_in, turns}
use Rattle.follows.specs.Ready.{Ready}
use Rattle.study.specs.declared.fault.StudyFault.{StudyFault}
use Rattle.study.specs.declared.fault.StudyFault.TheVariants.{NotLoaded, Room, Entries, Copies}

-- if v leads, its group can run
abbrev pub TurnReady : Meaning → ℕ → List Held → View → ℕ → Type 0
TurnReady M capacity heads V v = (h : Held) → first (waiting v heads) ≡ Some h → leads_in V v (Some h) ≡ true → Ready M capacity V h v

abbrev pub TurnsReady : Meaning → ℕ → List Held → View → Type 0
TurnsReady M capacity heads V = (v : ℕ) → v < 16 → TurnReady M capacity heads (turns M heads V v) v

-- these are the variants that lead at their turns
abbrev pub Led : Meaning → List Held → View → Group → Type 0
Led M heads V leaders = (v : ℕ) → has leaders v ≡ leads_in (turns M heads V v) v (first (waiting v heads))

-- the receiver of the first
abbrev pub receiver_of : List Held → ℕ
receiver_of [] = 0
receiver_of (h ∷ hs) = h.message.receiver

-- what a step is refused for: nothing is loaded, there is no room for what it may send, for its entries, or for its copies
abbrev pub fault_by : Bool → Bool → Bool → Bool → Option StudyFault
fault_by loaded room entries copies = if not loaded then Some NotLoaded else if room then Some Room else if entries then Some Entries else if copies then Some Copies else None

-- a step of so many executions, of these messages
abbrev pub step_fault : Meaning → ℕ → View → List Held → ℕ → Option StudyFault
step_fault M capacity V heads executions =
    fault_by V.loaded (nat_lt (capacity + length heads) (length V.held + 2 * executions)) (nat_lt 2048 (length V.entries + length heads))
    (nat_lt 128 (groups M.places V.live (shares_stepped V.cell (map group_of heads) (receiver_of heads))))
