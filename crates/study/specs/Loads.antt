-- When a load is refused, and with what.
use Rattle.std.specs.Prelude.{ℕ, suc, Bool, if◌then◌else◌, List, [], ◌∷◌, Some, None, Option, nat_le, nat_lt}
use Rattle.event.specs.declared.Start.{Start}
use Rattle.calendar.specs.declared.fault.CalendarFault.{CalendarFault}
use Rattle.calendar.specs.declared.fault.CalendarFault.TheVariants.{Full}
use Rattle.study.specs.declared.fault.StartFault.{StartFault}
use Rattle.study.specs.declared.fault.StartFault.TheVariants as start
use Rattle.study.specs.declared.fault.StudyFault.{StudyFault}
use Rattle.study.specs.declared.fault.StudyFault.TheVariants as fault

-- what a calendar of this capacity answers to a put where so many are held
abbrev pub room_fault : ℕ → ℕ → Option CalendarFault
room_fault capacity held = if nat_le capacity held then Some Full else None

-- a calendar's fault is the starting message's
abbrev pub of_calendar : Option CalendarFault → Option StartFault
of_calendar None = None
of_calendar (Some f) = Some (start.Calendar f)

-- a starting message where so many are held
abbrev pub start_fault : ℕ → ℕ → ℕ → ℕ → Start → Option StartFault
start_fault places capacity end held s =
    if nat_le places s.receiver then Some start.Place else if nat_lt end s.time then Some start.Time else of_calendar (room_fault capacity held)

-- the message at position i, unless it is one of the rest
abbrev pub at_start : ℕ → Option StartFault → Option StudyFault → Option StudyFault
at_start i None later = later
at_start i (Some f) later = Some (fault.Start i f)

-- each message in sequence, from position i on
abbrev pub starts_fault : ℕ → ℕ → ℕ → ℕ → List Start → Option StudyFault
starts_fault places capacity end i [] = None
starts_fault places capacity end i (s ∷ ss) = at_start i (start_fault places capacity end i s) (starts_fault places capacity end (suc i) ss)

-- the end first, and then the messages
abbrev pub list_fault : ℕ → ℕ → ℕ → List Start → Option StudyFault
list_fault places capacity end starts = if nat_lt 1000000 end then Some fault.End else starts_fault places capacity end 0 starts

abbrev pub load_fault : Bool → ℕ → ℕ → ℕ → List Start → Option StudyFault
load_fault loaded places capacity end starts = if loaded then Some fault.Loaded else list_fault places capacity end starts
