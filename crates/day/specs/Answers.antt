-- What the calls of a lone day answer.
use Rattle.std.specs.Prelude.{ℕ, if◌then◌else◌, length, Some, None, Ok, Err, Option, Result, nat_lt, slice_index_or}
use Rattle.event.specs.declared.Message.{Message}
use Rattle.event.specs.Keys.{blank}
use Rattle.event.specs.Lists.{first}
use Rattle.model.specs.Meaning.{Meaning}
use Rattle.day.specs.declared.fault.DayFault.{DayFault}
use Rattle.day.specs.declared.fault.DayFault.TheVariants as fault
use Rattle.day.specs.declared.place.Place.{Place}
use Rattle.day.specs.declared.place.Ran.{Ran}
use Rattle.day.specs.Day.{Day, reaction}
use Rattle.day.specs.Faults.{event_fault_of}

-- x, unless it is refused
abbrev pub unless : {X : Type 0} → Option DayFault → X → Result X DayFault
unless None x = Ok x
unless (Some f) x = Err f

-- the event of m on the day d
abbrev pub ran_of : Meaning → Day → Message → Ran
ran_of M d m = record { message = m; sends = (reaction M (d.place m.receiver) m).sends }

abbrev pub ran_at : Meaning → ℕ → Day → Option Message → Result (Option Ran) DayFault
ran_at M capacity d None = Ok None
ran_at M capacity d (Some m) =
    unless (event_fault_of capacity (length d.waiting) (length d.journal)) (Some (ran_of M d m))

-- the message that an event runs, and what its receiver sends; nothing where nothing waits
abbrev pub event_answer : Meaning → ℕ → Day → Result (Option Ran) DayFault
event_answer M capacity d = ran_at M capacity d (first d.waiting)

abbrev pub entry_answer : Day → ℕ → Result Message DayFault
entry_answer d i = if nat_lt i (length d.journal) then Ok (slice_index_or d.journal i blank) else Err fault.Entry

abbrev pub place_answer : Meaning → Day → ℕ → Result Place DayFault
place_answer M d p = if nat_lt p M.places then Ok (d.place p) else Err fault.Place

abbrev pub order_answer : Meaning → ℕ → Result (Unit {0}) DayFault
order_answer M p = if nat_lt p M.places then Ok tt else Err fault.Place
