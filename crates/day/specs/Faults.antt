-- The number, layer and position of each refusal of a day, its words, and when each comes.
use Rattle.std.specs.Prelude.{ℕ, suc, ◌+◌, ◌-◌, if◌then◌else◌, List, [], ◌∷◌, Some, None, Option, codes, nat_le, nat_lt}
use Rattle.event.specs.declared.Start.{Start}
use Rattle.refusal.specs.declared.Layer.TheVariants.{Calendar, Study}
use Rattle.refusal.specs.declared.Refusal.{Refusal}
use Rattle.day.specs.declared.fault.DayFault.{DayFault}
use Rattle.day.specs.declared.fault.DayFault.TheVariants.{Memory, End, StartPlace, StartTime, StartRoom, Room, Place, Entries, Entry}

abbrev pub refusal_of : DayFault → Refusal
refusal_of Memory = record { number = 0; layer = Study; position = 0 }
refusal_of End = record { number = 4; layer = Study; position = 0 }
refusal_of (StartPlace i) = record { number = 5; layer = Study; position = i }
refusal_of (StartTime i) = record { number = 6; layer = Study; position = i }
refusal_of (StartRoom i) = record { number = 7; layer = Calendar; position = i }
refusal_of Room = record { number = 7; layer = Study; position = 0 }
refusal_of Place = record { number = 11; layer = Study; position = 0 }
refusal_of Entries = record { number = 14; layer = Study; position = 0 }
refusal_of Entry = record { number = 16; layer = Study; position = 0 }

-- why a day is refused
abbrev pub words_of_fault : DayFault → List ℕ
words_of_fault Memory = codes "there is no memory for the day"
words_of_fault End = codes "the end of day is above 1000000"
words_of_fault (StartPlace i) = codes "a starting message names no place"
words_of_fault (StartTime i) = codes "a starting message is later than the end of day"
words_of_fault (StartRoom i) = codes "there are more starting messages than the calendar holds"
words_of_fault Room = codes "the calendar has no room for what the next event may send"
words_of_fault Place = codes "there is no such place"
words_of_fault Entries = codes "the journal is full"
words_of_fault Entry = codes "there is no such entry"

-- the starting message at position i
abbrev pub start_fault_of : ℕ → ℕ → ℕ → ℕ → Start → Option DayFault
start_fault_of places capacity end i s =
    if nat_le places s.receiver then Some (StartPlace i) else if nat_lt end s.time then Some (StartTime i) else if nat_le capacity i then Some (StartRoom i) else None

-- the first that is there
abbrev pub or_else : Option DayFault → Option DayFault → Option DayFault
or_else None other = other
or_else (Some f) other = Some f

-- each message in sequence, from position i on
abbrev pub starts_fault : ℕ → ℕ → ℕ → ℕ → List Start → Option DayFault
starts_fault places capacity end i [] = None
starts_fault places capacity end i (s ∷ ss) = or_else (start_fault_of places capacity end i s) (starts_fault places capacity end (suc i) ss)

-- the end first, and then the messages
abbrev pub load_fault_of : ℕ → ℕ → ℕ → List Start → Option DayFault
load_fault_of places capacity end starts = if nat_lt 1000000 end then Some End else starts_fault places capacity end 0 starts

-- an event takes one of the waiting messages and asks room for two, and for one more entry
abbrev pub event_fault_of : ℕ → ℕ → ℕ → Option DayFault
event_fault_of capacity waiting entries = if nat_lt capacity (waiting - 1 + 2) then Some Room else if nat_lt 2048 (entries + 1) then Some Entries else None
