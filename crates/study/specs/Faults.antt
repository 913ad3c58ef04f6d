-- The number, layer and position of each refusal of a study, and its words.
use Rattle.std.specs.Prelude.{ℕ, Bool, if◌then◌else◌, not, nat_le, Some, None, Option, List, codes}
use Rattle.refusal.specs.declared.Layer.TheVariants as layer
use Rattle.refusal.specs.declared.Refusal.{Refusal}
use Rattle.calendar.specs.Faults as calendar
use Rattle.study.specs.declared.fault.StartFault.{StartFault}
use Rattle.study.specs.declared.fault.StartFault.TheVariants as start
use Rattle.study.specs.declared.fault.StudyFault.{StudyFault}
use Rattle.study.specs.declared.fault.StudyFault.TheVariants.{Memory, Calendar, NotLoaded, Loaded, End, Start, Room, Variant, Undecided, Permit, Place, Made, Last, Entries, Copies, Entry}

-- a refusal of the study's own, of nothing that has a position
abbrev pub own : ℕ → Refusal
own n = record { number = n; layer = layer.Study; position = 0 }

-- a calendar's refusal stands whole, at the position of the starting message
abbrev pub start_refusal_of : ℕ → StartFault → Refusal
start_refusal_of i start.Place = record { number = 5; layer = layer.Study; position = i }
start_refusal_of i start.Time = record { number = 6; layer = layer.Study; position = i }
start_refusal_of i (start.Calendar f) = record (calendar.refusal_of f) { position = i }

abbrev pub refusal_of : StudyFault → Refusal
refusal_of Memory = own 0
refusal_of (Calendar f) = calendar.refusal_of f
refusal_of NotLoaded = own 2
refusal_of Loaded = own 3
refusal_of End = own 4
refusal_of (Start i f) = start_refusal_of i f
refusal_of Room = own 7
refusal_of Variant = own 8
refusal_of Undecided = own 9
refusal_of Permit = own 10
refusal_of Place = own 11
refusal_of Made = own 12
refusal_of Last = own 13
refusal_of Entries = own 14
refusal_of Copies = own 15
refusal_of Entry = own 16

abbrev pub loaded_fault : Bool → Option StudyFault
loaded_fault loaded = if not loaded then Some NotLoaded else None

-- of a variant that is live or not
abbrev pub live_fault : Bool → Bool → Option StudyFault
live_fault loaded live = if not loaded then Some NotLoaded else if not live then Some Variant else None

-- of a variant that is live or not, and undecided or not
abbrev pub decided_fault : Bool → Bool → Bool → Option StudyFault
decided_fault loaded live undecided = if not loaded then Some NotLoaded else if not live then Some Variant else if undecided then Some Undecided else None

-- of a place among so many
abbrev pub place_fault : ℕ → ℕ → Option StudyFault
place_fault places p = if nat_le places p then Some Place else None

-- why a starting message is refused
abbrev pub words_of_start : StartFault → List ℕ
words_of_start start.Place = codes "a starting message names no place"
words_of_start start.Time = codes "a starting message is later than the end of day"
words_of_start (start.Calendar f) = codes "there are more starting messages than the calendar holds"

-- why a call is refused
abbrev pub words_of_fault : StudyFault → List ℕ
words_of_fault Memory = codes "there is no memory for the study"
words_of_fault (Calendar f) = codes "there is no memory for the calendar"
words_of_fault NotLoaded = codes "nothing is loaded"
words_of_fault Loaded = codes "a day is loaded already"
words_of_fault End = codes "the end of day is above 1000000"
words_of_fault (Start i f) = words_of_start f
words_of_fault Room = codes "the calendar has no room for what the next step may send"
words_of_fault Variant = codes "there is no such live variant"
words_of_fault Undecided = codes "the variant is undecided"
words_of_fault Permit = codes "no undecided variant has the permit's number"
words_of_fault Place = codes "there is no such place"
words_of_fault Made = codes "sixteen variants were made"
words_of_fault Last = codes "the variant is the last live one"
words_of_fault Entries = codes "the step would leave too many entries"
words_of_fault Copies = codes "there would be too many copies"
words_of_fault Entry = codes "there is no such entry"
