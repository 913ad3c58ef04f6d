-- The number, layer and position of each refusal of a calendar.
use Rattle.refusal.specs.declared.Layer.TheVariants.{Calendar}
use Rattle.refusal.specs.declared.Refusal.{Refusal}
use Rattle.calendar.specs.declared.fault.CalendarFault.{CalendarFault}
use Rattle.calendar.specs.declared.fault.CalendarFault.TheVariants.{Memory, Full}

abbrev pub refusal_of : CalendarFault → Refusal
refusal_of Memory = record { number = 0; layer = Calendar; position = 0 }
refusal_of Full = record { number = 7; layer = Calendar; position = 0 }
