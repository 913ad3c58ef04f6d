-- What a change of each held message gives.
use Rattle.calendar.specs.declared.Held.{Held}
use Rattle.slot.specs.declared.Slot.{Slot}

-- the slot holds what g makes of what it held
abbrev pub changed : (Held → Held) → Slot → Slot
changed g s = record { held = g s.held; age = s.age }
