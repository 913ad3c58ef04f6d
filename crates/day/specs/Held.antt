-- What a lone day holds, as a day.
use Rattle.std.specs.Prelude.{◌≡◌, if◌then◌else◌, List, vec_items, nat_lt, slice_index_or}
use Rattle.event.specs.declared.Message.{Message}
use Rattle.model.specs.Meaning.{Meaning}
use Rattle.day.specs.declared.place.Place.{Place}
use Rattle.day.specs.declared.lone.LoneDay.{LoneDay}
use Rattle.day.specs.declared.lone.Waiting.{Waiting}
use Rattle.day.specs.Blank.{blank_place}
use Rattle.day.specs.Day.{Day, starting_place}

-- cells for 32 places, the most that a model has; a place of a higher number is as it began
abbrev pub held_day : Meaning → List Place → List Message → List Message → Day
held_day M cells waiting journal = record {
  place = λ p. if nat_lt p 32 then slice_index_or cells p blank_place else starting_place M p;
  waiting = waiting;
  journal = journal;
}

abbrev pub day_of : {X : Type 0} → Meaning → LoneDay X → Day
day_of M d = held_day M d.cells (vec_items d.waiting.messages) (vec_items d.journal)

-- and so with its own model
abbrev pub the_day : {X : Type 0} → (X → Meaning) → LoneDay X → Day
the_day meaning d = day_of (meaning d.model) d

-- the end of day and the capacity stay
abbrev pub SameBounds : Waiting → Waiting → Type 0
SameBounds v w = (w.end ≡ v.end) × (w.capacity ≡ v.capacity)

-- and the model
abbrev pub SameSetting : {X : Type 0} → LoneDay X → LoneDay X → Type 0
SameSetting d e = (e.model ≡ d.model) × SameBounds d.waiting e.waiting
