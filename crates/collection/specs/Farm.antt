-- A farm. Its words: 0 the litres, 1 whether it has announced them.
use Rattle.std.specs.Prelude.{ℕ, ◌+◌, ◌-◌, ◌/◌, min, if◌then◌else◌, ◌&&◌, List, ◌==◌, slice_set}
use Rattle.model.specs.declared.Arrival.{Arrival}
use Rattle.model.specs.declared.Sent.{Sent}
use Rattle.model.specs.declared.Sends.TheVariants.{One, Two}
use Rattle.model.specs.Meaning.{Reaction}
use Rattle.collection.specs.Kinds.{milked, ready, pump, loaded}
use Rattle.collection.specs.Places.{dairy, is_tanker_place}
use Rattle.collection.specs.Replies.{word, grown, message, silent, sending, ignored}

-- the farm tells the dairy that it waits
abbrev pub announced : Sent
announced = message dairy 1 ready 0

-- milk is kept, and announced unless that was done
abbrev pub filled : List ℕ → Arrival → Reaction
filled ws a =
    if word ws 1 == 0 then sending (slice_set (slice_set ws 0 (grown (word ws 0) a.«data»)) 1 1) announced
    else silent (slice_set ws 0 (grown (word ws 0) a.«data»))

-- a tanker takes what there is, up to 20,000 litres
abbrev pub load_of : ℕ → ℕ
load_of litres = min litres 20000

-- what remains at the farm
abbrev pub left_of : ℕ → ℕ
left_of litres = litres - load_of litres

-- pumping takes a second, and one more for every full ten litres
abbrev pub loaded_with : ℕ → ℕ → Sent
loaded_with tanker litres = message tanker (1 + litres / 10) loaded litres

-- the load leaves the farm, and litres that remain are announced
abbrev pub pumped : List ℕ → ℕ → Reaction
pumped ws tanker = record {
  words = slice_set (slice_set ws 0 (left_of (word ws 0))) 1 (if left_of (word ws 0) == 0 then 0 else 1);
  sends = if left_of (word ws 0) == 0 then One (loaded_with tanker (load_of (word ws 0))) else Two (loaded_with tanker (load_of (word ws 0))) announced;
}

-- what a farm does with a message
abbrev pub farm_reaction : ℕ → ℕ → List ℕ → Arrival → Reaction
farm_reaction f t ws a =
    if a.kind == milked then filled ws a
    else if a.kind == pump && is_tanker_place f t a.sender then pumped ws a.sender
    else ignored ws a
