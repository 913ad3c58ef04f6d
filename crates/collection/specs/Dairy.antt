-- The dairy. Its words: 0 the waiting farms, 1 the free tankers, 2 the bay's end, 3 the litres received.
use Rattle.std.specs.Prelude.{ℕ, zero, suc, ◌+◌, ◌-◌, if◌then◌else◌, ◌&&◌, List, Some, None, Option, ◌==◌, slice_set}
use Rattle.model.specs.declared.Arrival.{Arrival}
use Rattle.model.specs.Meaning.{Reaction}
use Rattle.collection.specs.Bay.{bay_end, stay}
use Rattle.collection.specs.Bits.{with, without}
use Rattle.collection.specs.Choice.{chosen_farm_of, free_tanker_of}
use Rattle.collection.specs.Kinds.{ready, free, go, unload, emptied}
use Rattle.collection.specs.Places.{is_farm_place, is_tanker_place}
use Rattle.collection.specs.Replies.{word, grown, message, silent, sending, ignored}

-- each of t tankers is free
abbrev pub all_free_word : ℕ → ℕ
all_free_word zero = 0
all_free_word (suc j) = with (all_free_word j) (suc j)

-- a farm and a tanker lose their bits, and the tanker is sent to the farm
abbrev pub matched : ℕ → List ℕ → Option ℕ → Option ℕ → Reaction
matched f ws None tanker = silent ws
matched f ws (Some farm) None = silent ws
matched f ws (Some farm) (Some tanker) =
    sending (slice_set (slice_set ws 0 (without (word ws 0) farm)) 1 (without (word ws 1) tanker)) (message (f + tanker) 1 go farm)

-- the chosen farm is matched with the smallest-numbered free tanker, if there are both
abbrev pub dispatched : ℕ → ℕ → ℕ → List ℕ → Reaction
dispatched f t order ws = matched f ws (chosen_farm_of order (word ws 0) f) (free_tanker_of (word ws 1) t)

-- the bay serves the sender, and its litres are received
abbrev pub unloaded : List ℕ → Arrival → Reaction
unloaded ws a =
    sending (slice_set (slice_set ws 2 (bay_end a.time (word ws 2) a.«data»)) 3 (grown (word ws 3) a.«data»))
    (message a.sender (stay a.time (bay_end a.time (word ws 2) a.«data»)) emptied 0)

-- what the dairy does with a message
abbrev pub dairy_reaction : ℕ → ℕ → ℕ → List ℕ → Arrival → Reaction
dairy_reaction f t order ws a =
    if a.kind == ready && is_farm_place f a.sender then dispatched f t order (slice_set ws 0 (with (word ws 0) a.sender))
    else if a.kind == free && is_tanker_place f t a.sender then dispatched f t order (slice_set ws 1 (with (word ws 1) (a.sender - f)))
    else if a.kind == unload && is_tanker_place f t a.sender then unloaded ws a
    else ignored ws a
