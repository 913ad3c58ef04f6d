-- What a collection day with f farms and t tankers means.
use Rattle.std.specs.Prelude.{ℕ, ◌+◌, if◌then◌else◌, List, [], ◌∷◌, ◌==◌}
use Rattle.model.specs.declared.Arrival.{Arrival}
use Rattle.model.specs.Meaning.{Meaning, Reaction}
use Rattle.collection.specs.Dairy.{all_free_word, dairy_reaction}
use Rattle.collection.specs.Farm.{farm_reaction}
use Rattle.collection.specs.Places.{dairy, is_farm_place, is_tanker_place}
use Rattle.collection.specs.Replies.{silent}
use Rattle.collection.specs.Tanker.{tanker_reaction}

-- all words begin at 0, except that the dairy has every tanker free
abbrev pub start_of : ℕ → ℕ → List ℕ
start_of t place = 0 ∷ (if place == dairy then all_free_word t else 0) ∷ 0 ∷ 0 ∷ 0 ∷ 0 ∷ 0 ∷ 0 ∷ []

-- each place reacts as what it is, and what is none of the places does nothing
abbrev pub react_of : ℕ → ℕ → ℕ → ℕ → List ℕ → Arrival → Reaction
react_of f t place order ws a =
    if place == dairy then dairy_reaction f t order ws a
    else if is_farm_place f place then farm_reaction f t ws a
    else if is_tanker_place f t place then tanker_reaction f ws a
    else silent ws

-- the whole of it
abbrev pub meaning_of : ℕ → ℕ → Meaning
meaning_of f t = record { places = 1 + f + t; start = start_of t; react = react_of f t }
