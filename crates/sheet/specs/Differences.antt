-- Where the journals of two variants part.
use Rattle.std.specs.Prelude.{◌≡◌, ◌≢◌, ◌<◌, ℕ, suc, List, slice_get}
use Rattle.std.specs.Option.{option_map_or, option_or}
use Rattle.event.specs.declared.Message.{Message}
use Rattle.sheet.specs.declared.difference.Difference.{Difference}

-- both journals are the same before position i, and differ there; one may have ended
pub record FirstDifference (own other : List Message) (i : ℕ) : Type 0 where
  pub before : (j : ℕ) → j < i → slice_get own j ≡ slice_get other j
  pub there : slice_get own i ≢ slice_get other i

-- when the message at this position of the first journal runs; where that has ended, of the other one
abbrev pub time_at : List Message → List Message → ℕ → ℕ
time_at own other i = option_map_or (λ m. m.time) (option_or (slice_get own i) (slice_get other i)) 0

-- the first event that differs, by its number from 1, and its moment
pub record IsFirst (own other : List Message) (d : Difference) : Type 0 where
  pub position : ℕ
  pub number : d.number ≡ suc position
  pub first : FirstDifference own other position
  pub time : d.time ≡ time_at own other position
