-- Where streams begin.
use Rattle.std.specs.Prelude.{◌≡◌, ℕ, ◌*◌, ◌%◌, ◌^◌, ◌<◌, List, length, slice_index}
use Rattle.streams.specs.Draws.{modulus, factor}

-- the draws from the start of one stream to the start of the next
abbrev pub spacing : ℕ
spacing = 65536

-- what takes a seed to the start of stream k: so many draws at once
unfoldable pub multiplier_of : ℕ → ℕ
multiplier_of k = factor ^ (spacing * k) % modulus

-- a table of all streams' multipliers
pub record Multipliers (table : List ℕ) : Type 0 where
  pub entry : (k : ℕ) → k < length table → slice_index table k ≡ multiplier_of k
