-- The multipliers of streams, in a form that is quick to compute.
use Rattle.std.proofs.Common.{◌≡◌, ℕ, ◌%◌, ◌^◌, true, List, ap, ◌∙◌}
use Rattle.streams.specs.Draws.{modulus, factor}
use Rattle.streams.specs.Multipliers.{spacing, multiplier_of, Multipliers}
use Rattle.streams.proofs.Powers.{pow_between}
use Rattle.streams.proofs.Tables.{follows, entry}

-- a small power of a small power
abbrev pub quick : ℕ → ℕ
quick k = ((factor ^ 256 % modulus) ^ 256 % modulus) ^ k % modulus

quick_multiplier : (k : ℕ) → quick k ≡ multiplier_of k
unfolding multiplier_of
quick_multiplier k = ap (λ n. n ^ k % modulus) (pow_between factor 256 256 modulus) ∙ pow_between factor spacing k modulus

-- a table that passes the quick test holds the multipliers
pub computed : (table : List ℕ) → follows quick 0 table ≡ true → Multipliers table
computed table t = record { entry = λ k h. entry quick table t k h ∙ quick_multiplier k }
