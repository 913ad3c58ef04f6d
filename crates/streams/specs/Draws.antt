-- Park and Miller's minimal standard.
use Rattle.std.specs.Prelude.{ℕ, zero, suc, ◌*◌, ◌%◌}

-- the prime 2^31 − 1
abbrev pub modulus : ℕ
modulus = 2147483647

-- what a draw multiplies by
abbrev pub factor : ℕ
factor = 16807

-- a product, reduced
abbrev pub times_of : ℕ → ℕ → ℕ
times_of a b = a * b % modulus

-- the draw that follows x
abbrev pub draw_of : ℕ → ℕ
draw_of x = times_of factor x

-- the number after n draws from x
unfoldable pub draws_of : ℕ → ℕ → ℕ
draws_of zero x = x
draws_of (suc n) x = draw_of (draws_of n x)
