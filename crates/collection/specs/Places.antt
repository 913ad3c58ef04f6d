-- The places of a day with f farms and t tankers: 0 is the dairy, i is farm i, and f + j is tanker j.
use Rattle.std.specs.Prelude.{ℕ, ◌+◌, Bool, ◌&&◌, nat_le, nat_lt}

-- 1 to 10 farms and 1 to 6 tankers
abbrev pub allowed : ℕ → ℕ → Bool
allowed f t = (nat_le 1 f && nat_le f 10) && (nat_le 1 t && nat_le t 6)

-- the dairy's place
abbrev pub dairy : ℕ
dairy = 0

-- the place of one of f farms
abbrev pub is_farm_place : ℕ → ℕ → Bool
is_farm_place f place = nat_le 1 place && nat_le place f

-- the place of one of t tankers
abbrev pub is_tanker_place : ℕ → ℕ → ℕ → Bool
is_tanker_place f t place = nat_lt f place && nat_le place (f + t)
