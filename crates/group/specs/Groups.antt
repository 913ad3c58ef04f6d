-- Which variants a group has, and what each operation makes of it.
use Rattle.std.specs.Prelude.{ℕ, zero, suc, ◌+◌, ◌-◌, ◌/◌, ◌%◌, ◌^◌, Bool, ◌&&◌, ◌==◌, bit_and, bit_or, nat_lt, if◌then◌else◌}
use Rattle.group.specs.declared.Group.{Group}

-- the digit of a mask at v, 0 or 1
abbrev pub bit : ℕ → ℕ → ℕ
bit s v = s / 2 ^ v % 2

-- the variant v is in g; a number above 15 is in no group
unfoldable pub has : Group → ℕ → Bool
has g v = nat_lt v 16 && bit g.mask v == 1

abbrev pub none : Group
none = record { mask = 0 }

-- g and v; g itself if v is above 15
unfoldable pub with : Group → ℕ → Group
with g v = if nat_lt v 16 then record { mask = bit_or g.mask (2 ^ v) } else g

-- g but v
unfoldable pub without : Group → ℕ → Group
without g v = if nat_lt v 16 then record { mask = bit_and g.mask (65535 - 2 ^ v) } else g

abbrev pub only : ℕ → Group
only v = with none v

-- the variants of either
abbrev pub joined : Group → Group → Group
joined g h = record { mask = bit_or g.mask h.mask }

-- the variants of both
abbrev pub shared : Group → Group → Group
shared g h = record { mask = bit_and g.mask h.mask }

-- the variants of g that h has not
abbrev pub apart : Group → Group → Group
apart g h = record { mask = bit_and g.mask (65535 - h.mask) }

-- the variants below n that pass
unfoldable pub gathered : (ℕ → Bool) → ℕ → Group
gathered f zero = none
gathered f (suc n) = if f n then with (gathered f n) n else gathered f n

unfoldable pub is_empty : Group → Bool
is_empty g = g.mask == 0

-- how many numbers below n pass
unfoldable pub count : (ℕ → Bool) → ℕ → ℕ
count f zero = 0
count f (suc n) = count f n + (if f n then 1 else 0)
