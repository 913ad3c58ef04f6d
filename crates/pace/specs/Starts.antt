-- The starting lists.
use Rattle.std.specs.Prelude.{ℕ, zero, suc, ◌+◌, ◌*◌, ◌%◌, List, [], ◌∷◌, ◌++◌}
use Rattle.event.specs.declared.Start.{Start}

-- of PHOLD, message i is for the place i mod p, at second i
abbrev pub passed_at : ℕ → ℕ → Start
passed_at places i = record { time = i; receiver = i % places; kind = 0; «data» = i }

-- of a collection day, farm 1 + i mod f has milked 1000 + 700 (i mod 7) litres at second 300 i
abbrev pub milked_at : ℕ → ℕ → Start
milked_at farms i = record { time = 300 * i; receiver = 1 + i % farms; kind = 0; «data» = 1000 + 700 * (i % 7) }

-- so many of them
unfoldable pub listed : (ℕ → Start) → ℕ → List Start
listed f zero = []
listed f (suc n) = listed f n ++ f n ∷ []
