-- The bits of a word, counted from 0.
use Rattle.std.specs.Prelude.{ℕ, ◌+◌, ◌-◌, ◌/◌, ◌%◌, ◌^◌, Bool, if◌then◌else◌, ◌==◌}

-- bit i of w is set
abbrev pub has : ℕ → ℕ → Bool
has w i = (w / 2 ^ i) % 2 == 1

-- w with bit i set
abbrev pub with : ℕ → ℕ → ℕ
with w i = if has w i then w else w + 2 ^ i

-- w without bit i
abbrev pub without : ℕ → ℕ → ℕ
without w i = if has w i then w - 2 ^ i else w
