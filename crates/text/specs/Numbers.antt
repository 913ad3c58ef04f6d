-- The number that a word writes.
use Rattle.std.specs.Prelude.{ℕ, ◌+◌, ◌-◌, ◌*◌, Bool, if◌then◌else◌, ◌&&◌, List, Ok, Err, fold, Result, nat_le}
use Rattle.std.specs.Str.{all_ascii_digits}
use Rattle.text.specs.declared.flaw.WordFlaw.{WordFlaw}
use Rattle.text.specs.declared.flaw.WordFlaw.TheVariants.{NotANumber, OutOfRange}
use Rattle.text.specs.Text.{some}

-- one or more decimal digits, and nothing else
abbrev pub is_number : List ℕ → Bool
is_number word = some word && all_ascii_digits word

-- what digits write, the first being worth most; the code of '0' is 48
abbrev pub value_of : List ℕ → ℕ
value_of word = fold (λ n c. n * 10 + (c - 48)) 0 word

-- a number from low to high
abbrev pub number_of : ℕ → ℕ → List ℕ → Result ℕ WordFlaw
number_of low high word =
    if is_number word then (if nat_le low (value_of word) && nat_le (value_of word) high then Ok (value_of word) else Err OutOfRange)
    else Err NotANumber
