-- Numbers in a column: two digits, and spaces behind.
use Rattle.std.proofs.Common.{◌≡◌, ℕ, ◌-◌, ◌^◌, ◌/◌, ◌%◌, ◌<◌, ◌≤◌, false, [], ◌++◌, length, ⊎_elim, ap, arith}
use Rattle.std.proofs.lemmas.Bool.{cases_lt}
use Rattle.std.specs.Prelude.{codes}
use Rattle.std.specs.Char.{encode_utf8}
use Rattle.std.specs.List.{repeat}
use Rattle.std.specs.Fmt.{decimal, padded_integral, format_spec, char_count}
use Rattle.std.proofs.lemmas.Fmt.{decimal_digit, decimal_step}
use Rattle.report.specs.Words.{two_digits, in_column}

-- what `{:02}` writes of a number below 100
pub padded_two : (n : ℕ) → n < 100 → padded_integral (format_spec 32 0 4 2 (2 ^ 64 - 1)) false [] (decimal n) ≡ two_digits n
unfolding padded_integral char_count
padded_two n small = ⊎_elim
    (λ (one : n < 10).
    let high : n / 10 ≡ 0 = omega arith in
    let low : n % 10 ≡ n = omega arith in
    rw (high, low, decimal_digit n one, decimal_digit 0 (omega arith)))
    (λ (two : 10 ≤ n). rw (decimal_step n two (omega arith), decimal_digit (n / 10) (omega arith), decimal_digit (n % 10) (omega arith)))
    (cases_lt n 10)

-- what `{:<width}` writes of a number
pub padded_column : (width n : ℕ) → padded_integral (format_spec 32 1 0 width (2 ^ 64 - 1)) false [] (decimal n) ≡ in_column width n
unfolding padded_integral char_count encode_utf8
padded_column width n =
    let room : width - length (decimal n) - 0 - 0 - 0 ≡ width - length (decimal n) = omega arith in
    ap (λ (k : ℕ). decimal n ++ repeat k (codes " ")) room
