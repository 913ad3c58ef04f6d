-- A word is a number by its digits, and what is no text is no word of letters.
use Rattle.std.proofs.Common.{◌≡◌, ℕ, ◌-◌, ◌+◌, ◌*◌, ◌<◌, ◌≤◌, true, false, ◌&&◌, leb, ◌⊎◌, List, [], ◌∷◌, length, fold, Ok, Err, Option, Result, MatchOption, MatchResult, sym, refl, ap, ◌∙◌, subst, ⊎_elim, inl, inr, arith, rules}
use Rattle.std.specs.Str.{bytes_eq, all_ascii_digits, IsUtf8}
use Rattle.std.specs.Str.Parse.{ParsesUnsigned}
use Rattle.std.specs.List.{list_all}
use Rattle.std.specs.Result.{OkIff, result_ok}
use Rattle.std.specs.Borrow.{Bor}
use Rattle.std.specs.Char.{is_ascii_digit}
use Rattle.std.proofs.lemmas.Bool.{cases_Bool, cond-true, cond-false, and_left, and_right, and_from, and_parts, both_ways, cases_lt, le-leb, lt-leb}
use Rattle.std.proofs.lemmas.Fmt.{IsAscii-from_digits}
use Rattle.std.proofs.lemmas.Slice.Eq.{bytes_eq-Decides}
use Rattle.std.proofs.lemmas.Str.{IsUtf8-from_ascii}
use Rattle.std.proofs.lemmas.Str.Parse.{IsNumeralModel, numerals_by_fold, tells_all_ascii_digits, parse_digits}
use Rattle.text.specs.declared.flaw.WordFlaw.TheVariants.{OutOfRange}
use Rattle.text.specs.Text.{some}
use Rattle.text.specs.Numbers.{is_number, value_of, number_of}

-- digits alone, and what they write
pub own : IsNumeralModel (λ ds. all_ascii_digits ds ≡ true) value_of
own = numerals_by_fold _ tells_all_ascii_digits (λ n ds. fold (λ n c. n * 10 + (c - 48)) n ds) (search rules)

pub some_so : (word : List ℕ) → 0 < length word → some word ≡ true
some_so [] h = absurd (omega arith)
some_so (c ∷ cs) h = refl

some_length : (word : List ℕ) → some word ≡ true → 0 < length word
some_length [] h = absurd (both_ways false refl h)
some_length (c ∷ cs) h = omega arith

-- digits are text
pub digits_text : (word : List ℕ) → all_ascii_digits word ≡ true → IsUtf8 word
digits_text word h = IsUtf8-from_ascii word (IsAscii-from_digits word (own.to word h))

list_digits : (word : List ℕ) → all_ascii_digits word ≡ list_all is_ascii_digit word
list_digits [] = refl
list_digits (c ∷ cs) = ap (λ b. is_ascii_digit c && b) (list_digits cs)

pub empty_not : (word : List ℕ) → length word ≡ 0 → is_number word ≡ false
empty_not [] h = refl
empty_not (c ∷ cs) h = absurd (omega arith)

pub digits_not : (word : List ℕ) → list_all is_ascii_digit word ≡ false → is_number word ≡ false
digits_not word h = and_right (some word) _ (list_digits word ∙ h)

pub digits_given : {E : Type 0} (Q : E → Type 0) (word : List ℕ) (r : Result (Bor (List ℕ)) E) (o : Option (Bor (List ℕ))) → 0 < length word → list_all is_ascii_digit word ≡ true
    → MatchResult r (λ s. (s.now ≡ word) × IsUtf8 word) (λ e. ¬ (IsUtf8 word) × Q e) → o ≡ result_ok r
    → MatchOption o (is_number word ≡ false) (λ text. (is_number word ≡ true) × (text.now ≡ word))
digits_given {E} Q word r o h e p k = subst (λ o. MatchOption o (is_number word ≡ false) (λ text. (is_number word ≡ true) × (text.now ≡ word))) (sym k) (go r p)
  where
    digits : all_ascii_digits word ≡ true
    digits = list_digits word ∙ e

    go : (r : Result (Bor (List ℕ)) E) → MatchResult r (λ s. (s.now ≡ word) × IsUtf8 word) (λ e. ¬ (IsUtf8 word) × Q e) → MatchOption (result_ok r) (is_number word ≡ false) (λ text. (is_number word ≡ true) × (text.now ≡ word))
    go (Ok s) p = (and_from _ _ (some_so word h) digits, p.0)
    go (Err e) p = absurd (p.0 (digits_text word digits))

-- what the digits parse as is the number, where it lies in the range
module _ (low high : ℕ) (word text : List ℕ) (given : (is_number word ≡ true) × (text ≡ word)) (fits : high < 4294967296) where
  parsed : {E : Type 0} (r : Result ℕ E) → ParsesUnsigned 32 10 text r → OkIff r ((0 < length word) × (value_of word < 4294967296)) (value_of word)
  parsed r p = parse_digits own 32 word r (rw given.1 at p) (and_parts (some word) (all_ascii_digits word) given.0).1

  refused : (leb low (value_of word) && leb (value_of word) high) ≡ false → Err OutOfRange ≡ number_of low high word
  refused e = let is : is_number word ≡ true = given.0 in sym (cond-true _ _ _ is ∙ cond-false _ _ _ e)

  pub number_within : {E : Type 0} (r : Result ℕ E) (n : ℕ) → r ≡ Ok n → ParsesUnsigned 32 10 text r → low ≤ n → n ≤ high → Ok n ≡ number_of low high word
  number_within r n is p l h =
      let v = (rw is at (parsed r p)).1 in
      let is : is_number word ≡ true = given.0 in
      let e : (leb low (value_of word) && leb (value_of word) high) ≡ true = and_from _ _ (le-leb low (value_of word) (omega arith)) (le-leb (value_of word) high (omega arith)) in
      ap (λ n. Ok n) v ∙ sym (cond-true _ _ _ is ∙ cond-true _ _ _ e)

  pub number_outside : {E : Type 0} (r : Result ℕ E) (n : ℕ) → r ≡ Ok n → ParsesUnsigned 32 10 text r → (n < low) ⊎ (high < n) → Err OutOfRange ≡ number_of low high word
  number_outside r n is p (inl l) = let v = (rw is at (parsed r p)).1 in refused (and_left (leb low (value_of word)) (leb (value_of word) high) (lt-leb low (value_of word) (omega arith)))
  number_outside r n is p (inr h) = let v = (rw is at (parsed r p)).1 in refused (and_right (leb low (value_of word)) (leb (value_of word) high) (lt-leb (value_of word) high (omega arith)))

  pub number_past : {E : Type 0} (r : Result ℕ E) (e : E) → r ≡ Err e → ParsesUnsigned 32 10 text r → Err OutOfRange ≡ number_of low high word
  number_past r e is p =
      let some = some_length word (and_parts (some word) (all_ascii_digits word) given.0).0 in
      let not = rw is at (parsed r p) in
      let past : 4294967296 ≤ value_of word = ⊎_elim (λ (l : value_of word < 4294967296). absurd (not (some, l))) (λ (g : 4294967296 ≤ value_of word). g) (cases_lt (value_of word) 4294967296) in
      refused (and_right (leb low (value_of word)) (leb (value_of word) high) (lt-leb (value_of word) high (omega arith)))

-- what is no text is no word of letters
pub not_word : (word w : List ℕ) → ¬ (IsUtf8 word) → IsUtf8 w → bytes_eq word w ≡ false
not_word word w h u =
    ⊎_elim (λ (e : bytes_eq word w ≡ true). absurd (h (subst IsUtf8 (sym ((bytes_eq-Decides word w).0 e)) u))) (λ (e : bytes_eq word w ≡ false). e) (cases_Bool (bytes_eq word w))
