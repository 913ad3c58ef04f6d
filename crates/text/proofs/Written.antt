-- Words that are written out as a line are the words of it, and a number is read from its digits.
use Rattle.std.proofs.Common.{◌≡◌, ℕ, ◌≤◌, Bool, true, false, ◌&&◌, leb, List, [], ◌∷◌, ◌++◌, map, Ok, decimal, filter, refl, ap, ◌∙◌, append_assoc, arith}
use Rattle.std.specs.Char.{is_ascii_digit}
use Rattle.std.specs.List.{onto_first, flat_map, AllByRecursion}
use Rattle.std.specs.Str.{all_ascii_digits}
use Rattle.std.proofs.lemmas.Fmt.{digits_decimal, digits_value-decimal, decimal_nonempty}
use Rattle.std.proofs.ByRecursion.{All-weaker, All-append}
use Rattle.std.proofs.lemmas.Bool.{both_ways, cond-true, cond-false, and_from, and_parts, or_from, le-leb, leb-true, ne_eqb}
use Rattle.text.specs.Text.{newline, hash, blank, some, before, pieces, lines_of, said, words_of}
use Rattle.text.specs.Numbers.{is_number, value_of, number_of}
use Rattle.text.specs.Written.{spaced}
use Rattle.text.proofs.Numbers.{own, some_so}

module _ (mark : ℕ → Bool) where
  -- a piece goes up to its mark
  piece_cut : (p : List ℕ) (c : ℕ) (rest : List ℕ) → AllByRecursion (λ x. mark x ≡ false) p → mark c ≡ true → pieces mark (p ++ (c ∷ rest)) ≡ p ∷ pieces mark rest
  piece_cut [] c rest h e = cond-true _ _ _ e
  piece_cut (x ∷ p) c rest h e = cond-false _ _ _ h.0 ∙ ap (onto_first x) (piece_cut p c rest h.1 e)

  piece_last : (x : ℕ) (p : List ℕ) → AllByRecursion (λ x. mark x ≡ false) (x ∷ p) → pieces mark (x ∷ p) ≡ (x ∷ p) ∷ []
  piece_last x [] h = cond-false _ _ _ h.0
  piece_last x (y ∷ p) h = cond-false _ _ _ h.0 ∙ ap (onto_first x) (piece_last y p h.1)

  before_all : (p : List ℕ) → AllByRecursion (λ x. mark x ≡ false) p → before mark p ≡ p
  before_all [] h = refl
  before_all (x ∷ p) h = cond-false _ _ _ h.0 ∙ ap (λ l. x ∷ l) (before_all p h.1)

-- past the blanks and '#'
abbrev pub Plain : ℕ → Type 0
Plain c = 36 ≤ c

pub record Word (w : List ℕ) : Type 0 where
  pub some : some w ≡ true
  pub plain : AllByRecursion Plain w

plain_blank : (c : ℕ) → Plain c → blank c ≡ false
plain_blank c h = or_from _ _ (ne_eqb c 32 (λ e. omega arith)) (or_from _ _ (ne_eqb c 9 (λ e. omega arith)) (ne_eqb c 13 (λ e. omega arith)))

-- words and the spaces between them
all_spaced : (P : ℕ → Type 0) → P 32 → (ws : List (List ℕ)) → AllByRecursion (AllByRecursion P) ws → AllByRecursion P (spaced ws)
all_spaced P b [] h = tt
all_spaced P b (w ∷ []) h = h.0
all_spaced P b (w ∷ v ∷ ws) h = All-append P w (32 ∷ spaced (v ∷ ws)) h.0 (b, all_spaced P b (v ∷ ws) h.1)

all_plain : (ws : List (List ℕ)) → AllByRecursion Word ws → (mark : ℕ → Bool) → mark 32 ≡ false → ((c : ℕ) → Plain c → mark c ≡ false) → AllByRecursion (λ c. mark c ≡ false) (spaced ws)
all_plain ws h mark b f =
    all_spaced (λ c. mark c ≡ false) b ws
    (All-weaker Word (AllByRecursion (λ c. mark c ≡ false)) (λ w k. All-weaker Plain (λ c. mark c ≡ false) f w k.plain) ws h)

-- the words of what is written, after its comment is cut
words_one : (w : List ℕ) → Word w → words_of w ≡ w ∷ []
words_one [] h = absurd (both_ways false refl h.some)
words_one (c ∷ w) h = ap (filter some) (piece_last blank c w (All-weaker Plain (λ c. blank c ≡ false) plain_blank (c ∷ w) h.plain))

words_spaced : (ws : List (List ℕ)) → AllByRecursion Word ws → words_of (spaced ws) ≡ ws
words_spaced [] h = refl
words_spaced (w ∷ []) h = words_one w h.0
words_spaced (w ∷ v ∷ ws) h =
    ap (filter some) (piece_cut blank w 32 (spaced (v ∷ ws)) (All-weaker Plain (λ c. blank c ≡ false) plain_blank w h.0.plain) refl)
    ∙ cond-true _ _ _ h.0.some ∙ ap (λ l. w ∷ l) (words_spaced (v ∷ ws) h.1)

pub words_said : (ws : List (List ℕ)) → AllByRecursion Word ws → words_of (said (spaced ws)) ≡ ws
words_said ws h = ap words_of (before_all hash (spaced ws) (all_plain ws h hash refl (λ c k. ne_eqb c 35 (λ e. omega arith)))) ∙ words_spaced ws h

pub lines_written : (ls : List (List (List ℕ))) → AllByRecursion (AllByRecursion Word) ls → lines_of (flat_map (λ ws. spaced ws ++ (10 ∷ [])) ls) ≡ map spaced ls
lines_written [] h = refl
lines_written (ws ∷ ls) h =
    ap lines_of (append_assoc (spaced ws) (10 ∷ []) (flat_map (λ ws. spaced ws ++ (10 ∷ [])) ls))
    ∙ piece_cut newline (spaced ws) 10 _ (all_plain ws h.0 newline refl (λ c k. ne_eqb c 10 (λ e. omega arith))) refl
    ∙ ap (λ l. spaced ws ∷ l) (lines_written ls h.1)

-- a number is read from its digits
plain_digits : (ds : List ℕ) → all_ascii_digits ds ≡ true → AllByRecursion Plain ds
plain_digits [] h = tt
plain_digits (c ∷ ds) h =
    let k = and_parts (is_ascii_digit c) (all_ascii_digits ds) h in
    let d = leb-true 48 c (and_parts (leb 48 c) (leb c 57) k.0).0 in
    (omega arith, plain_digits ds k.1)

pub word_decimal : (n : ℕ) → n ≤ 4294967295 → Word (decimal n)
word_decimal n h = record { some = some_so (decimal n) (decimal_nonempty n (omega arith)); plain = plain_digits (decimal n) (digits_decimal own n (omega arith)) }

pub number_decimal : (low high n : ℕ) → low ≤ n → n ≤ high → high ≤ 4294967295 → number_of low high (decimal n) ≡ Ok n
number_decimal low high n l h b =
    let v = digits_value-decimal own n (omega arith) in
    let is : is_number (decimal n) ≡ true = and_from _ _ (some_so (decimal n) (decimal_nonempty n (omega arith))) (digits_decimal own n (omega arith)) in
    let at : (leb low (value_of (decimal n)) && leb (value_of (decimal n)) high) ≡ true = and_from _ _ (le-leb low (value_of (decimal n)) (omega arith)) (le-leb (value_of (decimal n)) high (omega arith)) in
    cond-true _ _ _ is ∙ cond-true _ _ _ at ∙ ap (λ m. Ok m) v

-- a word that is given letter by letter
abbrev pub plainly : List ℕ → Bool
plainly [] = true
plainly (c ∷ w) = leb 36 c && plainly w

plain_by : (w : List ℕ) → plainly w ≡ true → AllByRecursion Plain w
plain_by [] h = tt
plain_by (c ∷ w) h = let k = and_parts (leb 36 c) (plainly w) h in (leb-true 36 c k.0, plain_by w k.1)

pub word_by : (w : List ℕ) → some w ≡ true → plainly w ≡ true → Word w
word_by w s h = record { some = s; plain = plain_by w h }
