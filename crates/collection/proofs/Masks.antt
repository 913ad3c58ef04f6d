-- What a mask does to the bits of a word.
use Rattle.std.proofs.Common.{◌≡◌, ℕ, zero, suc, ◌+◌, ◌-◌, ◌*◌, ◌/◌, ◌%◌, ◌^◌, ◌<◌, ◌≤◌, min, max, true, false, cond, not, ◌&&◌, ◌||◌, eqb, ◌==◌, leb, ◌⊎◌, sym, refl, ap, ◌∙◌, inl, inr, add-mul, one-mul, pow-suc, div-one, one-add, arith}
use Rattle.std.proofs.Math.Nat.{div-eq_of_lt, pow-le-pow_right}
use lib.Dec.{eqb-suc-zero, eqb-zero-suc, eqb-suc-suc}
use lib.Bits.{bit_or, bit_and, or_shr, or_step, and_step, or_add_and, and_high}
use Rattle.std.proofs.lemmas.Nat.{shr-shr, shr_split, shr_high, mod_below, pow_pos, pow_below}
use Rattle.std.proofs.lemmas.Bool.{cases_Bool, cases_eq, cond-true, cond-false, eqb-true, eq-eqb, ne_eqb}
use Rattle.std.proofs.lemmas.Bool.Decides.{nat_tests}
use Rattle.collection.specs.Bits.{has, with, without}
use Rattle.collection.specs.Dairy.{all_free_word}

-- bit i of w, a number
abbrev bit : ℕ → ℕ → ℕ
bit w i = (w / 2 ^ i) % 2

-- one bit further is the same bit of the half
bit_suc : (w i : ℕ) → bit w (suc i) ≡ bit (w / 2) i
bit_suc w i = ap (λ x. x % 2) (ap (λ x. w / 2 ^ x) (sym (one-add i)) ∙ sym (shr-shr w 1 i))

bit_zero : (w : ℕ) → bit w 0 ≡ w % 2
bit_zero w = ap (λ x. x % 2) (div-one w)

bit_none : (i : ℕ) → bit 0 i ≡ 0
bit_none zero = refl
bit_none (suc i) = bit_suc 0 i ∙ bit_none i

-- a word of n bits has none above them
pub has_above : (n w i : ℕ) → w < 2 ^ n → n ≤ i → has w i ≡ false
has_above n w i h l =
    let p : 2 ^ n ≤ 2 ^ i = pow-le-pow_right (omega arith) l in
    let q : w < 2 ^ i = omega arith in
    ap (λ x. x % 2 == 1) (div-eq_of_lt q)

has_or : (a b i : ℕ) → has (bit_or a b) i ≡ (has a i || has b i)
has_or a b i =
    let e : bit (bit_or a b) i ≡ max (bit a i) (bit b i) = rw (or_shr a b i) (omega (arith, or_step (a / 2 ^ i) (b / 2 ^ i))) in
    grind (arith, nat_tests)

-- the one bit of a power
has_pow : (i k : ℕ) → has (2 ^ i) k ≡ eqb k i
has_pow zero zero = refl
has_pow zero (suc k) = ap (λ x. eqb x 1) (bit_suc 1 k ∙ bit_none k) ∙ sym (eqb-suc-zero k)
has_pow (suc i) zero =
    let even : 2 ^ suc i % 2 ≡ 0 = omega (arith, pow-suc 2 i) in
    ap (λ x. eqb x 1) (bit_zero (2 ^ suc i) ∙ even) ∙ sym (eqb-zero-suc i)
has_pow (suc i) (suc k) =
    let half : 2 ^ suc i / 2 ≡ 2 ^ i = omega (arith, pow-suc 2 i) in
    ap (λ x. eqb x 1) (bit_suc (2 ^ suc i) k ∙ ap (λ x. bit x k) half) ∙ has_pow i k ∙ sym (eqb-suc-suc k i)

-- what a mask and its complement keep of a word is the word
and_rest : (n w a : ℕ) → w < 2 ^ n → a < 2 ^ n → bit_and w (2 ^ n - 1 - a) + bit_and w a ≡ w
and_rest zero w a h l =
    let p : w ≡ 0 = omega arith in
    ap (λ x. bit_and x (2 ^ 0 - 1 - a) + bit_and x a) p ∙ sym p
and_rest (suc n) w a h l =
    let half : (2 ^ suc n - 1 - a) / 2 ≡ 2 ^ n - 1 - a / 2 = omega (arith, pow-suc 2 n) in
    let low : (2 ^ suc n - 1 - a) % 2 ≡ 1 - a % 2 = omega (arith, pow-suc 2 n) in
    let ih = and_rest n (w / 2) (a / 2) (omega (arith, pow-suc 2 n)) (omega (arith, pow-suc 2 n)) in
    let rest : bit_and w (2 ^ suc n - 1 - a) ≡ bit_and (w / 2) (2 ^ n - 1 - a / 2) * 2 + min (w % 2) (1 - a % 2) = and_step w (2 ^ suc n - 1 - a) ∙ rw (half, low) in
    omega (arith, and_step w a)

-- the bit that a power keeps of a word
and_pow : (w i : ℕ) → bit_and w (2 ^ i) ≡ cond (has w i) (2 ^ i) 0
and_pow w i =
    let one : 2 ^ (1 + i) - 2 ^ i ≡ 2 ^ i = (rw one-add (omega (arith, pow-suc 2 i))) in
    let e : bit_and w (2 ^ i) ≡ bit w i * 2 ^ i = ap (bit_and w) (sym one) ∙ and_high w 1 i in
    ways (bit w i) (2 ^ i) (bit_and w (2 ^ i)) (omega arith) e
  where
    ways : (b p x : ℕ) → b < 2 → x ≡ b * p → x ≡ cond (eqb b 1) p 0
    ways zero p x h e = omega arith
    ways (suc zero) p x h e = omega arith
    ways (suc (suc b)) p x h e = absurd (omega arith)

pub or_with : (w i : ℕ) → bit_or w (2 ^ i) ≡ with w i
or_with w i =
    let p = and_pow w i in
    let q = or_add_and w (2 ^ i) in
    grind (arith, nat_tests)

pub and_without : (n w i : ℕ) → w < 2 ^ n → i < n → bit_and w (2 ^ n - 1 - 2 ^ i) ≡ without w i
and_without n w i h l =
    let p = and_pow w i in
    let q = and_rest n w (2 ^ i) h (pow_below i n l) in
    grind (arith, nat_tests)

pub has_with : (w i k : ℕ) → has (with w i) k ≡ (eqb k i || has w k)
has_with w i k =
    let p = has_or w (2 ^ i) k in
    let q = has_pow i k in
    ap (λ x. has x k) (sym (or_with w i)) ∙ grind (arith, nat_tests)

-- where bit i is set, it is clear once its worth is taken away
has_less : (w i : ℕ) → has w i ≡ true → (2 ^ i ≤ w) × (has (w - 2 ^ i) i ≡ false)
has_less w i h =
    let q : ℕ = w / 2 ^ i in
    let odd : q % 2 ≡ 1 = eqb-true (q % 2) 1 h in
    let whole : q * 2 ^ i + w % 2 ^ i ≡ w = shr_split w i in
    let one : 1 ≤ q = omega arith in
    let parts : q * 2 ^ i ≡ (q - 1) * 2 ^ i + 2 ^ i = (let e : q ≡ q - 1 + 1 = omega arith in ap (λ x. x * 2 ^ i) e ∙ add-mul (q - 1) 1 (2 ^ i) ∙ ap (λ x. (q - 1) * 2 ^ i + x) (one-mul (2 ^ i))) in
    let less : w - 2 ^ i ≡ (q - 1) * 2 ^ i + w % 2 ^ i = omega arith in
    let above : (w - 2 ^ i) / 2 ^ i ≡ q - 1 = ap (λ x. x / 2 ^ i) less ∙ shr_high (q - 1) i (w % 2 ^ i) (mod_below w (2 ^ i) (pow_pos i)) in
    let even : (q - 1) % 2 ≡ 0 = omega arith in
    (omega arith, ap (λ x. eqb (x % 2) 1) above ∙ ap (λ x. eqb x 1) even)

pub has_without : (w i k : ℕ) → has (without w i) k ≡ (not (eqb k i) && has w k)
has_without w i k = go (cases_Bool (has w i))
  where
    go : (has w i ≡ true) ⊎ (has w i ≡ false) → has (without w i) k ≡ (not (eqb k i) && has w k)
    go (inl e) =
        let l = has_less w i e in
        let back : with (w - 2 ^ i) i ≡ w = cond-false _ _ _ l.1 ∙ (omega arith) in
        let p : has w k ≡ (eqb k i || has (w - 2 ^ i) k) = ap (λ x. has x k) (sym back) ∙ has_with (w - 2 ^ i) i k in
        ap (λ x. has x k) (cond-true _ _ _ e) ∙ ways (cases_eq k i) l.1 p
      where
        ways : (k ≡ i) ⊎ (k ≡ i → ⊥) → has (w - 2 ^ i) i ≡ false → has w k ≡ (eqb k i || has (w - 2 ^ i) k) → has (w - 2 ^ i) k ≡ (not (eqb k i) && has w k)
        ways (inl s) low p = rw (s, low, eq-eqb i i refl)
        ways (inr s) low p = rw (ne_eqb k i s) (sym (rw (ne_eqb k i s) at p))
    go (inr e) = ap (λ x. has x k) (cond-false _ _ _ e) ∙ same (cases_eq k i)
      where
        same : (k ≡ i) ⊎ (k ≡ i → ⊥) → has w k ≡ (not (eqb k i) && has w k)
        same (inl s) = rw (s, e, eq-eqb i i refl)
        same (inr s) = rw (ne_eqb k i s)

-- every tanker's bit, and no other
pub has_all_free : (t k : ℕ) → has (all_free_word t) k ≡ (leb 1 k && leb k t)
has_all_free zero k = let p = bit_none k in grind (arith, nat_tests)
has_all_free (suc t) k = let p = has_all_free t k in has_with (all_free_word t) (suc t) k ∙ grind (arith, nat_tests)
