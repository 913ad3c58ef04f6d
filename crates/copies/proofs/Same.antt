-- Two groups with the same members are one.
use Rattle.std.proofs.Common.{◌≡◌, ℕ, zero, suc, ◌/◌, ◌%◌, ◌^◌, ◌<◌, Bool, true, false, bit_or, ◌&&◌, ltb, eqb, sym, refl, ap, ◌∙◌, one-add, div-one, pow-suc, arith}
use Rattle.std.proofs.lemmas.Nat.{or_lt, shr-shr}
use Rattle.std.proofs.Math.Pow.{pow-lt}
use Rattle.std.proofs.lemmas.Bool.{cond_both, lt-ltb, ltb-true}
use Rattle.std.proofs.lemmas.Bool.Decides.{nat_tests}
use Rattle.group.specs.declared.Group.{Group}
use Rattle.group.specs.Groups.{bit, gathered, has, with}
use Rattle.group.proofs.Members.{has_gathered}

bit_suc : (s v : ℕ) → bit s (suc v) ≡ bit (s / 2) v
bit_suc s v = ap (λ x. x % 2) (ap (λ x. s / 2 ^ x) (sym (one-add v)) ∙ sym (shr-shr s 1 v))

bit_zero : (s : ℕ) → bit s 0 ≡ s % 2
bit_zero s = ap (λ x. x % 2) (div-one s)

-- numbers with the same digits are one
same_digits : (k a b : ℕ) → a < 2 ^ k → b < 2 ^ k → ((v : ℕ) → v < k → bit a v ≡ bit b v) → a ≡ b
same_digits zero a b l m h = omega (arith, l, m)
same_digits (suc k) a b l m h =
    let p = pow-suc 2 k in
    let low : a % 2 ≡ b % 2 = sym (bit_zero a) ∙ h 0 (omega arith) ∙ bit_zero b in
    let high : a / 2 ≡ b / 2 = same_digits k (a / 2) (b / 2) (omega (arith, p, l)) (omega (arith, p, m)) (λ v n. sym (bit_suc a v) ∙ h (suc v) (omega (arith, n)) ∙ bit_suc b v) in
    omega (arith, low, high)

same_bit : (a b v : ℕ) → eqb (bit a v) 1 ≡ eqb (bit b v) 1 → bit a v ≡ bit b v
same_bit a b v e = let p : bit a v < 2 = omega arith in let q : bit b v < 2 = omega arith in grind (arith, nat_tests)

same_group : (g h : Group) → g.mask < 65536 → h.mask < 65536 → ((v : ℕ) → has g v ≡ has h v) → g ≡ h
unfolding has
same_group g h l m e = λ i. record {
  mask = same_digits 16 g.mask h.mask l m (λ v n.
      let k = lt-ltb v 16 n in
      same_bit g.mask h.mask v (sym (ap (λ b. b && eqb (bit g.mask v) 1) k) ∙ e v ∙ ap (λ b. b && eqb (bit h.mask v) 1) k)) i;
}

low_with : (g : Group) (v : ℕ) → g.mask < 65536 → (with g v).mask < 65536
unfolding with
low_with g v l = cond_both (ltb v 16) (record { mask = bit_or g.mask (2 ^ v) }) g (λ (h : Group). h.mask < 65536) (λ e. or_lt 16 g.mask (2 ^ v) l (pow-lt (ltb-true v 16 e))) (λ _. l)

low_gathered : (f : ℕ → Bool) (n : ℕ) → (gathered f n).mask < 65536
unfolding gathered
low_gathered f zero = omega arith
low_gathered f (suc n) = cond_both (f n) (with (gathered f n) n) (gathered f n) (λ (h : Group). h.mask < 65536) (λ _. low_with (gathered f n) n (low_gathered f n)) (λ _. low_gathered f n)

-- the members of a group that pass, gathered
pub gathered_of : (g : Group) (among f : ℕ → Bool) → g.mask < 65536 → ((w : ℕ) → has g w ≡ (among w && (ltb w 16 && f w))) → g ≡ gathered (λ w. among w && f w) 16
gathered_of g among f l is = same_group g (gathered (λ w. among w && f w) 16) l (low_gathered _ 16) (λ w. is w ∙ turned (ltb w 16) (among w) (f w) ∙ sym (has_gathered (λ u. among u && f u) 16 w))
  where
    turned : (a b c : Bool) → (b && (a && c)) ≡ (a && (a && (b && c)))
    turned true true c = refl
    turned true false c = refl
    turned false true c = refl
    turned false false c = refl
