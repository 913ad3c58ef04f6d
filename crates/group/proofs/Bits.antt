-- The digits of a mask: what its operations do to each.
use Rattle.std.proofs.Common.{◌≡◌, ℕ, zero, suc, ◌+◌, ◌-◌, ◌/◌, ◌%◌, ◌^◌, ◌<◌, ◌≤◌, min, max, Bool, cond, not, ◌&&◌, ◌||◌, eqb, ◌⊎◌, sym, refl, ap, ◌∙◌, inl, inr, add_assoc, pow-suc, div-one, one-add, arith}
use lib.Bits.{bit_or, bit_and, or_shr, and_shr, or_step, and_step}
use lib.Count.{count_trailing_zeros, under, trailing_le, ones, ones_step}
use lib.Dec.{eqb-suc-zero, eqb-zero-suc, eqb-suc-suc}
use Rattle.std.proofs.lemmas.Nat.{shr-shr}
use Rattle.std.proofs.lemmas.Bool.Decides.{nat_tests}
use Rattle.group.specs.Groups.{bit, count}

-- the digit at v is 1
abbrev pub lit : ℕ → ℕ → Bool
lit s v = eqb (bit s v) 1

bit_below : (s v : ℕ) → bit s v < 2
bit_below s v = omega arith

pub lit_or : (a b v : ℕ) → lit (bit_or a b) v ≡ (lit a v || lit b v)
lit_or a b v =
    let e : bit (bit_or a b) v ≡ max (bit a v) (bit b v) = rw (or_shr a b v) (omega (arith, or_step (a / 2 ^ v) (b / 2 ^ v))) in
    let p = bit_below a v in
    let q = bit_below b v in
    grind (arith, nat_tests)

pub lit_and : (a b v : ℕ) → lit (bit_and a b) v ≡ (lit a v && lit b v)
lit_and a b v =
    let e : bit (bit_and a b) v ≡ min (bit a v) (bit b v) = rw (and_shr a b v) (omega (arith, and_step (a / 2 ^ v) (b / 2 ^ v))) in
    let p = bit_below a v in
    let q = bit_below b v in
    grind (arith, nat_tests)

-- one digit further is the same digit of the half
bit_suc : (s v : ℕ) → bit s (suc v) ≡ bit (s / 2) v
bit_suc s v = ap (λ x. x % 2) (ap (λ x. s / 2 ^ x) (sym (one-add v)) ∙ sym (shr-shr s 1 v))

bit_zero : (s : ℕ) → bit s 0 ≡ s % 2
bit_zero s = ap (λ x. x % 2) (div-one s)

pub bit_none : (v : ℕ) → bit 0 v ≡ 0
bit_none zero = refl
bit_none (suc v) = bit_suc 0 v ∙ bit_none v

-- the one digit of a power
pub lit_pow : (c v : ℕ) → lit (2 ^ c) v ≡ eqb v c
lit_pow zero zero = refl
lit_pow zero (suc v) = ap (λ x. eqb x 1) (bit_suc 1 v ∙ bit_none v) ∙ sym (eqb-suc-zero v)
lit_pow (suc c) zero =
    let even : 2 ^ suc c % 2 ≡ 0 = omega (arith, pow-suc 2 c) in
    ap (λ x. eqb x 1) (bit_zero (2 ^ suc c) ∙ even) ∙ sym (eqb-zero-suc c)
lit_pow (suc c) (suc v) =
    let half : 2 ^ suc c / 2 ≡ 2 ^ c = omega (arith, pow-suc 2 c) in
    ap (λ x. eqb x 1) (bit_suc (2 ^ suc c) v ∙ ap (λ x. bit x v) half) ∙ lit_pow c v ∙ sym (eqb-suc-suc v c)

-- the digits of a complement of k digits
bit_rest : (k a v : ℕ) → a < 2 ^ k → v < k → bit (2 ^ k - 1 - a) v ≡ 1 - bit a v
bit_rest zero a v h l = omega arith
bit_rest (suc k) a zero h l =
    let low : (2 ^ suc k - 1 - a) % 2 ≡ 1 - a % 2 = omega (arith, pow-suc 2 k) in
    bit_zero (2 ^ suc k - 1 - a) ∙ low ∙ ap (λ x. 1 - x) (sym (bit_zero a))
bit_rest (suc k) a (suc v) h l =
    let half : (2 ^ suc k - 1 - a) / 2 ≡ 2 ^ k - 1 - a / 2 = omega (arith, pow-suc 2 k) in
    let small : a / 2 < 2 ^ k = omega (arith, pow-suc 2 k) in
    bit_suc (2 ^ suc k - 1 - a) v ∙ ap (λ x. bit x v) half ∙ bit_rest k (a / 2) v small (omega arith) ∙ ap (λ x. 1 - x) (sym (bit_suc a v))

pub lit_rest : (k a v : ℕ) → a < 2 ^ k → v < k → lit (2 ^ k - 1 - a) v ≡ not (lit a v)
lit_rest k a v h l = let e = bit_rest k a v h l in let p = bit_below a v in grind (arith, nat_tests)

-- the lowest digit decides how many zeros are below the lowest 1
abbrev Trails : ℕ → ℕ → Type 0
Trails k s = ((s % 2 ≡ 0) × (count_trailing_zeros (suc k) s ≡ suc (count_trailing_zeros k (s / 2)))) ⊎ ((s % 2 ≡ 1) × (count_trailing_zeros (suc k) s ≡ 0))

trails : (k s : ℕ) → Trails k s
unfolding count_trailing_zeros
trails k s = go (s % 2) (count_trailing_zeros k (s / 2)) (omega arith)
  where
    go : (d t : ℕ) → d < 2 → ((d ≡ 0) × (under d t ≡ suc t)) ⊎ ((d ≡ 1) × (under d t ≡ 0))
    go zero t h = inl (refl, refl)
    go (suc zero) t h = inr (refl, refl)
    go (suc (suc d)) t h = absurd (omega arith)

-- below the lowest 1 there are zeros
pub zeros_below : (k s w : ℕ) → w < count_trailing_zeros k s → bit s w ≡ 0
zeros_below zero s w h = let z : count_trailing_zeros 0 s ≤ 0 = trailing_le 0 s in omega arith
zeros_below (suc k) s w h = go w h (λ u l. zeros_below k (s / 2) u l) (trails k s)
  where
    go : (w : ℕ) → w < count_trailing_zeros (suc k) s → ((w : ℕ) → w < count_trailing_zeros k (s / 2) → bit (s / 2) w ≡ 0) → Trails k s → bit s w ≡ 0
    go w h ih (inr p) = omega arith
    go zero h ih (inl p) = bit_zero s ∙ p.0
    go (suc w) h ih (inl p) = bit_suc s w ∙ ih w (omega arith)

-- and there it is, among the k lowest
abbrev There : ℕ → ℕ → Type 0
There k s = (count_trailing_zeros k s < k) × (bit s (count_trailing_zeros k s) ≡ 1)

pub one_there : (k s : ℕ) → 0 < s → s < 2 ^ k → There k s
one_there zero s p h = absurd (omega arith)
one_there (suc k) s p h = go (λ q l. one_there k (s / 2) q l) (trails k s)
  where
    go : (0 < s / 2 → s / 2 < 2 ^ k → There k (s / 2)) → Trails k s → There (suc k) s
    go ih (inr q) = (omega arith, ap (λ x. bit s x) q.1 ∙ bit_zero s ∙ q.0)
    go ih (inl q) =
        let a : There k (s / 2) = ih (omega arith) (omega (arith, pow-suc 2 k)) in
        (omega arith, ap (λ x. bit s x) q.1 ∙ bit_suc s (count_trailing_zeros k (s / 2)) ∙ a.1)

-- counting from the front
count_front : (f : ℕ → Bool) (n : ℕ) → count f (suc n) ≡ cond (f 0) 1 0 + count (λ v. f (suc v)) n
unfolding count
count_front f zero = omega arith
count_front f (suc n) =
    ap (λ x. x + cond (f (suc n)) 1 0) (count_front f n) ∙ add_assoc (cond (f 0) 1 0) (count (λ v. f (suc v)) n) (cond (f (suc n)) 1 0)

pub count_same : (f g : ℕ → Bool) (n : ℕ) → ((v : ℕ) → v < n → f v ≡ g v) → count f n ≡ count g n
unfolding count
count_same f g zero h = refl
count_same f g (suc n) h =
    ap (λ x. x + cond (f n) 1 0) (count_same f g n (λ v l. h v (omega arith))) ∙ ap (λ b. count g n + cond b 1 0) (h n (omega arith))

-- the ones of a mask
pub ones_count : (k s : ℕ) → s < 2 ^ k → ones s ≡ count (lit s) k
unfolding count ones
ones_count zero s h = ap ones (let z : s ≡ 0 = omega arith in z)
ones_count (suc k) s h =
    let half : s / 2 < 2 ^ k = omega (arith, pow-suc 2 k) in
    let low : cond (lit s 0) 1 0 ≡ s % 2 = (let e = bit_zero s in let p = bit_below s 0 in grind (arith, nat_tests)) in
    ones_step s ∙ ap (λ x. s % 2 + x) (ones_count k (s / 2) half)
    ∙ ap (λ x. x + count (lit (s / 2)) k) (sym low)
    ∙ ap (λ x. cond (lit s 0) 1 0 + x) (count_same (lit (s / 2)) (λ v. lit s (suc v)) k (λ v _. ap (λ b. eqb b 1) (sym (bit_suc s v))))
    ∙ sym (count_front (lit s) k)
