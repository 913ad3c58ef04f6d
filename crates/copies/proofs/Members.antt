-- The members of a group, taken one after the other, the smallest first.
use Rattle.std.proofs.Common.{◌≡◌, ℕ, zero, suc, ◌+◌, ◌<◌, ◌≤◌, Bool, true, false, cond, ltb, leb, eqb, not, ◌&&◌, sym, refl, ap, ◌∙◌, ⊎_elim, arith}
use Rattle.std.proofs.lemmas.Bool.{cases_eq, cases_lt, eq-eqb, ne_eqb, and_parts, and_right, both_ways}
use Rattle.std.proofs.lemmas.Bool.Decides.{nat_tests}
use Rattle.group.specs.declared.Group.{Group}
use Rattle.group.specs.Groups.{count, has}
use Rattle.group.proofs.Members.{has_above}

at_most : (a b : Bool) → (b ≡ true → a ≡ true) → cond b 1 0 ≤ cond a 1 0
at_most true true h = omega arith
at_most true false h = omega arith
at_most false false h = omega arith
at_most false true h = absurd (both_ways false (λ i. false) (h refl))

no_more : (f g : ℕ → Bool) (n : ℕ) → ((w : ℕ) → g w ≡ true → f w ≡ true) → count g n ≤ count f n
unfolding count
no_more f g zero h = omega arith
no_more f g (suc n) h = let a = no_more f g n h in let b = at_most (f n) (g n) (h n) in omega (arith, a, b)

-- one member is taken, so fewer are left
pub fewer : (f g : ℕ → Bool) (n v : ℕ) → ((w : ℕ) → g w ≡ true → f w ≡ true) → v < n → f v ≡ true → g v ≡ false → count g n < count f n
unfolding count
fewer f g zero v h l e d = absurd (omega arith)
fewer f g (suc n) v h l e d = ⊎_elim
    (λ (s : v ≡ n).
    let a = no_more f g n h in
    let x : ◌≡◌ {A = ℕ} (cond (f n) 1 0) 1 = ap (λ b. cond b 1 0) (ap f (sym s) ∙ e) in
    let y : ◌≡◌ {A = ℕ} (cond (g n) 1 0) 0 = ap (λ b. cond b 1 0) (ap g (sym s) ∙ d) in
    omega (arith, a, x, y))
    (λ (ne : v ≡ n → ⊥). let a = fewer f g n v h (omega (arith, ne)) e d in let b = at_most (f n) (g n) (h n) in omega (arith, a, b)) (cases_eq v n)

-- those of a group from n on are left
pub record From (group rest : ℕ → Bool) (n : ℕ) : Type 0 where
  pub small : n ≤ 16
  pub left : (w : ℕ) → rest w ≡ (leb n w && group w)

-- and nobody between n and the smallest of them is in the group
pub gap : (group rest : ℕ → Bool) (n : ℕ) → From group rest n → (w : ℕ) → n ≤ w → rest w ≡ false → group w ≡ false
gap group rest n h w l e = let k : leb n w ≡ true = grind (arith, nat_tests) in sym (ap (λ b. b && group w) k) ∙ sym (h.left w) ∙ e

pub reached : (group rest : ℕ → Bool) (n v : ℕ) → From group rest n → rest v ≡ true → n ≤ v
reached group rest n v h e = let k = (and_parts (leb n v) (group v) (sym (h.left v) ∙ e)).0 in grind (arith, nat_tests)

-- all are left at first
pub from_same : (group rest : ℕ → Bool) → ((w : ℕ) → rest w ≡ group w) → From group rest 0
from_same group rest is = record { small = omega arith; left = λ w. let k : leb 0 w ≡ true = grind (arith, nat_tests) in is w ∙ sym (ap (λ b. b && group w) k) }

pub from_all : (group : ℕ → Bool) → From group group 0
from_all group = from_same group group (λ w. refl)

-- and those behind v once v is taken
pub from_next : (group rest new : ℕ → Bool) (n v : ℕ) → From group rest n → v < 16 → rest v ≡ true → ((w : ℕ) → w < v → rest w ≡ false) → ((w : ℕ) → new w ≡ (not (eqb w v) && rest w)) → From group new (v + 1)
from_next group rest new n v h s e low is = record { small = omega (arith, s); left = λ w. is w ∙ ⊎_elim (λ (l : w < v). before w l) (λ (l : v ≤ w). after w l) (cases_lt w v) }
  where
    before : (w : ℕ) → w < v → (not (eqb w v) && rest w) ≡ (leb (v + 1) w && group w)
    before w l = let k : leb (v + 1) w ≡ false = grind (arith, nat_tests) in and_right (not (eqb w v)) (rest w) (low w l) ∙ sym (ap (λ b. b && group w) k)

    after : (w : ℕ) → v ≤ w → (not (eqb w v) && rest w) ≡ (leb (v + 1) w && group w)
    after w l = ⊎_elim
        (λ (q : w ≡ v). let k : leb (v + 1) w ≡ false = grind (arith, nat_tests) in ap (λ b. not b && rest w) (eq-eqb w v q) ∙ sym (ap (λ b. b && group w) k))
        (λ (ne : w ≡ v → ⊥).
        let m = reached group rest n v h e in
        let k : leb (v + 1) w ≡ true = grind (arith, nat_tests) in
        let j : leb n w ≡ true = grind (arith, nat_tests) in
        ap (λ b. not b && rest w) (ne_eqb w v ne) ∙ h.left w ∙ ap (λ b. b && group w) (j ∙ sym k)) (cases_eq w v)

-- who is left is of the group
pub next_of_group : (group rest : ℕ → Bool) (n : ℕ) → From group rest n → (f : ℕ → Bool) (v : ℕ) → rest v ≡ true → group v ≡ true
next_of_group group rest n h f v e = (and_parts (leb n v) (group v) (sym (h.left v) ∙ e)).1

-- a member is below 16
pub member_small : (g : Group) (v : ℕ) → has g v ≡ true → v < 16
member_small g v e = ⊎_elim (λ (l : v < 16). l) (λ (l : 16 ≤ v). absurd (both_ways (has g v) (has_above g v (let k : ltb v 16 ≡ false = grind (arith, nat_tests) in k)) e)) (cases_lt v 16)

-- once v has left, only members are left, and v is none
module _ (rest new : Group) (v : ℕ) (is : (w : ℕ) → has new w ≡ (not (eqb w v) && has rest w)) where
  pub left_by : (w : ℕ) → has new w ≡ true → has rest w ≡ true
  left_by w e = (and_parts (not (eqb w v)) (has rest w) (sym (is w) ∙ e)).1

  pub gone : has new v ≡ false
  gone = is v ∙ ap (λ b. not b && has rest v) (eq-eqb v v refl)
