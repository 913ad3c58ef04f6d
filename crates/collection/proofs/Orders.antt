-- What an order chooses: the nearest farm, the farthest or the smallest-numbered.
use Rattle.std.proofs.Common.{◌≡◌, ℕ, ◌<◌, ◌≤◌, Bool, true, false, cond, ◌||◌, eqb, ltb, ◌⊎◌, refl, ap, subst, inl, inr, arith}
use Rattle.std.proofs.lemmas.Bool.{eq-eqb, ne_eqb}
use Rattle.std.proofs.lemmas.Bool.Decides.{nat_tests}
use Rattle.collection.specs.Choice.{preferred, chosen_farm_of, Noted, Nearest, Farthest, Smallest, Chosen}
use Rattle.collection.specs.Roads.{drive_of}
use Rattle.collection.specs.Picking.{LinesUp, Foremost, foremost, rightly}

-- farm i, with drive x, goes ahead of farm k, with drive y, under order 2, under order 1 or under another
abbrev ahead : Bool → Bool → ℕ → ℕ → ℕ → ℕ → Bool
ahead two one x y i k = cond (two || eqb x y) (ltb i k) (cond one (ltb y x) (ltb x y))

chain : (two one : Bool) (x y z i k m : ℕ) → ahead two one x y i k ≡ true → ahead two one y z k m ≡ true → ahead two one x z i m ≡ true
chain true one x y z i k m a b = grind (arith, nat_tests)
chain false true x y z i k m a b = grind (arith, nat_tests)
chain false false x y z i k m a b = grind (arith, nat_tests)

total : (two one : Bool) (x y i k : ℕ) → k < i → ahead two one x y i k ≡ false → ahead two one y x k i ≡ true
total true one x y i k h a = grind (arith, nat_tests)
total false true x y i k h a = grind (arith, nat_tests)
total false false x y i k h a = grind (arith, nat_tests)

by_order : (order : ℕ) → LinesUp (preferred order)
by_order order = record {
  chain = λ i k m. chain (eqb order 2) (eqb order 1) (drive_of i) (drive_of k) (drive_of m) i k m;
  total = λ i k. total (eqb order 2) (eqb order 1) (drive_of i) (drive_of k) i k;
}

chosen : (order w f : ℕ) → Chosen (Foremost (preferred order)) w f (chosen_farm_of order w f)
chosen order w f = foremost (preferred order) (by_order order) w f

-- what it is to be the same farm, or to go ahead under each order
near : (x y i k : ℕ) → ((x ≡ y) × (i ≡ k)) ⊎ (ahead false false x y i k ≡ true) → (x ≤ y) × (x ≡ y → i ≤ k)
near x y i k a = (grind (arith, nat_tests), λ e. grind (arith, nat_tests))

far : (x y i k : ℕ) → ((x ≡ y) × (i ≡ k)) ⊎ (ahead false true x y i k ≡ true) → (y ≤ x) × (x ≡ y → i ≤ k)
far x y i k a = (grind (arith, nat_tests), λ e. grind (arith, nat_tests))

small : (one : Bool) (x y i k : ℕ) → ((x ≡ y) × (i ≡ k)) ⊎ (ahead true one x y i k ≡ true) → i ≤ k
small one x y i k a = grind (arith, nat_tests)

-- the first of the noted farms, with the tests of its order told
first : (order w f i : ℕ) (two one : Bool) → eqb order 2 ≡ two → eqb order 1 ≡ one → Foremost (preferred order) w f i
    → (k : ℕ) → Noted w f k → ((drive_of i ≡ drive_of k) × (i ≡ k)) ⊎ (ahead two one (drive_of i) (drive_of k) i k ≡ true)
first order w f i two one p q h k m =
    elim (h.first k m) [
      | inl e ↦ inl (ap drive_of e, e)
      | inr a ↦ inr (subst (λ b. ahead b one (drive_of i) (drive_of k) i k ≡ true) p (subst (λ b. ahead (eqb order 2) b (drive_of i) (drive_of k) i k ≡ true) q a))
    ]

pub nearest : (order w f : ℕ) → (order ≡ 1 → ⊥) → (order ≡ 2 → ⊥) → Chosen Nearest w f (chosen_farm_of order w f)
nearest order w f one two = rightly (preferred order) Nearest w f made (chosen_farm_of order w f) (chosen order w f)
  where
    made : (i : ℕ) → Foremost (preferred order) w f i → Nearest w f i
    made i h =
        let told : (k : ℕ) → Noted w f k → (drive_of i ≤ drive_of k) × (drive_of i ≡ drive_of k → i ≤ k) =
        λ k m. near (drive_of i) (drive_of k) i k (first order w f i false false (ne_eqb order 2 two) (ne_eqb order 1 one) h k m) in
        record { noted = h.noted; near = λ k m. (told k m).0; tie = λ k m. (told k m).1 }

pub farthest : (order w f : ℕ) → order ≡ 1 → Chosen Farthest w f (chosen_farm_of order w f)
farthest order w f one = rightly (preferred order) Farthest w f made (chosen_farm_of order w f) (chosen order w f)
  where
    made : (i : ℕ) → Foremost (preferred order) w f i → Farthest w f i
    made i h =
        let told : (k : ℕ) → Noted w f k → (drive_of k ≤ drive_of i) × (drive_of i ≡ drive_of k → i ≤ k) =
        λ k m. far (drive_of i) (drive_of k) i k (first order w f i false true (ne_eqb order 2 (λ e. omega arith)) (eq-eqb order 1 one) h k m) in
        record { noted = h.noted; far = λ k m. (told k m).0; tie = λ k m. (told k m).1 }

pub smallest : (order w f : ℕ) → order ≡ 2 → Chosen Smallest w f (chosen_farm_of order w f)
smallest order w f two = rightly (preferred order) Smallest w f made (chosen_farm_of order w f) (chosen order w f)
  where
    made : (i : ℕ) → Foremost (preferred order) w f i → Smallest w f i
    made i h = record {
      noted = h.noted;
      small = λ k m. small (eqb order 1) (drive_of i) (drive_of k) i k (first order w f i true (eqb order 1) (eq-eqb order 2 two) refl h k m);
    }
