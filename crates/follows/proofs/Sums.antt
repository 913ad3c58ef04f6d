-- Sums over numbers below a bound, and the first that passes.
use Rattle.std.proofs.Common.{◌≡◌, ℕ, zero, suc, ◌+◌, ◌<◌, ◌≤◌, Bool, true, false, ◌&&◌, eqb, ◌⊎◌, Some, sym, refl, ap, ◌∙◌, subst, inl, inr, ⊎_elim, arith}
use Rattle.std.specs.List.{find, range_with_len}
use Rattle.std.proofs.lemmas.Bool.{cases_Bool, both_ways, cases_eq, cond-true, cond-false, eq-eqb, eqb-true, false_from_ne_true, and_from, and_parts}
use Rattle.std.proofs.lemmas.Bool.Decides.{nat_tests}
use Rattle.account.specs.Account.{ind, any_below, sum_below}
use Rattle.account.proofs.Bounds.{any_from}
use Rattle.account.proofs.Counts.{sum_le, sum_plus}
use Rattle.account.proofs.Leaders.{sum_none}
use Rattle.follows.proofs.Below.{any_at}

-- sums of what is the same below the bound
pub sum_alike : (f g : ℕ → ℕ) (n : ℕ) → ((k : ℕ) → k < n → f k ≡ g k) → sum_below f n ≡ sum_below g n
unfolding sum_below
sum_alike f g zero h = refl
sum_alike f g (suc n) h = let a = sum_alike f g n (λ k l. h k (omega arith)) in let b = h n (omega arith) in omega arith

pub sum_swap : (f : ℕ → ℕ → ℕ) (m n : ℕ) → sum_below (λ i. sum_below (f i) n) m ≡ sum_below (λ j. sum_below (λ i. f i j) m) n
unfolding sum_below
sum_swap f zero n = sym (sum_none n)
sum_swap f (suc m) n = ap (λ x. x + sum_below (f m) n) (sum_swap f m n) ∙ sym (sum_plus (λ j. sum_below (λ i. f i j) m) (f m) n)

-- where at most one passes, whether one does
pub sum_one : (q : ℕ → Bool) (n : ℕ) → ((i j : ℕ) → i < n → j < n → q i ≡ true → q j ≡ true → i ≡ j) → sum_below (λ p. ind (q p)) n ≡ ind (any_below q n)
unfolding sum_below any_below
sum_one q zero h = refl
sum_one q (suc n) h = go (cases_Bool (q n)) (cases_Bool (any_below q n)) (sum_one q n (λ i j l m. h i j (omega arith) (omega arith)))
  where
    go : (q n ≡ true) ⊎ (q n ≡ false) → (any_below q n ≡ true) ⊎ (any_below q n ≡ false) → sum_below (λ p. ind (q p)) n ≡ ind (any_below q n) → sum_below (λ p. ind (q p)) (suc n) ≡ ind (any_below q (suc n))
    go (inl e) (inl d) a = let w = any_at q n d in let l = w.1 in let s = h w.0 n (omega arith) (omega arith) w.2 e in absurd (omega arith)
    go (inl e) (inr d) a = grind (arith, nat_tests)
    go (inr e) d a = grind (arith, nat_tests)

-- one number below n is c
pub sum_at : (b : Bool) (c n : ℕ) → c < n → sum_below (λ k. ind (b && eqb c k)) n ≡ ind b
sum_at b c n l = sum_one (λ k. b && eqb c k) n (λ i j _ _ x y. let p = eqb-true c i (and_parts b (eqb c i) x).1 in let q = eqb-true c j (and_parts b (eqb c j) y).1 in omega arith) ∙ ap ind (hit (cases_Bool b))
  where
    hit : (b ≡ true) ⊎ (b ≡ false) → any_below (λ k. b && eqb c k) n ≡ b
    hit (inl e) = any_from (λ k. b && eqb c k) n c l (and_from b (eqb c c) e (eq-eqb c c refl)) ∙ sym e
    hit (inr e) = false_from_ne_true _ (λ t. let w = any_at (λ k. b && eqb c k) n t in both_ways b e (and_parts b (eqb c w.0) w.2).0) ∙ sym e

-- a sum that is larger at one place
pub sum_less : (f g : ℕ → ℕ) (n v : ℕ) → ((u : ℕ) → u < n → f u ≤ g u) → v < n → f v < g v → sum_below f n < sum_below g n
unfolding sum_below
sum_less f g zero v h l m = absurd (omega arith)
sum_less f g (suc n) v h l m = ⊎_elim
    (λ (e : v ≡ n). let a = sum_le f g n (λ u k. h u (omega arith)) in let b : f n < g n = subst (λ (u : ℕ). f u < g u) e m in omega (arith, a, b))
    (λ (ne : v ≡ n → ⊥). let a = sum_less f g n v (λ u k. h u (omega arith)) (omega (arith, ne)) m in let b = h n (omega arith) in omega (arith, a, b)) (cases_eq v n)

-- where not all pass, one does not
pub some_fails : (q : ℕ → Bool) (n : ℕ) → sum_below (λ c. ind (q c)) n < n → (c : ℕ) × (c < n) × (q c ≡ false)
unfolding sum_below
some_fails q zero h = absurd (omega arith)
some_fails q (suc n) h = ⊎_elim (λ (e : q n ≡ true). let b = ap ind e in let a = some_fails q n (omega arith) in let l = a.1 in (a.0, omega arith, a.2)) (λ (e : q n ≡ false). (n, omega arith, e)) (cases_Bool (q n))

-- where one passes, one is found
pub find_passes : (q : ℕ → Bool) (a n c : ℕ) → a ≤ c → c < a + n → q c ≡ true → (t : ℕ) × (find q (range_with_len a n) ≡ Some t) × (t < a + n) × (q t ≡ true)
find_passes q a zero c l h e = absurd (omega arith)
find_passes q a (suc n) c l h e = ⊎_elim
    (λ (t : q a ≡ true). (a, cond-true (q a) (Some a) (find q (range_with_len (a + 1) n)) t, omega arith, t))
    (λ (t : q a ≡ false).
    let later : a + 1 ≤ c = ⊎_elim (λ (d : c ≡ a). absurd (both_ways (q a) t (subst (λ (i : ℕ). q i ≡ true) d e))) (λ (d : c ≡ a → ⊥). omega (arith, d)) (cases_eq c a) in
    let r = find_passes q (a + 1) n c later (omega arith) e in
    let m = r.2 in
    (r.0, cond-false (q a) (Some a) (find q (range_with_len (a + 1) n)) t ∙ r.1, omega arith, r.3)) (cases_Bool (q a))
