-- Tests of the numbers below a bound.
use Rattle.std.proofs.Common.{◌≡◌, ℕ, zero, suc, ◌<◌, Bool, true, false, ⊎_elim, arith}
use Rattle.std.proofs.lemmas.Bool.{cases_Bool, both_ways, false_from_ne_true, or_cases}
use Rattle.account.specs.Account.{any_below}

-- the first that passes
pub first_below : (q : ℕ → Bool) (n : ℕ) → any_below q n ≡ true → (v : ℕ) × (v < n) × (q v ≡ true) × (any_below q v ≡ false)
unfolding any_below
first_below q zero h = absurd (both_ways false (λ i. false) h)
first_below q (suc n) h = ⊎_elim
    (λ (e : any_below q n ≡ true). let r = first_below q n e in let l = r.1 in (r.0, omega arith, r.2, r.3))
    (λ (e : any_below q n ≡ false). (n, omega arith, ⊎_elim (λ t. t) (λ t. absurd (both_ways (any_below q n) e t)) (or_cases (q n) (any_below q n) h), e)) (cases_Bool (any_below q n))

pub any_at : (q : ℕ → Bool) (n : ℕ) → any_below q n ≡ true → (v : ℕ) × (v < n) × (q v ≡ true)
any_at q n h = let r = first_below q n h in (r.0, r.1, r.2)

pub none_below : (q : ℕ → Bool) (n : ℕ) → ((v : ℕ) → v < n → q v ≡ true → ⊥) → any_below q n ≡ false
none_below q n f = false_from_ne_true _ (λ t. let r = any_at q n t in f r.0 r.1 r.2)
