-- Who leads, and how many there are.
use Rattle.std.proofs.Common.{◌≡◌, ℕ, zero, suc, ◌+◌, ◌<◌, ◌≤◌, Bool, true, false, cond, not, ◌&&◌, refl, ap, ◌∙◌, ⊎_elim, arith}
use Rattle.std.proofs.lemmas.Bool.{both_ways, or_cases}
use Rattle.group.specs.declared.Group.{Group}
use Rattle.group.specs.Groups.{count, has}
use Rattle.account.specs.Account.{any_below, ind, sum_below}
use Rattle.account.specs.Groups.{leads}
use Rattle.account.proofs.Leaders.{any_same}

-- some number below n passes
pub any_at : (q : ℕ → Bool) (n : ℕ) → any_below q n ≡ true → (v : ℕ) × (v < n) × (q v ≡ true)
unfolding any_below
any_at q zero h = absurd (both_ways false (λ i. false) h)
any_at q (suc n) h = ⊎_elim (λ (e : q n ≡ true). (n, omega arith, e)) (λ (e : any_below q n ≡ true). let r = any_at q n e in let l = r.1 in (r.0, omega arith, r.2)) (or_cases (q n) (any_below q n) h)

-- no more than n are counted of n
pub few_counted : (f : ℕ → Bool) (n : ℕ) → count f n ≤ n
unfolding count
few_counted f zero = omega arith
few_counted f (suc n) = one (f n) (few_counted f n)
  where
    one : (b : Bool) → count f n ≤ n → count f n + cond b 1 0 ≤ suc n
    one true h = omega (arith, h)
    one false h = omega (arith, h)

-- a count is a sum
pub counted : (f g : ℕ → Bool) (n : ℕ) → ((v : ℕ) → v < n → f v ≡ g v) → count f n ≡ sum_below (λ v. ind (g v)) n
unfolding count sum_below
counted f g zero h = refl
counted f g (suc n) h = (λ i. counted f g n (λ v l. h v (omega (arith, l))) i + ind (h n (omega arith) i))

-- a live variant outside the group, and one of those outside it that are live
pub outside : (live group rest : Group) (s : ℕ → Bool) → ((w : ℕ) → has rest w ≡ (has live w && not (has group w))) → any_below (λ u. has rest u && s u) 16 ≡ any_below (λ u. has live u && (s u && not (has group u))) 16
outside live group rest s is = any_same (λ u. has rest u && s u) (λ u. has live u && (s u && not (has group u))) 16 (λ u. ap (λ b. b && s u) (is u) ∙ turned (has live u) (not (has group u)) (s u))
  where
    turned : (a b c : Bool) → ((a && b) && c) ≡ (a && (c && b))
    turned true true true = refl
    turned true true false = refl
    turned true false true = refl
    turned true false false = refl
    turned false b c = refl

-- who leads is live
pub few_lead : (live : ℕ → Bool) (share : ℕ → ℕ → Bool) (n : ℕ) → sum_below (λ v. ind (leads live share v)) n ≤ count live n
unfolding count sum_below
few_lead live share zero = omega arith
few_lead live share (suc n) = one (live n) _ (few_lead live share n)
  where
    one : (a b : Bool) → sum_below (λ v. ind (leads live share v)) n ≤ count live n → sum_below (λ v. ind (leads live share v)) n + ind (a && b) ≤ count live n + cond a 1 0
    one true true h = omega (arith, h)
    one true false h = omega (arith, h)
    one false b h = omega (arith, h)
