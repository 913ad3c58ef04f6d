-- Executions are no more than the events of all variants made.
use Rattle.std.proofs.Common.{◌≡◌, ℕ, zero, suc, ◌+◌, ◌<◌, ◌≤◌, Bool, true, false, cond, ◌&&◌, eqb, ◌⊎◌, Some, None, Option, sym, refl, ap, subst, inl, inr, ⊎_elim, arith}
use Rattle.std.proofs.lemmas.Bool.{cases_Bool, cond_both, cases_eq}
use Rattle.std.proofs.lemmas.Bool.Decides.{nat_tests}
use Rattle.event.specs.declared.Key.{Key}
use Rattle.model.specs.Meaning.{Meaning}
use Rattle.account.specs.Account.{Account, ind, sum_below, least, runs, leads_run, fed_branch, fed_step_at, fed_step}
use Rattle.account.specs.Sound.{Sound, Bounded}
use Rattle.account.proofs.Step.{runs_live}

pub sum_le : (f g : ℕ → ℕ) (n : ℕ) → ((v : ℕ) → v < n → f v ≤ g v) → sum_below f n ≤ sum_below g n
unfolding sum_below
sum_le f g zero h = omega arith
sum_le f g (suc n) h =
    let a = sum_le f g n (λ v l. h v (let z : v < suc n = omega arith in z)) in let b = h n (let z : n < suc n = omega arith in z) in omega arith

pub sum_plus : (f g : ℕ → ℕ) (n : ℕ) → sum_below (λ v. f v + g v) n ≡ sum_below f n + sum_below g n
unfolding sum_below
sum_plus f g zero = refl
sum_plus f g (suc n) = let a = sum_plus f g n in omega arith

-- what is 0 from m on
sum_stop : (f : ℕ → ℕ) (m n : ℕ) → m ≤ n → ((v : ℕ) → m ≤ v → f v ≡ 0) → sum_below f n ≤ sum_below f m
unfolding sum_below
sum_stop f m zero h k = let z : m ≡ 0 = omega arith in subst (λ i. sum_below f 0 ≤ sum_below f i) (sym z) (omega arith)
sum_stop f m (suc n) h k = ⊎_elim (λ e. subst (λ i. sum_below f (suc n) ≤ sum_below f i) (sym e) (omega arith)) (λ ne. let l : m ≤ n = omega (arith, ne) in let a = sum_stop f m n l k in let b = k n l in omega arith) (cases_eq m (suc n))

-- of those that pass, some pass another test too
pub ind_and : (b c : Bool) → ind (b && c) ≤ ind b
ind_and true true = omega arith
ind_and true false = omega arith
ind_and false c = omega arith

-- the executions of a step are at most the variants that ran
pub executions_few : (A : Account) (k : Key) → sum_below (λ v. ind (leads_run A k v)) 16 ≤ sum_below (λ v. ind (runs A k v)) 16
executions_few A k = sum_le (λ v. ind (leads_run A k v)) (λ v. ind (runs A k v)) 16 (λ v _. ind_and (runs A k v) _)

step_bounded_at : (M : Meaning) (A : Account) (k : Key) → Sound M A → Bounded A → Bounded (fed_step_at M A (Some k))
step_bounded_at M A k s b =
    let a = executions_few A k in
    let c = sum_stop (λ v. ind (runs A k v)) A.made 16 s.few (λ v h. ap ind (idle v h (cases_Bool (runs A k v)))) in
    let d = sum_plus A.since (λ v. ind (runs A k v)) A.made in
    omega (arith, a, b, c, d)
  where
    idle : (v : ℕ) → A.made ≤ v → (runs A k v ≡ true) ⊎ (runs A k v ≡ false) → runs A k v ≡ false
    idle v h (inl t) = let g = s.given v (runs_live A k v t) in absurd (let z : ⊥ = omega arith in z)
    idle v h (inr t) = t

pub step_bounded : (M : Meaning) (A : Account) → Sound M A → Bounded A → Bounded (fed_step M A)
step_bounded M A s b = go (least A 16)
  where
    go : (o : Option Key) → Bounded (fed_step_at M A o)
    go None = b
    go (Some k) = step_bounded_at M A k s b

pub branch_bounded : (A : Account) (v : ℕ) → Bounded A → Bounded (fed_branch A v)
unfolding sum_below
branch_bounded A v b =
    let a = sum_le A.since (λ x. cond (eqb x A.made) 0 (A.since x)) A.made (λ x l. cond_both (eqb x A.made) 0 (A.since x) (λ n. A.since x ≤ n) (λ e. absurd (let z : ⊥ = grind (arith, nat_tests) in z)) (λ _. omega arith)) in
    omega (arith, a, b)
