-- How many leaders there are: at least one where there is anyone, and at most all.
use Rattle.std.proofs.Common.{◌≡◌, ℕ, zero, suc, ◌+◌, ◌*◌, ◌<◌, ◌≤◌, Bool, true, false, cond, not, ◌&&◌, ◌||◌, ◌⊎◌, Some, None, Option, sym, refl, ap, ◌∙◌, subst, inl, inr, ⊎_elim, arith}
use Rattle.std.proofs.lemmas.Bool.{cases_Bool, both_ways, cases_eq, cond-true, cond-false, or_left, or_right, or_parts, or_from, and_left, and_from}
use Rattle.event.specs.declared.Key.{Key}
use Rattle.event.specs.declared.Message.{Message}
use Rattle.event.specs.Keys.{key_of, before}
use Rattle.event.specs.Lists.{first}
use Rattle.account.specs.Account.{Account, ind, any_below, sum_below, earlier, least, runs, reached_by}
use Rattle.account.specs.Claims.{ExecutionsWithin, CopiesWithin, CopiesGroups, TakenGroups, SelfShares}
use Rattle.account.specs.Groups.{leads}
use Rattle.account.proofs.After.{sound_after}
use Rattle.account.proofs.Counts.{sum_le, ind_and, executions_few}
use Rattle.account.proofs.Executions.{executions_lead}
use Rattle.account.proofs.Leaders.{leaders_count, sum_same}
use Rattle.account.specs.Answers.{shared}
use Rattle.std.proofs.lemmas.Option.{none-some}
use Rattle.account.proofs.Step.{some_is, runs_from}

-- where none is, none of fewer is
any_fewer : (f g : ℕ → Bool) (n : ℕ) → any_below f n ≡ false → any_below (λ w. f w && g w) n ≡ false
unfolding any_below
any_fewer f g zero h = refl
any_fewer f g (suc n) h = let p = or_parts (f n) (any_below f n) h in or_from _ _ (and_left (f n) (g n) p.0) (any_fewer f g n p.1)

pub any_from : (f : ℕ → Bool) (n v : ℕ) → v < n → f v ≡ true → any_below f n ≡ true
unfolding any_below
any_from f zero v l h = absurd (omega arith)
any_from f (suc n) v l h =
    ⊎_elim (λ (e : v ≡ n). or_left (f n) (any_below f n) (subst (λ (i : ℕ). f i ≡ true) e h))
    (λ (ne : v ≡ n → ⊥). or_right (f n) (any_below f n) (any_from f n v (let z : v < n = omega (arith, ne) in z) h)) (cases_eq v n)

module _ (among : ℕ → Bool) (alike : ℕ → ℕ → Bool) where
  -- the smallest leads
  pub some_leads : (n : ℕ) → any_below among n ≡ true → 1 ≤ sum_below (λ v. ind (leads among alike v)) n
  unfolding any_below sum_below
  some_leads zero h = absurd (both_ways false refl h)
  some_leads (suc n) h = go (cases_Bool (any_below among n)) (cases_Bool (among n)) (some_leads n)
    where
      go : (any_below among n ≡ true) ⊎ (any_below among n ≡ false) → (among n ≡ true) ⊎ (among n ≡ false) → (any_below among n ≡ true → 1 ≤ sum_below (λ v. ind (leads among alike v)) n)
          → 1 ≤ sum_below (λ v. ind (leads among alike v)) n + ind (leads among alike n)
      go (inl t) q ih = let a = ih t in omega arith
      go (inr t) (inl q) ih =
          let l : leads among alike n ≡ true = and_from _ _ q (ap not (any_fewer among (alike n) n t)) in
          let e : ind (leads among alike n) ≡ 1 = ap ind l in
          omega arith
      go (inr t) (inr q) ih = absurd (both_ways (among n || any_below among n) (or_from _ _ q t) h)

  pub few_lead : (n : ℕ) → sum_below (λ v. ind (leads among alike v)) n ≤ sum_below (λ v. ind (among v)) n
  few_lead n = sum_le (λ v. ind (leads among alike v)) (λ v. ind (among v)) n (λ v _. ind_and (among v) (not (any_below (λ w. among w && alike v w) v)))

-- the smallest key is run by someone
pub least_runs : (A : Account) (n : ℕ) (k : Key) → least A n ≡ Some k → any_below (runs A k) n ≡ true
unfolding least any_below
least_runs A zero k e = absurd (none-some k e)
least_runs A (suc n) k e = go (cases_Bool (A.live n)) (first (A.day n).waiting) refl (least A n) refl (least_runs A n k)
  where
    go : (A.live n ≡ true) ⊎ (A.live n ≡ false) → (f : Option Message) → first (A.day n).waiting ≡ f → (o : Option Key) → least A n ≡ o
        → (least A n ≡ Some k → any_below (runs A k) n ≡ true) → (runs A k n || any_below (runs A k) n) ≡ true
    go (inr d) f p o q ih = or_right _ _ (ih (sym (cond-false (A.live n) _ _ d) ∙ e))
    go (inl l) None p o q ih = or_right _ _ (ih (sym (cond-true (A.live n) _ _ l ∙ ap (λ (x : Option Message). earlier x (least A n)) p) ∙ e))
    go (inl l) (Some m) p None q ih =
        let here : Some (key_of m) ≡ Some k = sym (cond-true (A.live n) _ _ l ∙ ap (λ (x : Option Message). earlier x (least A n)) p ∙ ap (earlier (Some m)) q) ∙ e in
        or_left _ _ (runs_from A k n m l p (some_is (key_of m) k here))
    go (inl l) (Some m) p (Some j) q ih = last (cases_Bool (before j (key_of m)))
      where
        is : cond (before j (key_of m)) (Some j) (Some (key_of m)) ≡ Some k
        is = sym (cond-true (A.live n) _ _ l ∙ ap (λ (x : Option Message). earlier x (least A n)) p ∙ ap (earlier (Some m)) q) ∙ e

        last : (before j (key_of m) ≡ true) ⊎ (before j (key_of m) ≡ false) → (runs A k n || any_below (runs A k) n) ≡ true
        last (inl t) = or_right _ _ (ih (q ∙ sym (cond-true (before j (key_of m)) (Some j) (Some (key_of m)) t) ∙ is))
        last (inr t) = or_left _ _ (runs_from A k n m l p (some_is (key_of m) k (sym (cond-false (before j (key_of m)) (Some j) (Some (key_of m)) t) ∙ is)))

pub executions_within_lem : ExecutionsWithin
executions_within_lem M A k law h is =
    (subst (λ (n : ℕ). 1 ≤ n) (sym (executions_lead M A k law h is)) (some_leads (runs A k) (λ v w. not (reached_by A k v w k.receiver)) 16 (least_runs A 16 k is)), executions_few A k)

sum_least : (f : ℕ → ℕ) (n : ℕ) → ((p : ℕ) → 1 ≤ f p) → n ≤ sum_below f n
unfolding sum_below
sum_least f zero h = omega arith
sum_least f (suc n) h = let a = sum_least f n h in let b = h n in omega arith

sum_most : (f : ℕ → ℕ) (c n : ℕ) → ((p : ℕ) → f p ≤ c) → sum_below f n ≤ n * c
unfolding sum_below
sum_most f c zero h = omega arith
sum_most f c (suc n) h = let a = sum_most f c n h in let b = h n in omega arith

pub copies_within_lem : CopiesWithin
copies_within_lem M A law h v l =
    let s = sound_after law h in
    let g = s.given v l in
    let few = s.few in
    let some = any_from A.live 16 v (omega arith) l in (
      sum_least (λ p. sum_below (λ x. ind (leads A.live (λ x y. not (A.reached x y p)) x)) 16) M.places (λ p. some_leads A.live (λ x y. not (A.reached x y p)) 16 some),
      sum_most (λ p. sum_below (λ x. ind (leads A.live (λ x y. not (A.reached x y p)) x)) 16) (sum_below (λ x. ind (A.live x)) 16) M.places (λ p. few_lead A.live (λ x y. not (A.reached x y p)) 16),
    )

pub copies_groups : CopiesGroups
copies_groups M A gs h = sum_same _ _ M.places (λ p. sym (leaders_count 16 A.live (λ v w. not (A.reached v w p)) (gs p) (h p)))

pub taken_groups : TakenGroups
taken_groups A k gs h = sym (leaders_count 16 (runs A k) (λ v w. not (A.marked v w k)) gs h)

-- where v is among those below n, there is one at least
some_there : (f : ℕ → Bool) (v n : ℕ) → v < n → f v ≡ true → 1 ≤ sum_below (λ w. ind (f w)) n
unfolding sum_below
some_there f v zero h e = absurd (omega arith)
some_there f v (suc n) h e = ⊎_elim (λ (q : v ≡ n). let i : ind (f n) ≡ 1 = ap ind (subst (λ (w : ℕ). f w ≡ true) q e) in omega arith) (λ (q : v ≡ n → ⊥). let r = some_there f v n (omega (arith, q)) e in omega arith) (cases_eq v n)

pub self_shares : SelfShares
self_shares M A law h v p l =
    let s = sound_after law h in
    let g = s.given v l in
    let few = s.few in
    let own = ap not (s.reached_self v p) in
    (ap shared own, some_there (λ w. A.live w && not (A.reached v w p)) v 16 (omega arith) (and_from _ _ l own))
