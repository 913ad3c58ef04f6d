-- A step works one execution for each group.
use Rattle.std.proofs.Common.{◌≡◌, ℕ, true, false, not, ◌&&◌, ◌⊎◌, Some, sym, ap, ◌∙◌, inl, inr}
use Rattle.std.proofs.lemmas.Bool.{cases_Bool, both_ways, and_left}
use Rattle.event.specs.declared.Key.{Key}
use Rattle.model.specs.Meaning.{Meaning, Law}
use Rattle.account.specs.Account.{Account, After, ind, sum_below, least, runs, reached_by, leads_run}
use Rattle.account.specs.Groups.{leads, worked}
use Rattle.account.specs.Sound.{Sound}
use Rattle.account.specs.Claims.{ExecutionsGroups}
use Rattle.account.proofs.Step.{ran_from, runs_live, agree}
use Rattle.account.proofs.Leaders.{leaders_count, sum_same, any_same}
use Rattle.account.proofs.After.{sound_after}

-- the executions of a step are the leaders among those that ran
pub executions_lead : (M : Meaning) (A : Account) (k : Key) → Law M → After M A → least A 16 ≡ Some k → worked A k ≡ sum_below (λ v. ind (leads (runs A k) (λ v w. not (reached_by A k v w k.receiver)) v)) 16
executions_lead M A k law h is = sum_same _ _ 16 (λ v. ap ind (one v (cases_Bool (runs A k v))))
  where
    s : Sound M A
    s = sound_after law h

    -- who shares with one that ran, ran
    like : (v w : ℕ) → runs A k v ≡ true → (A.live w ≡ true) ⊎ (A.live w ≡ false) → (runs A k w ≡ true) ⊎ (runs A k w ≡ false) → (reached_by A k v w k.receiver ≡ true) ⊎ (reached_by A k v w k.receiver ≡ false)
        → (A.live w && not (reached_by A k v w k.receiver)) ≡ (runs A k w && not (reached_by A k v w k.receiver))
    like v w t l (inl r) q = let e = runs_live A k w r in simp (e, r)
    like v w t (inr l) (inr r) q = simp (l, r)
    like v w t (inl l) (inr r) (inl q) = Rattle.std.proofs.lemmas.Bool.and_right _ _ (ap not q) ∙ sym (Rattle.std.proofs.lemmas.Bool.and_right _ _ (ap not q))
    like v w t (inl l) (inr r) (inr q) = let m = ran_from A k v t in absurd (both_ways (runs A k w) r (agree M law A s k is v w m.0 (runs_live A k v t) l m.1 q).ran_w.ran)

    one : (v : ℕ) → (runs A k v ≡ true) ⊎ (runs A k v ≡ false) → leads_run A k v ≡ leads (runs A k) (λ v w. not (reached_by A k v w k.receiver)) v
    one v (inl t) = ap (λ b. runs A k v && not b) (any_same _ _ v (λ w. like v w t (cases_Bool (A.live w)) (cases_Bool (runs A k w)) (cases_Bool (reached_by A k v w k.receiver))))
    one v (inr t) = and_left _ _ t ∙ sym (and_left _ _ t)

pub executions_groups : ExecutionsGroups
executions_groups M A k gs law h is g = executions_lead M A k law h is ∙ sym (leaders_count 16 (runs A k) (λ v w. not (reached_by A k v w k.receiver)) gs g)
