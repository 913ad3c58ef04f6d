-- Who has had its event in a step, once the groups that variants below n lead have run.
use Rattle.std.proofs.Common.{◌≡◌, ℕ, suc, Bool, true, false, not, ◌&&◌, ◌||◌, ◌⊎◌, Some, sym, refl, ap, ◌∙◌, inl, inr, ⊎_elim}
use Rattle.std.proofs.lemmas.Bool.{cases_Bool, both_ways, and_parts, and_from, and_left, not-true, not_from_false, true_from_ne_false}
use Rattle.event.specs.declared.Key.{Key}
use Rattle.model.specs.Meaning.{Meaning, Law}
use Rattle.account.specs.Sound.{Sound}
use Rattle.account.specs.Account.{Account, any_below, least, runs, reached_by, leads_run, fed_step_at}
use Rattle.account.proofs.Bounds.{any_from}
use Rattle.account.proofs.Step.{agree, runs_live, ran_from, step_sound_at}
use Rattle.follows.proofs.Mid.{done, group_after}
use Rattle.follows.proofs.Below.{any_at}
use Rattle.follows.proofs.Taking.{small}
use Rattle.follows.proofs.Tests.{done_inside, done_outside}

module _ (M : Meaning) (law : Law M) (A : Account) (s : Sound M A) (k : Key) (least_is : least A 16 ≡ Some k) where
  s' : Sound M (fed_step_at M A (Some k))
  s' = step_sound_at M law A s k least_is

  -- u and w do not share the receiver after the step
  abbrev apart : ℕ → ℕ → Bool
  apart u w = reached_by A k u w k.receiver

  pub apart_sym : (u w : ℕ) → apart u w ≡ apart w u
  apart_sym u w = s'.reached_sym u w k.receiver

  apart_through : (u v w : ℕ) → A.live u ≡ true → A.live v ≡ true → A.live w ≡ true → apart u v ≡ false → apart v w ≡ false → apart u w ≡ false
  apart_through u v w a b c = s'.reached_through u v w k.receiver a b c

  pub shares_runs : (u w : ℕ) → A.live u ≡ true → A.live w ≡ true → runs A k u ≡ true → apart u w ≡ false → runs A k w ≡ true
  shares_runs u w a b t h = let r = ran_from A k u t in (agree M law A s k least_is u w r.0 a b r.1 h).ran_w.ran

  pub in_group : (n w : ℕ) → group_after A k n w ≡ true → (A.live w ≡ true) × (apart n w ≡ false)
  in_group n w h = let p = and_parts (A.live w) _ h in (p.0, not-true _ p.1)

  pub to_group : (n w : ℕ) → A.live w ≡ true → apart n w ≡ false → group_after A k n w ≡ true
  to_group n w l h = and_from (A.live w) _ l (not_from_false _ h)

  -- after the step one of the group shares the receiver with the group, and with no other
  pub group_reached : (n u w : ℕ) → A.live n ≡ true → A.live w ≡ true → group_after A k n u ≡ true → apart u w ≡ not (group_after A k n w)
  group_reached n u w ln lw g = go (cases_Bool (apart u w)) (cases_Bool (group_after A k n w))
    where
      lu : A.live u ≡ true
      lu = (in_group n u g).0

      nu : apart n u ≡ false
      nu = (in_group n u g).1

      go : (apart u w ≡ true) ⊎ (apart u w ≡ false) → (group_after A k n w ≡ true) ⊎ (group_after A k n w ≡ false) → apart u w ≡ not (group_after A k n w)
      go (inl a) (inr b) = a ∙ sym (ap not b)
      go (inr a) (inl b) = a ∙ sym (ap not b)
      go (inl a) (inl b) = absurd (both_ways (apart u w) (apart_through u n w lu ln lw (apart_sym u n ∙ nu) (in_group n w b).1) a)
      go (inr a) (inr b) = absurd (both_ways (group_after A k n w) b (to_group n w lw (apart_through n u w ln lu lw nu a)))

  -- the group of a leader has not run yet
  pub led_apart : (n u : ℕ) → A.live n ≡ true → leads_run A k n ≡ true → group_after A k n u ≡ true → done A k n u ≡ false
  led_apart n u ln ld g = ⊎_elim (λ (t : done A k n u ≡ true). absurd (bad t)) (λ t. t) (cases_Bool (done A k n u))
    where
      bad : done A k n u ≡ true → ⊥
      bad t =
          let r = any_at (λ v. A.live v && not (apart u v)) n (and_parts (runs A k u) _ t).1 in
          let p = and_parts (A.live r.0) _ r.2 in
          let q = apart_through n u r.0 ln (in_group n u g).0 p.0 (in_group n u g).1 (not-true _ p.1) in
          both_ways (any_below (λ w. A.live w && not (apart n w)) n) (not-true _ (and_parts (runs A k n) _ ld).1) (any_from (λ w. A.live w && not (apart n w)) n r.0 r.1 (to_group n r.0 p.0 q))

  done_suc : (n u : ℕ) → done A k (suc n) u ≡ (runs A k u && ((A.live n && not (apart u n)) || any_below (λ v. A.live v && not (apart u v)) n))
  unfolding any_below
  done_suc n u = refl

  -- one more group is done
  pub done_led : (n u : ℕ) → A.live u ≡ true → leads_run A k n ≡ true → done A k (suc n) u ≡ (done A k n u || group_after A k n u)
  done_led n u lu ld = done_suc n u ∙ go (cases_Bool (group_after A k n u))
    where
      rn : runs A k n ≡ true
      rn = (and_parts (runs A k n) _ ld).0

      ln : A.live n ≡ true
      ln = runs_live A k n rn

      go : (group_after A k n u ≡ true) ⊎ (group_after A k n u ≡ false) → (runs A k u && ((A.live n && not (apart u n)) || any_below (λ v. A.live v && not (apart u v)) n)) ≡ (done A k n u || group_after A k n u)
      go (inl g) =
          done_inside (runs A k u) (A.live n) (apart u n) _ (done A k n u) (group_after A k n u) (shares_runs n u ln lu rn (in_group n u g).1) ln (apart_sym u n ∙ (in_group n u g).1) g
      go (inr g) =
          let b : apart u n ≡ true = ⊎_elim (λ t. t) (λ (t : apart u n ≡ false). absurd (both_ways (group_after A k n u) g (to_group n u lu (apart_sym n u ∙ t)))) (cases_Bool (apart u n)) in
          done_outside (runs A k u) (A.live n) (apart u n) _ (group_after A k n u) b g

  pub done_idle : (n u : ℕ) → A.live u ≡ true → leads_run A k n ≡ false → done A k (suc n) u ≡ done A k n u
  done_idle n u lu ld = done_suc n u ∙ go (cases_Bool (runs A k u)) (cases_Bool (A.live n && not (apart u n)))
    where
      go : (runs A k u ≡ true) ⊎ (runs A k u ≡ false) → ((A.live n && not (apart u n)) ≡ true) ⊎ ((A.live n && not (apart u n)) ≡ false)
          → (runs A k u && ((A.live n && not (apart u n)) || any_below (λ v. A.live v && not (apart u v)) n)) ≡ (runs A k u && any_below (λ v. A.live v && not (apart u v)) n)
      go (inr r) c = simp r
      go (inl r) (inr c) = ap (λ z. runs A k u && (z || any_below (λ v. A.live v && not (apart u v)) n)) c
      go (inl r) (inl c) =
          let p = and_parts (A.live n) _ c in
          let un : apart u n ≡ false = not-true _ p.1 in
          let rn = shares_runs u n lu p.0 r un in
          let y : any_below (λ w. A.live w && not (apart n w)) n ≡ true = true_from_ne_false _ (λ t. both_ways (leads_run A k n) ld (and_from (runs A k n) _ rn (not_from_false _ t))) in
          let w = any_at (λ w. A.live w && not (apart n w)) n y in
          let q = and_parts (A.live w.0) _ w.2 in
          let z : any_below (λ v. A.live v && not (apart u v)) n ≡ true = any_from (λ v. A.live v && not (apart u v)) n w.0 w.1 (and_from (A.live w.0) _ q.0 (not_from_false _ (apart_through u n w.0 lu p.0 q.0 un (not-true _ q.1)))) in
          simp (c, z)

  -- at the end each that runs has
  pub done_all : (u : ℕ) → A.live u ≡ true → done A k 16 u ≡ runs A k u
  done_all u l =
      ⊎_elim (λ (t : runs A k u ≡ true). and_from (runs A k u) _ t (any_from (λ v. A.live v && not (apart u v)) 16 u (small M A s u l) (to_group u u l (s'.reached_self u k.receiver))) ∙ sym t)
      (λ (t : runs A k u ≡ false). and_left (runs A k u) _ t ∙ sym t) (cases_Bool (runs A k u))
