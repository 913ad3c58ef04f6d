-- Executions are one for each message run and each group of variants that ran it as one.
use Rattle.std.proofs.Common.{◌≡◌, ℕ, ◌+◌, ◌<◌, Bool, not, List, [], ◌∷◌, length, Some, None, Option, sym, refl, ap, ◌∙◌, subst, arith}
use Rattle.std.proofs.lemmas.Bool.{not-false, not-true}
use Rattle.event.specs.declared.Key.{Key}
use Rattle.refusal.specs.declared.Refusal.{Refusal}
use Rattle.model.specs.Meaning.{Meaning, Law}
use Rattle.account.specs.Account.{Account, Call, load, branch, decide, waive, step, retire, reading, Reading, events_of, entry_of, place_of, next_of, sharing, group_of, totals, After, one_more, least, fed_step_at, runs, reached_by}
use Rattle.account.specs.Answers.{Answer, answer, after, executions_of, history, unless_refused, tells, worked_at}
use Rattle.account.specs.Refusals.{cases, refusal}
use Rattle.account.specs.Sound.{Sound}
use Rattle.account.proofs.After.{sound_after}
use Rattle.account.proofs.Executions.{executions_groups}
use Rattle.account.proofs.Histories.{history_after, executions_grow}
use Rattle.account.proofs.Refusing.{none_met}
use Rattle.account.proofs.Step.{runs_live}
use Rattle.history.specs.Promise.{RunAsOne, Worked, nothing, idle}
use Rattle.history.specs.Promise as promise
use Rattle.history.proofs.Grouping.{grouped}

-- a refusal tells of no executions
quiet : (o : Option Refusal) (a : Answer) → executions_of a ≡ 0 → executions_of (unless_refused o a) ≡ 0
quiet None a e = e
quiet (Some r) a e = refl

quiet_reading : (M : Meaning) (capacity : ℕ) (A : Account) (r : Reading) → executions_of (answer M capacity A (reading r)) ≡ 0
quiet_reading M capacity A (events_of v) = quiet (refusal M capacity A (reading (events_of v))) _ refl
quiet_reading M capacity A (entry_of v i) = quiet (refusal M capacity A (reading (entry_of v i))) _ refl
quiet_reading M capacity A (place_of v p) = quiet (refusal M capacity A (reading (place_of v p))) _ refl
quiet_reading M capacity A (next_of v) = quiet (refusal M capacity A (reading (next_of v))) _ refl
quiet_reading M capacity A (sharing v w p) = quiet (refusal M capacity A (reading (sharing v w p))) _ refl
quiet_reading M capacity A (group_of v p) = quiet (refusal M capacity A (reading (group_of v p))) _ refl
quiet_reading M capacity A totals = quiet (refusal M capacity A (reading totals)) _ refl

module _ (M : Meaning) (capacity : ℕ) (law : Law M) where
  -- those that run a message can be listed by the groups that run it as one
  groups_of : (A : Account) (k : Key) → After M A → refusal M capacity A step ≡ None → least A 16 ≡ Some k → (gs : List (ℕ → Bool)) × RunAsOne A k gs
  groups_of A k h n e = grouped 16 (runs A k) (λ v w. not (reached_by A k v w k.receiver)) (λ v _. ap not (s.reached_self v k.receiver)) (λ v w. ap not (s.reached_sym v w k.receiver))
      (λ u v w a b c x y. ap not (s.reached_through u v w k.receiver (runs_live A k u a) (runs_live A k v b) (runs_live A k w c) (not-true _ x) (not-true _ y)))
      (λ v a. let b = s.given v (runs_live A k v a) in let f = s.few in let z : v < 16 = omega (arith, b, f) in z)
    where
      s : Sound M (fed_step_at M A (Some k))
      s = subst (λ o. Sound M (fed_step_at M A o)) e (sound_after law (one_more step h (not-false _ (none_met (cases M capacity A step) n).0)))

  pub all_worked : (calls : List Call) → Worked M capacity calls (history M capacity calls).executions
  unfolding history
  all_worked [] = nothing
  all_worked (c ∷ cs) = one c (all_worked cs)
    where
      A : Account
      A = history M capacity cs

      grown : (c : Call) → (after M capacity A c).executions ≡ A.executions + executions_of (answer M capacity A c)
      grown c = executions_grow M capacity A c law (history_after M capacity law cs)

      none_told : (c : Call) → Worked M capacity cs A.executions → executions_of (answer M capacity A c) ≡ 0 → Worked M capacity (c ∷ cs) (after M capacity A c).executions
      none_told c w e = subst (λ n. Worked M capacity (c ∷ cs) n) (let g = grown c in let z : A.executions ≡ (after M capacity A c).executions = omega (arith, g, e) in z) (idle c w e)

      one : (c : Call) → Worked M capacity cs A.executions → Worked M capacity (c ∷ cs) (after M capacity A c).executions
      one (load l end) w = none_told (load l end) w (quiet (refusal M capacity A (load l end)) _ refl)
      one (branch v) w = none_told (branch v) w (quiet (refusal M capacity A (branch v)) _ refl)
      one (decide v place value) w = none_told (decide v place value) w (quiet (refusal M capacity A (decide v place value)) _ refl)
      one (waive v) w = none_told (waive v) w (quiet (refusal M capacity A (waive v)) _ refl)
      one (retire v) w = none_told (retire v) w (quiet (refusal M capacity A (retire v)) _ refl)
      one (reading r) w = none_told (reading r) w (quiet_reading M capacity A r)
      one step w = at_step (refusal M capacity A step) refl (least A 16) refl
        where
          at_step : (o : Option Refusal) → refusal M capacity A step ≡ o → (p : Option Key) → least A 16 ≡ p → Worked M capacity (step ∷ cs) (after M capacity A step).executions
          at_step (Some r) n p e = none_told step w (ap (λ o. executions_of (unless_refused o (tells M A step))) n)
          at_step None n None e = none_told step w (ap (λ o. executions_of (unless_refused o (tells M A step))) n ∙ ap (worked_at A) e)
          at_step None n (Some k) e =
              let gs = groups_of A k (history_after M capacity law cs) n e in
              let told : executions_of (answer M capacity A step) ≡ length gs.0 = ap (λ o. executions_of (unless_refused o (tells M A step))) n ∙ ap (worked_at A) e ∙ executions_groups M A k gs.0 law (history_after M capacity law cs) e gs.1 in
              subst (λ n. Worked M capacity (step ∷ cs) n) (ap (λ n. A.executions + n) (sym told) ∙ sym (grown step)) (promise.ran k gs.0 w n e gs.1)
