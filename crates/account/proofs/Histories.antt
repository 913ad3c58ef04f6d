-- Any list of calls, denied ones counted in, is a list of accepted ones.
use Rattle.std.proofs.Common.{◌≡◌, ℕ, suc, ◌<◌, true, false, ◌+◌, arith, List, [], ◌∷◌, Some, None, Option, refl}
use Rattle.std.specs.Prelude.{is_some}
use Rattle.std.specs.List.{AllByRecursion}
use Rattle.std.proofs.lemmas.Bool.{leb-false, not-false, both_ways}
use Rattle.event.specs.declared.Key.{Key}
use Rattle.event.specs.declared.Start.{Start}
use Rattle.refusal.specs.declared.Refusal.{Refusal}
use Rattle.model.specs.Meaning.{Meaning}
use Rattle.account.specs.Account.{Account, Call, load, branch, decide, waive, step, retire, reading, Reading, events_of, entry_of, place_of, next_of, sharing, group_of, totals, fed, fed_step_at, least, told, Accepted, After, begun, one_more}
use Rattle.account.specs.Answers.{tells, reads, worked_at, unless_refused, history, executions_of}
use Rattle.account.specs.Sound.{Sound}
use Rattle.account.specs.Refusals.{NoneMet, cases, start_cases, refusal}
use Rattle.account.specs.Claims.{HistoryAfter, ExecutionsAdd}
use Rattle.account.proofs.After.{sound_after}
use Rattle.account.proofs.Refusing.{none_met}

good_starts : (M : Meaning) (capacity end i : ℕ) (l : List Start) → NoneMet (start_cases M capacity end i l) → AllByRecursion (λ s. s.receiver < M.places) l
good_starts M capacity end i [] n = tt
good_starts M capacity end i (s ∷ l) n = (leb-false M.places s.receiver n.0, good_starts M capacity end (suc i) l n.1.1.1)

-- a call for which no case is met is accepted
pub accepted : (M : Meaning) (capacity : ℕ) (A : Account) → Sound M A → (c : Call) → NoneMet (cases M capacity A c) → Accepted M A c
accepted M capacity A s (load l end) n = (n.0, good_starts M capacity end 0 l n.1.1)
accepted M capacity A s (branch v) n = (not-false _ n.1.0, leb-false 16 A.made n.1.1.1.0)
accepted M capacity A s (decide v place value) n = let u = not-false _ n.1.0 in (s.permitted v u, u)
accepted M capacity A s (waive v) n = not-false _ n.1.0
accepted M capacity A s step n = not-false _ n.0
accepted M capacity A s (retire v) n = (not-false _ n.1.0, n.1.1.0)
accepted M capacity A s (reading r) n = not-false _ n.0

pub history_after : HistoryAfter
unfolding history
history_after M capacity law [] = begun
history_after M capacity law (c ∷ cs) = go (history_after M capacity law cs) (refusal M capacity (history M capacity cs) c) refl
  where
    go : After M (history M capacity cs) → (o : Option Refusal) → refusal M capacity (history M capacity cs) c ≡ o → After M (told M (history M capacity cs) c (is_some o))
    go h (Some r) e = h
    go h None e = one_more c h (accepted M capacity (history M capacity cs) (sound_after law h) c (none_met (cases M capacity (history M capacity cs) c) e))

-- where nothing is loaded, nothing was worked
unloaded : {M : Meaning} {A : Account} → After M A → A.loaded ≡ false → A.executions ≡ 0
unloaded begun e = refl
unloaded (one_more (load l end) h a) e = absurd (both_ways true e refl)
unloaded (one_more (branch v) h a) e = unloaded h e
unloaded (one_more (decide v place value) h a) e = unloaded h e
unloaded (one_more (waive v) h a) e = unloaded h e
unloaded {M} (one_more {A} step h a) e = absurd (both_ways A.loaded (still (least A 16) e) a)
  where
    still : (o : Option Key) → (fed_step_at M A o).loaded ≡ false → A.loaded ≡ false
    still None t = t
    still (Some k) t = t
unloaded (one_more (retire v) h a) e = unloaded h e
unloaded (one_more (reading r) h a) e = unloaded h e

pub executions_grow : ExecutionsAdd
executions_grow M capacity A c law h = go (refusal M capacity A c) refl
  where
    by_call : (c : Call) → Accepted M A c → (fed M A c).executions ≡ A.executions + executions_of (tells M A c)
    by_call (load l end) a = let z = unloaded h a.0 in omega arith
    by_call (branch v) a = omega arith
    by_call (decide v place value) a = omega arith
    by_call (waive v) a = omega arith
    by_call step a = by_key (least A 16)
      where
        by_key : (o : Option Key) → (fed_step_at M A o).executions ≡ A.executions + worked_at A o
        by_key None = omega arith
        by_key (Some k) = refl
    by_call (retire v) a = omega arith
    by_call (reading r) a = by_reading r
      where
        by_reading : (r : Reading) → A.executions ≡ A.executions + executions_of (reads M A r)
        by_reading (events_of v) = omega arith
        by_reading (entry_of v i) = omega arith
        by_reading (place_of v p) = omega arith
        by_reading (next_of v) = omega arith
        by_reading (sharing v w p) = omega arith
        by_reading (group_of v p) = omega arith
        by_reading totals = omega arith

    go : (o : Option Refusal) → refusal M capacity A c ≡ o → (told M A c (is_some o)).executions ≡ A.executions + executions_of (unless_refused o (tells M A c))
    go (Some r) e = omega arith
    go None e = by_call c (accepted M capacity A (sound_after law h) c (none_met (cases M capacity A c) e))
