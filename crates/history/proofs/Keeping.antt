-- What calls without a permit leave: a reading nothing, and a load the room for permits.
use Rattle.std.proofs.Common.{◌≡◌, ℕ, Bool, true, false, List, Some, None, Option, sym, refl, ap, ◌∙◌, subst, arith}
use Rattle.std.specs.Prelude.{if◌then◌else◌, is_some}
use Rattle.std.proofs.lemmas.Bool.{both_ways}
use Rattle.event.specs.declared.Start.{Start}
use Rattle.event.specs.declared.Key.{Key}
use Rattle.calendar.specs.Contents.{Contents}
use Rattle.refusal.specs.declared.Refusal.{Refusal}
use Rattle.model.specs.Meaning.{Meaning, Law}
use Rattle.account.specs.Account.{Account, After, begun, one_more, load, branch, decide, waive, step, retire, reading, Reading, least, fed_step_at, told}
use Rattle.account.specs.Answers.{Answer, after, answer}
use Rattle.account.specs.Refusals.{cases, refusal}
use Rattle.account.proofs.After.{sound_after}
use Rattle.account.proofs.Refusing.{none_met}
use Rattle.study.specs.declared.Study.{Study}
use Rattle.study.specs.Promises.{Serves}
use Rattle.history.specs.declared.call.Call.{Call}
use Rattle.history.specs.Calls.{account_call, permit_of}
use Rattle.history.specs.Histories.{GoesOn, Roomy, standing}
use Rattle.history.specs.Stands.{can_by, held_after, next}

-- a reading, denied or not, leaves the account as it was
told_reading : (M : Meaning) (A : Account) (r : Reading) (denied : Bool) → told M A (reading r) denied ≡ A
told_reading M A r true = refl
told_reading M A r false = refl

-- and all that is held
pub reads_on : {C M : Type 0} (contents : C → Contents) (meaning : M → Meaning) (s : Study C M) (held : List ℕ) (r : Reading) (call k : Call) → call ≡ k → permit_of k ≡ None → account_call k ≡ reading r → ((a : Answer) → held_after k a held ≡ held)
    → GoesOn contents meaning s held call s held
reads_on contents meaning s held r call k e free is left = subst (λ (x : Call). GoesOn contents meaning s held x s held) (sym e) (λ A a.
    let room = (contents s.calendar).room in let M = meaning s.model in
    let same : after M room A (account_call k) ≡ A = ap (after M room A) is ∙ told_reading M A r (is_some (refusal M room A (reading r))) in
    let made : next M room (standing A held) k ≡ record { account = after M room A (account_call k); held = held_after k (answer M room A (account_call k)) held } = ap (λ (o : Option ℕ). if can_by o held then record { account = after M room A (account_call k); held = held_after k (answer M room A (account_call k)) held } else standing A held) free in
    (subst (λ (B : Account). Serves contents meaning s B) (sym (ap (λ t. t.account) made ∙ same)) a, sym (ap (λ t. t.held) made ∙ left (answer M room A (account_call k)))))

-- where nothing is loaded, no variant was made
unmade : {M : Meaning} {A : Account} → Law M → After M A → A.loaded ≡ false → A.made ≡ 0
unmade law begun e = refl
unmade law (one_more (load l end) h a) e = absurd (both_ways true e refl)
unmade law (one_more (branch v) h a) e = let z = unmade law h e in let l = (sound_after law h).given v a.0 in absurd (omega (arith, z, l))
unmade law (one_more (decide v place value) h a) e = unmade law h e
unmade law (one_more (waive v) h a) e = unmade law h e
unmade {M} law (one_more {A} step h a) e = absurd (both_ways A.loaded (still (least A 16) e) a)
  where
    still : (o : Option Key) → (fed_step_at M A o).loaded ≡ false → A.loaded ≡ false
    still None t = t
    still (Some k) t = t
unmade law (one_more (retire v) h a) e = unmade law h e
unmade law (one_more (reading r) h a) e = unmade law h e

-- a load makes one variant, where none was made
pub load_room : (M : Meaning) → Law M → (capacity : ℕ) (A : Account) (l : List Start) (end count room : ℕ) → After M A → Roomy A count room → Roomy (after M capacity A (load l end)) count room
load_room M law capacity A l end count room h enough = go (refusal M capacity A (load l end)) refl
  where
    go : (o : Option Refusal) → refusal M capacity A (load l end) ≡ o → Roomy (told M A (load l end) (is_some o)) count room
    go (Some r) e = enough
    go None e = let z = unmade law h (none_met (cases M capacity A (load l end)) e).0 in omega (arith, z, enough)
