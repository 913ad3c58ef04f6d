-- What is to be shown of a call, so that it keeps its promises.
use Rattle.std.proofs.Common.{◌≡◌, ℕ, false, List, [], Some, None, Option, Ok, Err, Result, sym, refl, ap, ◌∙◌, subst}
use Rattle.std.specs.Prelude.{if◌then◌else◌, is_some}
use Rattle.std.proofs.lemmas.Bool.{both_ways}
use Rattle.std.specs.Result.{IsErr, result_err}
use Rattle.calendar.specs.Contents.{Contents, emptied}
use Rattle.calendar.specs.declared.Held.{Held}
use Rattle.day.specs.declared.place.Place.{Place}
use Rattle.refusal.specs.declared.Refusal.{Refusal}
use Rattle.model.specs.Meaning.{Meaning, Law}
use Rattle.account.specs.Account.{Account, Call, empty}
use Rattle.account.specs.Answers.{Answer, unless_refused, after}
use Rattle.follows.specs.Follows.{Alike}
use Rattle.follows.specs.Accounted.{Accounted}
use Rattle.follows.specs.Refusing as view
use Rattle.follows.specs.Answering.{tells_of, fed_view}
use Rattle.follows.proofs.Answering.{answers_alike, accounted_after, accounted_alike, accounted_begun}
use Rattle.study.specs.declared.Study.{Study}
use Rattle.study.specs.declared.register.Register.{Register}
use Rattle.study.specs.declared.fault.StudyFault.{StudyFault}
use Rattle.study.specs.Faults.{refusal_of}
use Rattle.study.specs.Registers.{blank_register}
use Rattle.study.specs.Promises.{view_from, view_of, Tells, Serves, Answers, Keeps, SameParts}

-- a fault as a refusal
abbrev pub told_by : Option StudyFault → Option Refusal
told_by None = None
told_by (Some f) = Some (refusal_of f)

-- a new study, over an emptied calendar
pub begun : (M : Meaning) → Law M → (old new : Contents) (register : Register) (cell : ℕ → ℕ → ℕ) (content : ℕ → Place) (entries : List Held) → new ≡ emptied old → register ≡ blank_register → entries ≡ []
    → Accounted M new.room (view_from new register cell content entries) (empty M)
begun M law old new register cell content entries e h j =
    subst (λ (k : Contents). Accounted M k.room (view_from k register cell content entries) (empty M)) (sym e)
    (subst (λ (r : Register). Accounted M old.room (view_from (emptied old) r cell content entries) (empty M)) (sym h)
    (subst (λ (l : List Held). Accounted M old.room (view_from (emptied old) blank_register cell content l) (empty M)) (sym j) (accounted_begun M old.room law cell content)))

module _ {C M : Type 0} (contents : C → Contents) (meaning : M → Meaning) (law : (m : M) → Law (meaning m)) (s : Study C M) (call : Call) where
  -- what the call is denied for, by what the study holds
  abbrev pub denial : Option Refusal
  denial = view.refusal_of (meaning s.model) (contents s.calendar).room (view_of contents s) call

  pub told_denied : {X : Type 0} (f : X → Answer) (e : StudyFault) → denial ≡ Some (refusal_of e) → Tells contents meaning s call f (Err e)
  told_denied f e h = sym (ap (λ o. unless_refused o (tells_of (meaning s.model) (view_of contents s) call)) h)

  pub told_err : {X : Type 0} (f : X → Answer) (r : Result X StudyFault) → IsErr r → denial ≡ told_by (result_err r) → Tells contents meaning s call f r
  told_err f (Ok x) i h = absurd (both_ways false refl i)
  told_err f (Err e) i h = told_denied f e h

  pub told_accepted : {X : Type 0} (f : X → Answer) (x : X) → denial ≡ None → f x ≡ tells_of (meaning s.model) (view_of contents s) call → Tells contents meaning s call f (Ok x)
  told_accepted f x h t = t ∙ sym (ap (λ o. unless_refused o (tells_of (meaning s.model) (view_of contents s) call)) h)

  pub told_answers : {X : Type 0} (f : X → Answer) (r : Result X StudyFault) → Tells contents meaning s call f r → Answers contents meaning s call f r
  told_answers f r t A a = t ∙ answers_alike (meaning s.model) _ (law s.model) (view_of contents s) A a call

  -- by a call that is denied and changes nothing
  pub keeps_denied : (r : Refusal) → denial ≡ Some r → Keeps contents meaning s call s
  keeps_denied r h A a =
      subst (λ (o : Option Refusal). Accounted (meaning s.model) (contents s.calendar).room (if is_some o then view_of contents s else fed_view (meaning s.model) (view_of contents s) call) (after (meaning s.model) (contents s.calendar).room A call))
      h (accounted_after (meaning s.model) _ (law s.model) (view_of contents s) A a call)

  pub keeps_err : {X : Type 0} (r : Result X StudyFault) → IsErr r → denial ≡ told_by (result_err r) → Keeps contents meaning s call s
  keeps_err (Ok x) i h = absurd (both_ways false refl i)
  keeps_err (Err e) i h = keeps_denied (refusal_of e) h

  -- by one that is accepted, and leaves what it is to leave as far as it matters
  pub keeps_accepted : (t : Study C M) → denial ≡ None → SameParts contents s t
      → ((A : Account) → Serves contents meaning s A → Alike (meaning s.model).places (fed_view (meaning s.model) (view_of contents s) call) (view_of contents t)) → Keeps contents meaning s call t
  keeps_accepted t h p alike A a =
      subst (λ (m : M). Accounted (meaning m) (contents t.calendar).room (view_of contents t) (after (meaning s.model) (contents s.calendar).room A call)) (sym p.model)
      (subst (λ (n : ℕ). Accounted (meaning s.model) n (view_of contents t) (after (meaning s.model) (contents s.calendar).room A call)) (sym p.room)
      (accounted_alike (meaning s.model) _ _ (view_of contents t) _ (alike A a)
      (subst (λ (o : Option Refusal). Accounted (meaning s.model) (contents s.calendar).room (if is_some o then view_of contents s else fed_view (meaning s.model) (view_of contents s) call) (after (meaning s.model) (contents s.calendar).room A call))
      h (accounted_after (meaning s.model) _ (law s.model) (view_of contents s) A a call))))
