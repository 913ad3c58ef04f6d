-- A permit that is found, spent and put back.
use Rattle.std.proofs.Common.{◌≡◌, ℕ, zero, suc, ◌<◌, Bool, true, false, eqb, List, [], ◌∷◌, length, Some, None, Option, Ok, Err, Result, sym, refl, ap, ◌∙◌, arith, slice_index_or}
use Rattle.std.specs.Prelude.{if◌then◌else◌, is_some}
use Rattle.std.specs.List.{insert, remove}
use Rattle.std.proofs.lemmas.Bool.{both_ways, eqb-true}
use Rattle.std.proofs.lemmas.Option.{none-some}
use Rattle.std.specs.Result.{IsErr, result_err}
use Rattle.std.proofs.lemmas.List.Quantifiers.{position-Some}
use Rattle.model.specs.Meaning.{Meaning}
use Rattle.account.specs.Account as account
use Rattle.account.specs.Account.{Account}
use Rattle.account.specs.Answers.{Answer, after, answer, done}
use Rattle.study.specs.declared.fault.StudyFault.{StudyFault}
use Rattle.study.specs.Promises.{answered}
use Rattle.history.specs.declared.call.Call.{Call}
use Rattle.history.specs.declared.answer.Answer as said
use Rattle.history.specs.declared.answer.Answer.TheVariants.{NoPermit}
use Rattle.history.specs.declared.call.Call.TheVariants.{Waive}
use Rattle.history.specs.Calls.{account_call, permit_of, said_as, told_by}
use Rattle.history.specs.Histories.{standing}
use Rattle.history.specs.Stands.{Stand, can, can_by, held_after, held_at, made, next, number_of, reply}

-- the permit that stands there has this number
pub held_number : (v : ℕ) (held : List ℕ) (i r : ℕ) → held_at v held ≡ Some i → r ≡ slice_index_or held i r → r ≡ v
held_number v held i r e h = h ∙ eqb-true _ _ (position-Some (λ x. eqb x v) held i r e).1

pub held_within : (v : ℕ) (held : List ℕ) (i : ℕ) → held_at v held ≡ Some i → i < length held
held_within v held i e = (position-Some (λ x. eqb x v) held i 0 e).0

-- put back where it stood
pub put_back_same : (held : List ℕ) (i r : ℕ) → i < length held → r ≡ slice_index_or held i r → insert (remove held i) i r ≡ held
put_back_same [] i r l h = absurd (omega (arith, l))
put_back_same (x ∷ xs) zero r l h = ap (λ y. y ∷ xs) h
put_back_same (x ∷ xs) (suc i) r l h = ap (λ ys. x ∷ ys) (put_back_same xs i r (omega (arith, l)) h)

-- a call whose permit is found is made: it is told to the account with the number that the permit has
pub record Spent (M : Meaning) (capacity : ℕ) (A : Account) (held : List ℕ) (call : Call) (made : account.Call) (a : Answer) : Type 0 where
  pub said : said_as call a ≡ reply M capacity (standing A held) call
  pub account : after M capacity A made ≡ (next M capacity (standing A held) call).account
  pub left : held_after call a held ≡ (next M capacity (standing A held) call).held

pub spent_call : (M : Meaning) (capacity : ℕ) (A : Account) (held : List ℕ) (call : Call) (v i r : ℕ) (f : ℕ → account.Call) → permit_of call ≡ Some v → account_call call ≡ f v → held_at v held ≡ Some i → r ≡ slice_index_or held i r
    → (a : Answer) → a ≡ answer M capacity A (f r) → Spent M capacity A held call (f r) a
spent_call M capacity A held call v i r f brings is found here a told = record {
  said = ap (said_as call) answered ∙ sym (ap (λ (b : Bool). if b then said_as call (answer M capacity A (account_call call)) else NoPermit (number_of (permit_of call))) can_made);
  account = ap (after M capacity A) same ∙ sym (ap (λ (t : Stand). t.account) next_made);
  left = ap (λ (d : Answer). held_after call d held) answered ∙ sym (ap (λ (t : Stand). t.held) next_made);
}
  where
    same : f r ≡ account_call call
    same = ap f (held_number v held i r found here) ∙ sym is

    answered : a ≡ answer M capacity A (account_call call)
    answered = told ∙ ap (answer M capacity A) same

    can_made : can call held ≡ true
    can_made = ap (λ o. can_by o held) brings ∙ ap is_some found

    next_made : next M capacity (standing A held) call ≡ made M capacity (standing A held) call
    next_made = ap (λ (b : Bool). if b then made M capacity (standing A held) call else standing A held) can_made

-- a waived permit that is refused is answered as the refusal
pub waive_refused : (v : ℕ) (r : Result said.Answer StudyFault) (w : Result (Unit {0}) StudyFault) → IsErr r → result_err r ≡ result_err w → told_by r ≡ said_as (Waive v) (answered {X = Unit {0}} (λ _. done) w)
waive_refused v (Ok a) w i e = absurd (both_ways false refl i)
waive_refused v (Err f) (Ok x) i e = absurd (none-some f (sym e))
waive_refused v (Err f) (Err g) i e = ap (λ o. told_by (unwrapped g o)) e
  where
    unwrapped : StudyFault → Option StudyFault → Result said.Answer StudyFault
    unwrapped g None = Err g
    unwrapped g (Some f) = Err f
