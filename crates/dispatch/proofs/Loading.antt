-- A load that is accepted fits into the calendar, so a list that was cut behind one more was not cut.
use Rattle.std.proofs.Common.{◌≡◌, ◌+◌, ◌≤◌, ℕ, List, length, take, Some, None, Option, Ok, sym, refl, ap, ◌∙◌, arith}
use Rattle.std.proofs.lemmas.List.{length-take, take_all}
use Rattle.event.specs.declared.Start.{Start}
use Rattle.calendar.specs.Contents.{Contents}
use Rattle.model.specs.Meaning.{Meaning}
use Rattle.account.specs.Account.{load}
use Rattle.account.specs.Answers.{variant, unless_refused}
use Rattle.study.specs.declared.Study.{Study}
use Rattle.study.specs.declared.fault.StudyFault.{StudyFault}
use Rattle.study.specs.Loads.{load_fault}
use Rattle.study.specs.Promises.{Tells, view_of}
use Rattle.study.proofs.Promises.{told_by}
use Rattle.study.proofs.Loads.{load_same, load_fits}

pub accepted_fits : {C M : Type 0} (contents : C → Contents) (meaning : M → Meaning) (s : Study C M) (l : List Start) (end x : ℕ) → Tells contents meaning s (load l end) variant (Ok x) → length l ≤ (contents s.calendar).room
accepted_fits contents meaning s l end x t = go (load_fault s.register.loaded (meaning s.model).places (contents s.calendar).room end l) refl
  where
    go : (o : Option StudyFault) → load_fault s.register.loaded (meaning s.model).places (contents s.calendar).room end l ≡ o → length l ≤ (contents s.calendar).room
    go None e = load_fits s.register.loaded (meaning s.model).places (contents s.calendar).room end l e
    go (Some f) e =
        let d = load_same (meaning s.model) (contents s.calendar).room end (view_of contents s) l ∙ ap told_by e in
        let r = t ∙ ap (λ o. unless_refused o (variant 0)) d in
        absurd (let z : ⊥ = cc in z)

pub short_whole : {X : Type 0} (n : ℕ) (xs : List X) → length (take (n + 1) xs) ≤ n → take (n + 1) xs ≡ xs
short_whole n xs h = take_all (n + 1) xs (let l = length-take (n + 1) xs in grind arith)
