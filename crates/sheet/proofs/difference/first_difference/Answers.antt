-- The journals differ where they are the same no longer, if one of them goes on there.
use Rattle.std.proofs.Common.{◌≢◌, refl, ap, arith}
use Rattle.std.specs.List.{slice_get}
use Rattle.sheet.proofs.Journals.{all_same, unlike}
use Rattle.sheet.proofs.difference.first_difference.Goals as goal

differ : (c : goal.Then-same-max) → slice_get c.args.own.now c.same_events-same.result ≢ slice_get c.args.other.now c.same_events-same.result
differ c =
    let part = c.same_events-same.ensures in
    unlike c.args.own.now c.args.other.now c.same_events-same.result part.within part.before part.there (λ h. omega arith)

pub returns-then-same-max-clause-first : goal.returns-then-same-max-clause-first
returns-then-same-max-clause-first c = record { before = c.same_events-same.ensures.before; there = differ c }

pub returns-then-same-max-clause-none : goal.returns-then-same-max-clause-none
returns-then-same-max-clause-none c = (λ e. absurd cc, λ e. absurd (differ c (ap (λ xs. slice_get xs c.same_events-same.result) e)))

pub returns-clause-none : goal.returns-clause-none
returns-clause-none c =
    let part = c.same_events-same.ensures in
    (λ e. all_same c.args.own.now c.args.other.now c.same_events-same.result part.within part.before (omega arith) (omega arith), λ e. refl)
