-- What the first variant has run is told, once all is noted.
use Rattle.std.proofs.Common.{◌≡◌, length, MatchOption, Some, rules, subst, sym, ◌∙◌}
use Rattle.std.proofs.lemmas.Option.{same_Some}
use Rattle.std.specs.List.{slice_get}
use Rattle.dispatch.specs.Courses.{IsEventOf, NotedFirst, PoisesFirst, RanNothing, Worked, WorksNext}
use Rattle.dispatch.proofs.course.Course.step.Goals as goal
use Rattle.dispatch.proofs.course.Course.step.Goals.{in-Some-2, in-None}

pub returns-clause-told : goal.returns-clause-told
returns-clause-told c =
    let s = c.args.self.now in
    let t = c.step.new.self in
    let d = c.note_all.new.self in
    let all = c.in_ok-all.all.items in
    let place = c.in-Some.place in
    let next : WorksNext s.study s.variants.items place = search rules in
    let stood : PoisesFirst s.study s.model s.variants.items place (length s.variants.items) all = search rules in
    let noted : NotedFirst t s.model all place (length all) s.partings.items d.partings.items = search rules in
    let same : d.study ≡ t = search rules in
    let worked : Worked s d = record { place = place; all = all; next = next; stood = stood; noted = subst (λ x. NotedFirst x s.model all place (length all) s.partings.items d.partings.items) (sym same) noted } in
    let planned = c.in-Some-first.planned.now in
    let at : slice_get all 0 ≡ Some c.in-Some-first.planned.now = search rules in
    let ran : MatchOption c.in_ok-event.field-0 (RanNothing d.study planned) (IsEventOf d.study planned) = search rules in
    elim c.match-branch-7.branch [
      | in-Some-2 w ↦ rw w.result-is (worked, planned, at, subst (λ o. MatchOption o (RanNothing d.study planned) (IsEventOf d.study planned)) w.in-Some-2.is ran)
      | in-None w ↦ rw w.result-is (worked, λ x e. subst (RanNothing d.study) (same_Some planned x (sym at ∙ e)) (subst (λ o. MatchOption o (RanNothing d.study planned) (IsEventOf d.study planned)) w.in-None.is ran))
    ]
