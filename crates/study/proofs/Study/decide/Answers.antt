use Rattle.std.proofs.Common.{◌≡◌, rules, ap, refl, ◌∙◌, Ok, Err, Some, None}
use Rattle.account.specs.Account.{decide}
use Rattle.account.specs.Answers.{done}
use Rattle.study.specs.Faults.{refusal_of}
use Rattle.study.specs.Branches.{decide_fault}
use Rattle.study.specs.Promises.{view_of}
use Rattle.study.proofs.Promises.{told_by, told_answers, told_accepted, keeps_denied}
use Rattle.study.proofs.Branches.{decide_same, keeps_exact}
use Rattle.study.proofs.Study.decide.Goals as goal

pub returns-in-Err-clause-answer : goal.returns-in-Err-clause-answer
returns-in-Err-clause-answer g c =
    told_answers g.C.Calendar.meaning g.M.Model.meaning g.met.M.Model.law c.args.self.now (decide c.args.permit c.args.place c.args.order) {X = Unit {0}} (λ _. done) (Err c.in-Err.fault) (search rules)

pub returns-in-Err-clause-keeps : goal.returns-in-Err-clause-keeps
returns-in-Err-clause-keeps g c =
    let s = c.args.self.now in
    let e : decide_fault (g.M.Model.meaning s.model) (view_of g.C.Calendar.meaning s) c.args.permit c.args.place ≡ Some c.in-Err.fault = search rules in
    keeps_denied g.C.Calendar.meaning g.M.Model.meaning g.met.M.Model.law s (decide c.args.permit c.args.place c.args.order) (refusal_of c.in-Err.fault)
    (decide_same (g.M.Model.meaning s.model) (g.C.Calendar.meaning s.calendar).room (view_of g.C.Calendar.meaning s) c.args.permit c.args.place c.args.order ∙ ap told_by e)

pub returns-clause-answer : goal.returns-clause-answer
returns-clause-answer g c =
    let s = c.args.self.now in
    let e : decide_fault (g.M.Model.meaning s.model) (view_of g.C.Calendar.meaning s) c.args.permit c.args.place ≡ None = search rules in
    told_answers g.C.Calendar.meaning g.M.Model.meaning g.met.M.Model.law s (decide c.args.permit c.args.place c.args.order) {X = Unit {0}} (λ _. done) (Ok tt)
    (told_accepted g.C.Calendar.meaning g.M.Model.meaning g.met.M.Model.law s (decide c.args.permit c.args.place c.args.order) {X = Unit {0}} (λ _. done) tt
    (decide_same (g.M.Model.meaning s.model) (g.C.Calendar.meaning s.calendar).room (view_of g.C.Calendar.meaning s) c.args.permit c.args.place c.args.order ∙ ap told_by e) refl)

pub returns-clause-keeps : goal.returns-clause-keeps
returns-clause-keeps g c =
    let s = c.args.self.now in
    let e : decide_fault (g.M.Model.meaning s.model) (view_of g.C.Calendar.meaning s) c.args.permit c.args.place ≡ None = search rules in
    keeps_exact g.C.Calendar.meaning g.M.Model.meaning g.met.M.Model.law s (decide c.args.permit c.args.place c.args.order) c.give_order.new.self
    (decide_same (g.M.Model.meaning s.model) (g.C.Calendar.meaning s.calendar).room (view_of g.C.Calendar.meaning s) c.args.permit c.args.place c.args.order ∙ ap told_by e) c.give_order.ensures.same (search rules)
