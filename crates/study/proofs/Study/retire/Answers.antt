use Rattle.std.proofs.Common.{◌≡◌, rules, ap, refl, ◌∙◌, None, Ok}
use Rattle.std.specs.Result.{result_err}
use Rattle.account.specs.Account.{retire}
use Rattle.account.specs.Answers.{done}
use Rattle.study.specs.Branches.{retire_fault}
use Rattle.study.specs.Promises.{view_of}
use Rattle.study.proofs.Promises.{told_by, told_answers, told_accepted, told_err, keeps_err}
use Rattle.study.proofs.Branches.{retire_same, keeps_exact}
use Rattle.study.proofs.Study.retire.Goals as goal

pub returns-in_err-check_retire-clause-answer : goal.returns-in_err-check_retire-clause-answer
returns-in_err-check_retire-clause-answer g c =
    let s = c.args.self.now in
    let e : retire_fault (view_of g.C.Calendar.meaning s) c.args.v ≡ result_err c.from_residual.result = search rules in
    told_answers g.C.Calendar.meaning g.M.Model.meaning g.met.M.Model.law s (retire c.args.v) {X = Unit {0}} (λ _. done) c.from_residual.result
    (told_err g.C.Calendar.meaning g.M.Model.meaning g.met.M.Model.law s (retire c.args.v) {X = Unit {0}} (λ _. done) c.from_residual.result c.from_residual.ensures.0
    (retire_same (g.M.Model.meaning s.model) (g.C.Calendar.meaning s.calendar).room (view_of g.C.Calendar.meaning s) c.args.v ∙ ap told_by e))

pub returns-in_err-check_retire-clause-keeps : goal.returns-in_err-check_retire-clause-keeps
returns-in_err-check_retire-clause-keeps g c =
    let s = c.args.self.now in
    let e : retire_fault (view_of g.C.Calendar.meaning s) c.args.v ≡ result_err c.from_residual.result = search rules in
    keeps_err g.C.Calendar.meaning g.M.Model.meaning g.met.M.Model.law s (retire c.args.v) c.from_residual.result c.from_residual.ensures.0
    (retire_same (g.M.Model.meaning s.model) (g.C.Calendar.meaning s.calendar).room (view_of g.C.Calendar.meaning s) c.args.v ∙ ap told_by e)

pub returns-clause-answer : goal.returns-clause-answer
returns-clause-answer g c =
    let s = c.args.self.now in
    let e : retire_fault (view_of g.C.Calendar.meaning s) c.args.v ≡ None = search rules in
    told_answers g.C.Calendar.meaning g.M.Model.meaning g.met.M.Model.law s (retire c.args.v) {X = Unit {0}} (λ _. done) (Ok tt)
    (told_accepted g.C.Calendar.meaning g.M.Model.meaning g.met.M.Model.law s (retire c.args.v) {X = Unit {0}} (λ _. done) tt
    (retire_same (g.M.Model.meaning s.model) (g.C.Calendar.meaning s.calendar).room (view_of g.C.Calendar.meaning s) c.args.v ∙ ap told_by e) refl)

pub returns-clause-keeps : goal.returns-clause-keeps
returns-clause-keeps g c =
    let s = c.args.self.now in
    let e : retire_fault (view_of g.C.Calendar.meaning s) c.args.v ≡ None = search rules in
    keeps_exact g.C.Calendar.meaning g.M.Model.meaning g.met.M.Model.law s (retire c.args.v) c.remove.new.self
    (retire_same (g.M.Model.meaning s.model) (g.C.Calendar.meaning s.calendar).room (view_of g.C.Calendar.meaning s) c.args.v ∙ ap told_by e) c.remove.ensures.same (search rules)
