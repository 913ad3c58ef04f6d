use Rattle.std.proofs.Common.{◌≡◌, rules, ap, ◌∙◌, None}
use Rattle.account.specs.Account.{waive}
use Rattle.study.specs.Branches.{permit_fault}
use Rattle.study.specs.Promises.{view_of}
use Rattle.study.proofs.Promises.{told_by}
use Rattle.study.proofs.Branches.{waive_same, keeps_exact}
use Rattle.study.proofs.Study.waive.Goals as goal

pub returns-clause-keeps : goal.returns-clause-keeps
returns-clause-keeps g c =
    let s = c.args.self.now in
    let e : permit_fault (view_of g.C.Calendar.meaning s) c.args.permit ≡ None = search rules in
    keeps_exact g.C.Calendar.meaning g.M.Model.meaning g.met.M.Model.law s (waive c.args.permit) c.set_decided.new.self
    (waive_same (g.M.Model.meaning s.model) (g.C.Calendar.meaning s.calendar).room (view_of g.C.Calendar.meaning s) c.args.permit ∙ ap told_by e) c.set_decided.ensures.same (search rules)
