use Rattle.std.proofs.Common.{◌≡◌, rules, ap, ◌∙◌, None}
use Rattle.account.specs.Account.{branch}
use Rattle.study.specs.Branches.{branch_fault}
use Rattle.study.specs.Promises.{view_of}
use Rattle.study.proofs.Promises.{told_by}
use Rattle.study.proofs.Branches.{branch_same, branch_small, keeps_exact}
use Rattle.study.proofs.Study.branch.Goals as goal

pub add_child-requires-clause-parent : goal.add_child-requires-clause-parent
add_child-requires-clause-parent g c = branch_small (view_of g.C.Calendar.meaning c.args.self.now) c.args.v (search rules)

pub returns-clause-keeps : goal.returns-clause-keeps
returns-clause-keeps g c =
    let s = c.args.self.now in
    let e : branch_fault (view_of g.C.Calendar.meaning s) c.args.v ≡ None = search rules in
    keeps_exact g.C.Calendar.meaning g.M.Model.meaning g.met.M.Model.law s (branch c.args.v) c.add_child.new.self
    (branch_same (g.M.Model.meaning s.model) (g.C.Calendar.meaning s.calendar).room (view_of g.C.Calendar.meaning s) c.args.v ∙ ap told_by e) c.add_child.ensures.same c.add_child.ensures.held
