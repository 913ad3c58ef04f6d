use Rattle.account.specs.Account.{branch, waive}
use Rattle.pace.proofs.Service.{goes_on}
use Rattle.pace.proofs.running.add_child.Goals as goal

pub returns-in-Some-clause-keeps : goal.returns-in-Some-clause-keeps
returns-in-Some-clause-keeps g c i =
    c.spend.ensures.keeps (goes_on g.C.Calendar.meaning g.M.Model.meaning c.args.study.now c.branch-study.new.self (branch 0) c.branch-study.ensures.keeps i)

pub returns-in-None-clause-keeps : goal.returns-in-None-clause-keeps
returns-in-None-clause-keeps g c i =
    goes_on g.C.Calendar.meaning g.M.Model.meaning c.branch-study.new.self c.waive.new.self (waive c.in_ok-permit.permit) c.waive.ensures.keeps
    (goes_on g.C.Calendar.meaning g.M.Model.meaning c.args.study.now c.branch-study.new.self (branch 0) c.branch-study.ensures.keeps i)
