use Rattle.account.specs.Account.{decide, waive}
use Rattle.pace.proofs.Service.{goes_on}
use Rattle.pace.proofs.running.spend.Goals as goal

pub returns-in-Ok-clause-keeps : goal.returns-in-Ok-clause-keeps
returns-in-Ok-clause-keeps g c = goes_on g.C.Calendar.meaning g.M.Model.meaning c.args.study.now c.decide.new.self (decide c.args.permit c.args.place c.args.order) c.decide.ensures.keeps

pub returns-in_ok-waive-in-Err-clause-keeps : goal.returns-in_ok-waive-in-Err-clause-keeps
returns-in_ok-waive-in-Err-clause-keeps g c i =
    goes_on g.C.Calendar.meaning g.M.Model.meaning c.decide.new.self c.waive.new.self (waive c.in-Err.field-0.permit) c.waive.ensures.keeps
    (goes_on g.C.Calendar.meaning g.M.Model.meaning c.args.study.now c.decide.new.self (decide c.args.permit c.args.place c.args.order) c.decide.ensures.keeps i)
