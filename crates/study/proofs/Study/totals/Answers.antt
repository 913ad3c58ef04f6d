use Rattle.std.proofs.Common.{rules, Ok}
use Rattle.account.specs.Account.{reading, totals}
use Rattle.study.specs.Promises.{totals_answer}
use Rattle.study.proofs.Promises.{told_answers}
use Rattle.study.proofs.Study.totals.Goals as goal

pub returns-clause-answer : goal.returns-clause-answer
returns-clause-answer g c =
    let s = c.args.self.now in
    told_answers g.C.Calendar.meaning g.M.Model.meaning g.met.M.Model.law s (reading totals) totals_answer (Ok (s.register.executions, c.groups-copies.result, c.count.result)) (search rules)
