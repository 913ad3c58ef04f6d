use Rattle.std.proofs.Common.{rules, Ok}
use Rattle.account.specs.Account.{reading, group_of}
use Rattle.account.specs.Answers.{number}
use Rattle.study.proofs.Promises.{told_answers}
use Rattle.study.proofs.Study.group.Goals as goal

pub returns-clause-answer : goal.returns-clause-answer
returns-clause-answer g c =
    let s = c.args.self.now in
    told_answers g.C.Calendar.meaning g.M.Model.meaning g.met.M.Model.law s (reading (group_of c.args.v c.args.p)) number (Ok c.size.result) (search rules)
