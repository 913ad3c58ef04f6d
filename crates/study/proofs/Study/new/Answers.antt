use Rattle.std.proofs.Common.{rules}
use Rattle.study.proofs.Promises.{begun}
use Rattle.study.proofs.Study.new.Goals as goal

pub returns-clause-begun : goal.returns-clause-begun
returns-clause-begun g c =
    begun (g.M.Model.meaning c.args.model) (g.met.M.Model.law c.args.model) (g.C.Calendar.meaning c.args.calendar) (g.C.Calendar.meaning c.empty.new.self) c.blank.result _ _ c.in_ok-journal.journal (search rules) (search rules) (search rules)
