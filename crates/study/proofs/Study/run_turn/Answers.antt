-- Who leads has a message, and its group runs it.
use Rattle.std.proofs.Common.{rules}
use Rattle.study.specs.Promises.{view_of}
use Rattle.study.proofs.Turns.{turn_led}
use Rattle.study.proofs.Study.run_turn.Goals as goal

pub returns-in-Some-clause-held : goal.returns-in-Some-clause-held
returns-in-Some-clause-held g c =
    let s = c.args.self.now in
    turn_led (g.M.Model.meaning s.model) (g.C.Calendar.meaning s.calendar).room s.heads.items (view_of g.C.Calendar.meaning s) (view_of g.C.Calendar.meaning c.run_group.new.self) c.args.v c.in-Some.head (search rules) c.run_group.ensures.held
