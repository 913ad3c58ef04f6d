-- There is an execution for each leader.
use Rattle.std.proofs.Common.{arith}
use Rattle.event.specs.Lists.{first}
use Rattle.group.specs.Groups.{has}
use Rattle.calendar.specs.Calls.{waiting}
use Rattle.copies.specs.Cells.{cell_of}
use Rattle.copies.specs.Executions.{leads_message}
use Rattle.copies.proofs.Leads.{counted}
use Rattle.copies.proofs.Leaders.{none_left}
use Rattle.copies.proofs.store.Copies.leaders.Goals as goal

pub returns-clause-count : goal.returns-clause-count
returns-clause-count c =
    let cell = cell_of c.args.self.now in
    let heads = c.args.heads.now in
    let l = c.loop-h in
    counted (has l.leaders) (λ v. leads_message cell v (first (waiting v heads))) 16 (λ v k. none_left cell heads l.h-index v (has l.leaders v) (has l.seen v) _ (omega (arith, c.loop-h-test.false)) (l.invariant v))
