-- One more is changed.
use Rattle.std.proofs.Common.{arith}
use Rattle.calendar.specs.Calls.{leaves}
use Rattle.journal.proofs.Changes.{changed_more}
use Rattle.journal.proofs.leave_all.Goals as goal

pub loop-h-preserved : goal.loop-h-preserved
loop-h-preserved c = rw c.leaves.ensures.value (changed_more (leaves c.args.v) c.deref_mut-h-items.result.now c.loop-h.h-items c.loop-h.h-index (omega (arith, c.loop-h-test.true)) (omega (arith, c.loop-h-test.true)) c.loop-h.invariant)
