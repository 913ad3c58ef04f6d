-- One more is changed, and at the end all are.
use Rattle.std.proofs.Common.{◌≡◌, get_or, arith}
use Rattle.calendar.specs.declared.Held.{Held}
use Rattle.calendar.specs.Calls.{joins}
use Rattle.journal.proofs.Changes.{blank_held, changed_more, regrouped}
use Rattle.journal.proofs.Journal.spread.Goals as goal

pub loop-h-preserved : goal.loop-h-preserved
loop-h-preserved c =
    let h = get_or c.loop-h.h-items c.loop-h.h-index blank_held in
    let e : record h { group = c.joins.result.group } ≡ joins c.args.v c.args.c h = regrouped c.args.v c.args.c h c.joins.result c.joins.ensures.value in
    rw e (changed_more (joins c.args.v c.args.c) c.deref_mut-h-items.result.now c.loop-h.h-items c.loop-h.h-index (omega (arith, c.loop-h-test.true)) (omega (arith, c.loop-h-test.true)) c.loop-h.invariant)
