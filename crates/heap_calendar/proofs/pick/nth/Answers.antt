-- Each turn finds the next.
use Rattle.std.proofs.Common.{◌+◌, ◌∙◌, sym, arith}
use Rattle.heap_calendar.specs.Entries.{slots}
use Rattle.slot.proofs.Nths.{nth_next, nth_start}
use Rattle.slot.proofs.Picks.{at_none}
use Rattle.heap_calendar.proofs.pick.nth.Goals as goal

pub returns-in_err-last : goal.returns-in_err-last
returns-in_err-last g c p t s = c.from_residual.ensures ∙ sym (at_none _ 0 c.args.i (sym (c.in_err-last.ensures p t ∙ nth_start p (slots c.args.pool.now c.args.all.now))) (omega arith))

pub loop-init : goal.loop-init
loop-init g c p t s = c.in_ok-last.ensures p t ∙ nth_start p (slots c.args.pool.now c.args.all.now)

pub returns-in_err-last-2 : goal.returns-in_err-last-2
returns-in_err-last-2 g c p t s =
    c.from_residual-in_err-last-2.ensures
    ∙ sym (at_none _ (c.loop.counter + 1) c.args.i (sym (c.in_err-last-2.ensures p t ∙ nth_next p (slots c.args.pool.now c.args.all.now) c.loop.counter c.loop.last s (c.loop.invariant p t s))) (omega arith))

pub loop-preserved : goal.loop-preserved
loop-preserved g c p t s = c.in_ok-last-2.ensures p t ∙ nth_next p (slots c.args.pool.now c.args.all.now) c.loop.counter c.loop.last s (c.loop.invariant p t s)
