-- What stands first below the root, or second.
use Rattle.std.proofs.Common.{sym, ap, ◌∙◌}
use Rattle.std.specs.List.{slice_get}
use Rattle.slot.specs.Rank.{ranked}
use Rattle.slot.specs.Slots.{earlier}
use Rattle.heap_calendar.specs.Entries.{slots}
use Rattle.heap_calendar.specs.Totals.{standing}
use Rattle.heap_calendar.proofs.Thirds.{below_at}
use Rattle.heap_calendar.proofs.root.second.Goals as goal

pub returns-then-taken-clause-slot : goal.returns-then-taken-clause-slot
returns-then-taken-clause-slot c =
    let xs = slots c.args.pool.now c.args.all.now in
    c.below_child.ensures.slot ∙ below_at xs 1 c.requires.heap ∙ sym (ap (λ b. slice_get (ranked earlier (standing b xs)) 1) c.if-taken.true)
