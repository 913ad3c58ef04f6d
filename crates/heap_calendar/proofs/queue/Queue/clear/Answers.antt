-- An empty heap is sound, and nothing is named or free.
use Rattle.std.proofs.Common.{ap, arith}
use Rattle.heap_calendar.specs.Entries.{slots}
use Rattle.heap_calendar.proofs.Filled.{kept_filled}
use Rattle.heap_calendar.proofs.Keeps.{kept_none}
use Rattle.heap_calendar.proofs.Steps.{sound_none}
use Rattle.heap_calendar.proofs.queue.Queue.clear.Goals as goal

pub invariant_of-self : goal.invariant_of-self
invariant_of-self c =
    let kept = kept_none _ _ _ c.clear.ensures.items c.clear-2.ensures.items c.clear-3.ensures.items in
    let i = c.self.invariant in (
      omega (arith, c.clear-2.ensures.capacity, i.0),
      omega (arith, c.clear-3.ensures.capacity, i.1),
      sound_none 0 _ (ap (slots _) c.clear-2.ensures.items),
      kept,
      omega (arith, c.clear.ensures.capacity, i.4),
      kept_filled _ _ _ kept,
    )
