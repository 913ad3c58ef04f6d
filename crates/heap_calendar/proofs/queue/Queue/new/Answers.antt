-- An empty heap is sound, and nothing is named or free.
use Rattle.std.proofs.Common.{ap}
use Rattle.heap_calendar.specs.Entries.{slots}
use Rattle.heap_calendar.proofs.Filled.{kept_filled}
use Rattle.heap_calendar.proofs.Keeps.{kept_none}
use Rattle.heap_calendar.proofs.Steps.{sound_none}
use Rattle.heap_calendar.proofs.queue.Queue.new.Goals as goal

pub invariant_of-result-2 : goal.invariant_of-result-2
invariant_of-result-2 c =
    let p = c.in_ok-with_capacity.ensures in
    let e = c.in_ok-with_capacity-2.ensures in
    let f = c.in_ok-with_capacity-3.ensures in
    let kept = kept_none _ _ _ p.items e.items f.items in
    (e.capacity, f.capacity, sound_none 0 _ (ap (slots _) e.items), kept, p.capacity, kept_filled _ _ _ kept)
