-- x is seen at `at`, on its way down.
use Rattle.std.proofs.Common.{◌-◌, ◌<◌, length, set}
use Rattle.std.specs.List.{AllByRecursion}
use Rattle.std.specs.List.Sorted.{IsPermutation}
use Rattle.std_alloc.proofs.HeapSift as sifts
use Rattle.slot.specs.Slots.{turned}
use Rattle.heap_calendar.specs.Entries.{Fits, slots}
use Rattle.slot.specs.Laws.{turned_total}
use Rattle.heap_calendar.proofs.sift.replace_root.Given as goal

abbrev pub invariant-loop-at : goal.invariant-loop-at
invariant-loop-at l = record {
  within : l.at < length l.all;
  fit : AllByRecursion (Fits l.pool) (set l.all l.at l.x);
  shuffled : IsPermutation (set l.initial.all 0 l.x) (set l.all l.at l.x);
  falling : sifts.Falling turned turned_total (slots l.pool (set l.initial.all 0 l.x)) (length l.initial.all) (slots l.pool (set l.all l.at l.x)) l.at;
}

abbrev pub decreases-loop-at : goal.decreases-loop-at
decreases-loop-at l = length l.initial.all - l.at
