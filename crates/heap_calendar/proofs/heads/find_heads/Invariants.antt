-- So many are out, and the last of them is known, or the first.
use Rattle.std.proofs.Common.{◌≡◌, ◌-◌, take, Some, vec_capacity, vec_len}
use Rattle.std.specs.List.{slice_get}
use Rattle.calendar.specs.Calls.{leading}
use Rattle.slot.specs.Rank.{ranked}
use Rattle.slot.specs.Slots.{earlier, in_order}
use Rattle.slot.specs.Passes.{leading_slots}
use Rattle.heap_calendar.specs.Entries.{slots}
use Rattle.heap_calendar.specs.Totals.{standing}
use Rattle.heap_calendar.proofs.heads.find_heads.Given as goal

abbrev pub invariant-loop-i : goal.invariant-loop-i
invariant-loop-i l = let xs = standing l.taken (slots l.pool l.all) in record {
  len : vec_len l.out ≡ l.i;
  room : vec_capacity l.out ≡ vec_capacity l.initial.out;
  found : l.out.items ≡ take l.i (leading (in_order xs));
  near : slice_get (leading_slots (ranked earlier xs)) (l.i - 1) ≡ Some l.near;
}
