-- The last one found is number `counter`.
use Rattle.std.proofs.Common.{◌≡◌, true, filter, Some, Bool}
use Rattle.std.specs.List.{slice_get}
use Rattle.slot.specs.declared.Slot.{Slot}
use Rattle.slot.specs.Rank.{ranked}
use Rattle.slot.specs.Slots.{earlier, steady}
use Rattle.heap_calendar.specs.Entries.{slots}
use Rattle.slot.specs.Passes.{Gives}
use Rattle.heap_calendar.proofs.pick.nth.Given as goal

abbrev pub invariant-loop : goal.invariant-loop
invariant-loop g l = (p : Slot → Bool) → Gives g.F.Fn l.test p → steady (ranked earlier (slots l.pool l.all)) ≡ true → Some l.last ≡ slice_get (filter p (ranked earlier (slots l.pool l.all))) l.counter
