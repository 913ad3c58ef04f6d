-- What was put in is what is made of the front of the list.
use Rattle.std.proofs.Common.{◌≡◌, ◌≤◌, length, take, Option}
use Rattle.std.specs.List.{filter_map}
use Rattle.calendar.specs.declared.Held.{Held}
use Rattle.heap_calendar.specs.Changes.{KeepsKeys}
use Rattle.slot.specs.Passes.{Gives}
use Rattle.heap_calendar.proofs.queue.Queue.put_back.Given as goal

abbrev pub invariant-loop-h : goal.invariant-loop-h
invariant-loop-h g l = record {
  held : (k : Held → Option Held) → Gives g.F.Fn l.f k → KeepsKeys k → l.self.held ≡ filter_map k (take l.h-index l.all);
  fits : length l.self.held ≤ l.h-index;
  ages : l.self.next ≤ l.h-index;
}
