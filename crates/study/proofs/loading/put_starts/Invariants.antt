-- The messages passed are put, and those to come are put after them.
use Rattle.std.proofs.Common.{◌≡◌, drop}
use Rattle.event.specs.Starts.{numbered}
use Rattle.group.specs.Groups.{only}
use Rattle.follows.specs.Rooms.{put_each}
use Rattle.study.proofs.loading.put_starts.Given as goal

abbrev pub invariant-loop-i : goal.invariant-loop-i
invariant-loop-i g l = record {
  rest : put_each (only 0) (numbered l.i (drop l.i l.starts)) (g.C.Calendar.meaning l.calendar) ≡ put_each (only 0) (numbered 0 l.starts) (g.C.Calendar.meaning l.initial.calendar);
}
