-- The front is changed, and the rest is as it was.
use Rattle.std.proofs.Common.{◌≡◌, ◌++◌, map, take, drop}
use Rattle.calendar.specs.declared.Held.{Held}
use Rattle.bucket_calendar.specs.Changes.{changed}
use Rattle.slot.specs.Passes.{Gives}
use Rattle.bucket_calendar.proofs.buckets.change.Given as goal

abbrev pub invariant-loop-s : goal.invariant-loop-s
invariant-loop-s g l = (k : Held → Held) → Gives g.F.Fn l.f k → l.s-items ≡ map (changed k) (take l.s-index l.initial.s-items) ++ drop l.s-index l.initial.s-items
