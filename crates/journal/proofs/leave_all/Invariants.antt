-- The front is changed, and the rest is as it was.
use Rattle.calendar.specs.Calls.{leaves}
use Rattle.journal.proofs.Changes.{Changed}
use Rattle.journal.proofs.leave_all.Given as goal

abbrev pub invariant-loop-h : goal.invariant-loop-h
invariant-loop-h l = Changed (leaves l.v) l.initial.h-items l.h-items l.h-index
