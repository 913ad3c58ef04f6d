-- The front is changed, and the rest is as it was.
use Rattle.calendar.specs.Calls.{joins}
use Rattle.journal.proofs.Changes.{Changed}
use Rattle.journal.proofs.Journal.spread.Given as goal

abbrev pub invariant-loop-h : goal.invariant-loop-h
invariant-loop-h l = Changed (joins l.v l.c) l.initial.h-items l.h-items l.h-index
