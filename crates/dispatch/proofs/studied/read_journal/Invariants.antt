-- The entries below i have been read.
use Rattle.dispatch.specs.Readings.{ReadsEntries}
use Rattle.dispatch.proofs.studied.read_journal.Given as goal

abbrev pub invariant-loop-i : goal.invariant-loop-i
invariant-loop-i l = ReadsEntries l.study l.v l.i l.all.items
