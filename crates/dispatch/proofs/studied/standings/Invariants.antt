-- The standings of the places below p have been read.
use Rattle.dispatch.specs.Readings.{ReadsStandings}
use Rattle.dispatch.proofs.studied.standings.Given as goal

abbrev pub invariant-loop-p : goal.invariant-loop-p
invariant-loop-p l = ReadsStandings l.study l.partings l.v l.p l.all.items
