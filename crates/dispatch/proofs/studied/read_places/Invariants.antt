-- The places below p have been read.
use Rattle.dispatch.specs.Readings.{ReadsPlaces}
use Rattle.dispatch.proofs.studied.read_places.Given as goal

abbrev pub invariant-loop-p : goal.invariant-loop-p
invariant-loop-p l = ReadsPlaces l.study l.v l.p l.all.items
