-- The journals of the variants below v have gone into the checksum.
use Rattle.pace.specs.Checksums.{AllSummed}
use Rattle.pace.proofs.running.sum_up.Given as goal

abbrev pub invariant-loop-v : goal.invariant-loop-v
invariant-loop-v g l = AllSummed g.C.Calendar.meaning g.M.Model.meaning l.study l.v l.checksum
