-- The entries below i have gone into the checksum.
use Rattle.pace.specs.Checksums.{Sums}
use Rattle.pace.proofs.checksum.with_journal.Given as goal

abbrev pub invariant-loop-i : goal.invariant-loop-i
invariant-loop-i g l = Sums g.C.Calendar.meaning g.M.Model.meaning l.study l.v l.sum l.i l.all
