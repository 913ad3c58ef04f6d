-- The messages below i are listed.
use Rattle.std.proofs.Common.{◌≡◌}
use Rattle.pace.specs.Starts.{listed, passed_at}
use Rattle.pace.proofs.starts.passed.Given as goal

abbrev pub invariant-loop-i : goal.invariant-loop-i
invariant-loop-i l = l.starts.items ≡ listed (passed_at l.places) l.i
