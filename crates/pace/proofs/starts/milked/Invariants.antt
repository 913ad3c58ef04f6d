-- The messages below i are listed.
use Rattle.std.proofs.Common.{◌≡◌}
use Rattle.pace.specs.Starts.{listed, milked_at}
use Rattle.pace.proofs.starts.milked.Given as goal

abbrev pub invariant-loop-i : goal.invariant-loop-i
invariant-loop-i l = l.starts.items ≡ listed (milked_at l.farms) l.i
