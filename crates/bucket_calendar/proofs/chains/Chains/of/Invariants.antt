-- The slots so far are linked.
use Rattle.std.proofs.Common.{take}
use Rattle.bucket_calendar.specs.Chains.{Linked}
use Rattle.bucket_calendar.proofs.chains.Chains.of.Given as goal

abbrev pub invariant-loop-place : goal.invariant-loop-place
invariant-loop-place l = Linked l.chains.heads l.chains.next (take l.place l.pool)
