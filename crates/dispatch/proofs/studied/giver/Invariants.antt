-- None of the variants below w shares the place.
use Rattle.std.proofs.Common.{ℕ, ◌<◌, false}
use Rattle.dispatch.specs.Readings.{SharesAs}
use Rattle.dispatch.proofs.studied.giver.Given as goal

abbrev pub invariant-loop-w : goal.invariant-loop-w
invariant-loop-w l = (u : ℕ) → u < l.w → SharesAs l.study l.v u l.p false
