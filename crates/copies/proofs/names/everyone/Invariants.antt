-- Those below v have joined.
use Rattle.std.proofs.Common.{◌≡◌, ℕ, ltb}
use Rattle.group.specs.Groups.{has}
use Rattle.copies.proofs.names.everyone.Given as goal

abbrev pub invariant-loop-v : goal.invariant-loop-v
invariant-loop-v l = (w : ℕ) → has l.all w ≡ ltb w l.v
