-- Every place so far stands the same.
use Rattle.std.proofs.Common.{ℕ, ◌<◌}
use Rattle.report.specs.Verdicts.{SamePlace}
use Rattle.report.proofs.verdict.first_unlike_place.Given as goal

abbrev pub invariant-loop-place : goal.invariant-loop-place
invariant-loop-place l = (q : ℕ) → q < l.place → SamePlace l.day l.alone q
