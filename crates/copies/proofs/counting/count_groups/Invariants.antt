-- The groups at the places below p are counted.
use Rattle.std.proofs.Common.{◌≡◌, ℕ, ◌*◌, ◌≤◌, Bool}
use Rattle.copies.specs.Sharing.{groups}
use Rattle.copies.specs.Tests.{TellsSharing, TellsWhole}
use Rattle.copies.proofs.counting.count_groups.Given as goal

abbrev pub invariant-loop-p : goal.invariant-loop-p
invariant-loop-p g l = record {
  few : l.groups ≤ 16 * l.p;
  value : (f : ℕ → ℕ → ℕ → Bool) → TellsSharing (goal.F-post g l.share) f → TellsWhole (goal.W-post g l.whole) f → l.groups ≡ groups l.p l.live f;
}
