-- Those below x that pass are counted.
use Rattle.std.proofs.Common.{◌≡◌, ℕ, ◌≤◌, Bool}
use Rattle.account.specs.Account.{ind, sum_below}
use Rattle.copies.specs.Tests.{Tells}
use Rattle.copies.proofs.below.count.Given as goal

abbrev pub invariant-loop-x : goal.invariant-loop-x
invariant-loop-x g l = record {
  few : l.count ≤ l.x;
  value : (f : ℕ → Bool) → Tells (goal.F-post g l.test) f → l.count ≡ sum_below (λ x. ind (f x)) l.x;
}
