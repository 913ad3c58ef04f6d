-- None of the messages passed is refused.
use Rattle.std.proofs.Common.{◌≡◌, ◌≤◌, drop}
use Rattle.study.specs.Loads.{starts_fault}
use Rattle.study.proofs.limits.Limits.check.Given as goal

abbrev pub invariant-loop-i : goal.invariant-loop-i
invariant-loop-i l = record {
  within : l.i ≤ l.self.capacity;
  rest : starts_fault l.self.places l.self.capacity l.self.end 0 l.starts ≡ starts_fault l.self.places l.self.capacity l.self.end l.i (drop l.i l.starts);
}
