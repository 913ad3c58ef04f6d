-- The turns of the variants below n are over, and the others that lead are left.
use Rattle.std.proofs.Common.{◌≡◌, ℕ}
use Rattle.group.specs.Groups.{count, has}
use Rattle.copies.proofs.Members.{From}
use Rattle.study.specs.Promises.{SameParts}
use Rattle.study.proofs.Turns.{Turned}
use Rattle.study.proofs.Study.run_turns.Given as goal

abbrev pub invariant-loop-v : goal.invariant-loop-v
invariant-loop-v g l = let old = l.initial.self in record {
  n : ℕ;
  from : From (has l.fn.leaders) (has l.rest) n;
  same : SameParts g.C.Calendar.meaning old l.self;
  heads : l.self.heads ≡ old.heads;
  held : Turned g.C.Calendar.meaning g.M.Model.meaning old l.fn.leaders l.self n;
}

abbrev pub decreases-loop-v : goal.decreases-loop-v
decreases-loop-v g l = count (has l.rest) 16
