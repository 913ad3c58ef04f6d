-- The children so far keep what each one keeps.
use Rattle.std.proofs.Common.{◌≡◌, ◌≤◌}
use Rattle.pace.specs.Paces.{InService}
use Rattle.study.specs.Promises.{SameParts}
use Rattle.pace.proofs.running.add_children.Given as goal

abbrev pub invariant-loop-child : goal.invariant-loop-child
invariant-loop-child g l = record {
  same : SameParts g.C.Calendar.meaning l.initial.study l.study;
  keeps : InService g.C.Calendar.meaning g.M.Model.meaning l.initial.study → InService g.C.Calendar.meaning g.M.Model.meaning l.study;
  none : l.variants ≤ 1 → l.study ≡ l.initial.study;
}
