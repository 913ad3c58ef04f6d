-- The steps so far keep what each one keeps.
use Rattle.std.proofs.Common.{ℕ, List}
use Rattle.event.specs.declared.Start.{Start}
use Rattle.pace.specs.Paces.{InService}
use Rattle.study.specs.Plain.{NeverBranched}
use Rattle.study.specs.Promises.{SameParts}
use Rattle.pace.proofs.running.step.Given as goal

abbrev pub invariant-loop-i : goal.invariant-loop-i
invariant-loop-i g l = record {
  same : SameParts g.C.Calendar.meaning l.initial.study l.study;
  keeps : InService g.C.Calendar.meaning g.M.Model.meaning l.initial.study → InService g.C.Calendar.meaning g.M.Model.meaning l.study;
  alone : (starts : List Start) (end : ℕ) → NeverBranched g.C.Calendar.meaning g.M.Model.meaning starts end l.initial.study → NeverBranched g.C.Calendar.meaning g.M.Model.meaning starts end l.study;
}
