-- The lines left, after what was told, give what the whole text gives.
use Rattle.std.proofs.Common.{◌≡◌, ◌+◌, ◌≤◌, length}
use Rattle.dayfile.specs.Plans.{read_on, read_text}
use Rattle.dayfile.proofs.plan.read.Given as goal

abbrev pub invariant-loop-line : goal.invariant-loop-line
invariant-loop-line l = record {
  left : read_on l.draft l.line-iterator ≡ read_text l.text;
  numbered : l.draft.line + length l.line-iterator ≤ length l.text + 1;
}
