-- All that is left is of the span at hand, or later.
use Rattle.std.proofs.Common.{◌≤◌, ◌+◌}
use Rattle.std.specs.List.{AllByRecursion}
use Rattle.slot.specs.Rank.{ranked}
use Rattle.slot.specs.Slots.{earlier}
use Rattle.bucket_calendar.proofs.Spans.{span_of}
use Rattle.bucket_calendar.proofs.chains.Chains.next_first.Given as goal

abbrev pub invariant-loop-ahead : goal.invariant-loop-ahead
invariant-loop-ahead l = AllByRecursion (λ y. l.span + l.ahead ≤ span_of y) (ranked earlier l.pool)
