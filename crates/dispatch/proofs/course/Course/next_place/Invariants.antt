-- The least key of the first i variants, if one waits there.
use Rattle.std.proofs.Common.{MatchOption}
use Rattle.dispatch.specs.Courses.{IsLeast, NothingWaits}
use Rattle.dispatch.proofs.course.Course.next_place.Given as goal

abbrev pub invariant-loop-variant : goal.invariant-loop-variant
invariant-loop-variant l = MatchOption l.least (NothingWaits l.self.study l.self.variants.items l.variant-index) (IsLeast l.self.study l.self.variants.items l.variant-index)
