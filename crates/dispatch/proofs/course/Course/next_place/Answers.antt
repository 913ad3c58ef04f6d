-- One more variant is looked at.
use Rattle.std.proofs.Common.{rules}
use Rattle.dispatch.specs.Courses.{number_at}
use Rattle.dispatch.proofs.Smallest.{Next, one_more}
use Rattle.dispatch.proofs.course.Course.next_place.Goals as goal

pub loop-variant-preserved : goal.loop-variant-preserved
loop-variant-preserved c =
    let course = c.args.self.now in
    let i = c.loop-variant.variant-index in
    let told : Next course.study (number_at course.variants.items i) c.in_ok-next.field-0 = search rules in
    let more = one_more course.study course.variants.items i c.loop-variant.least c.in_ok-next.field-0 c.loop-variant.invariant told in
    rw (← c.least_with-least.ensures) at more
