-- One more variant stands so.
use Rattle.std.proofs.Common.{◌≡◌, ◌∷◌, ◌++◌, [], rules, length, slice_index_or, arith}
use borrow.Author.Count.{below_more}
use Rattle.std.proofs.lemmas.List.{get_or_append_left, get_or_push}
use Rattle.dispatch.specs.Courses.{IsPoised, blank_poised, number_at}
use Rattle.dispatch.proofs.course.Course.poise_all.Goals as goal

pub loop-variant-preserved : goal.loop-variant-preserved
loop-variant-preserved c =
    let course = c.args.self.now in
    let i = c.loop-variant.variant-index in
    let old = c.loop-variant.all.items in
    let counted : length old ≡ i = c.loop-variant.invariant.count in
    let pushed : c.push.new.self.items ≡ old ++ c.in_ok-poise.field-0 ∷ [] = search rules in
    let stands : IsPoised course.study course.model (number_at course.variants.items i) c.args.place c.in_ok-poise.field-0 = search rules in
    record {
      count = search (rules, arith);
      each = below_more (λ q. IsPoised course.study course.model (number_at course.variants.items q) c.args.place (slice_index_or c.push.new.self.items q blank_poised)) i
          (λ q low. rw (pushed, get_or_append_left old (c.in_ok-poise.field-0 ∷ []) blank_poised q (omega arith)) (c.loop-variant.invariant.each q low))
          (rw (pushed, get_or_push old c.in_ok-poise.field-0 blank_poised i counted) stands);
    }
