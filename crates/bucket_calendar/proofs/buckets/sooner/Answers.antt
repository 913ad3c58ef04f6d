-- The new slot is the first, or the old first stays.
use Rattle.std.proofs.Common.{None, Some, refl, sym, ◌∙◌}
use Rattle.bucket_calendar.proofs.Firsts.{first_new, first_old}
use Rattle.bucket_calendar.proofs.buckets.sooner.Goals as goal

pub returns-in_default : goal.returns-in_default
returns-in_default c xs e = first_new None xs c.args.s (sym c.in_default.is ∙ e) refl

pub returns-then-comes_before : goal.returns-then-comes_before
returns-then-comes_before c xs e = first_new (Some c.in-Some.first) xs c.args.s (sym c.in-Some.is ∙ e) (sym c.comes_before.ensures ∙ c.if-comes_before.true)

pub returns-else-comes_before : goal.returns-else-comes_before
returns-else-comes_before c xs e = first_old (Some c.in-Some.first) xs c.args.s (sym c.in-Some.is ∙ e) (sym c.comes_before.ensures ∙ c.if-comes_before.false)
