-- The first span that has a slot has the first.
use Rattle.std.proofs.Common.{◌≡◌, ◌≤◌, ◌+◌, true, false, Some, None, Option, sym, refl, ◌∙◌, subst, arith}
use Rattle.std.specs.List.{AllByRecursion}
use Rattle.std.specs.Option.{is_some}
use Rattle.std.proofs.lemmas.Bool.{both_ways}
use Rattle.slot.specs.Rank.{ranked}
use Rattle.slot.specs.declared.Slot.{Slot}
use Rattle.slot.specs.Slots.{earlier}
use Rattle.bucket_calendar.proofs.Spans.{span_of, spans_after, span_first, span_later}
use Rattle.bucket_calendar.proofs.chains.Chains.next_first.Goals as goal

is_one : (o : Option Slot) → is_some o ≡ true → (s : Slot) × (o ≡ Some s)
is_one None e = absurd (both_ways false refl e)
is_one (Some s) e = (s, refl)

is_none : (o : Option Slot) → is_some o ≡ false → o ≡ None
is_none None e = refl
is_none (Some s) e = absurd (both_ways true e refl)

pub loop-ahead-init : goal.loop-ahead-init
loop-ahead-init c =
    let xs = c.args.pool.now in
    let t = span_of c.args.taken.now in
    subst (λ n. AllByRecursion (λ y. n ≤ span_of y) (ranked earlier xs)) (let e : t ≡ t + 0 = omega arith in e) (spans_after c.args.taken.now (ranked earlier xs) c.requires.left)

pub loop-ahead-preserved : goal.loop-ahead-preserved
loop-ahead-preserved c =
    let xs = c.args.pool.now in
    let t = span_of c.args.taken.now in
    let i = c.loop-ahead.ahead in
    subst (λ n. AllByRecursion (λ y. n ≤ span_of y) (ranked earlier xs)) (let e : t + i + 1 ≡ t + (i + 1) = omega arith in e)
    (span_later (t + i) xs c.loop-ahead.invariant (c.first_in-found.ensures.none (is_none c.first_in-found.result (sym c.is_some.ensures ∙ c.if-is_some.false))))

pub returns-then-is_some : goal.returns-then-is_some
returns-then-is_some c =
    let r = is_one c.first_in-found.result (sym c.is_some.ensures ∙ c.if-is_some.true) in
    let f = c.first_in-found.ensures.some r.0 r.1 in
    r.1 ∙ span_first (span_of c.args.taken.now + c.loop-ahead.ahead) c.args.pool.now r.0 c.loop-ahead.invariant f.0 f.1
