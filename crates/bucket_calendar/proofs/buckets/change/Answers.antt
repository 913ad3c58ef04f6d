-- One more is changed.
use Rattle.std.proofs.Common.{ap, ◌∙◌, get_or, set, arith}
use Rattle.std.proofs.lemmas.List.{get_or_default}
use Rattle.std.proofs.lemmas.List.Edits.{map_over_more}
use Rattle.calendar.specs.declared.Held.{Held}
use Rattle.slot.specs.declared.Slot.{Slot}
use Rattle.bucket_calendar.specs.Changes.{changed}
use Rattle.bucket_calendar.specs.Chains.{blank}
use Rattle.bucket_calendar.proofs.buckets.change.Goals as goal

-- with its age
abbrev as_old : Held → Slot → Slot
as_old h x = record { held = h; age = x.age }

pub loop-s-preserved : goal.loop-s-preserved
loop-s-preserved g c k t =
    let ys = c.loop-s.s-items in
    let i = c.loop-s.s-index in
    let x = get_or ys i blank in
    ap (λ h. set ys i (as_old h x)) (t _ _ c.f-s.ensures)
    ∙ map_over_more (changed k) c.deref_mut-s-items.result.now ys i x (omega (arith, c.loop-s-test.true)) (c.loop-s.invariant k t) (get_or_default ys i blank x (omega (arith, c.loop-s-test.true)))
