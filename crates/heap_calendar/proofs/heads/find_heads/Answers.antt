-- Each turn finds the next, or there is none.
use Rattle.std.proofs.Common.{◌≡◌, ◌+◌, ◌-◌, ◌≤◌, ◌++◌, [], ◌∷◌, take, Some, None, vec_capacity, sym, refl, ap, ◌∙◌, arith, rules}
use Rattle.std.specs.List.{slice_get}
use Rattle.std.specs.Option.{option_map}
use Rattle.calendar.specs.Calls.{leading}
use Rattle.slot.specs.Rank.{ranked}
use Rattle.slot.specs.Slots.{earlier, bare, bares, in_order}
use Rattle.slot.specs.Passes.{leading_slots}
use Rattle.slot.proofs.Fronts.{front_first, fronts_hold, one_more, no_more}
use Rattle.heap_calendar.specs.Entries.{slots}
use Rattle.heap_calendar.specs.Totals.{standing}
use Rattle.heap_calendar.proofs.Steps.{none_is}
use Rattle.heap_calendar.proofs.heads.find_heads.Goals as goal

pub returns-in_default-clause-heads : goal.returns-in_default-clause-heads
returns-in_default-clause-heads c =
    let l = standing c.args.taken (slots c.args.pool.now c.args.all.now) in
    let n = vec_capacity c.args.out.now in
    c.clear.ensures.items ∙ sym (ap (λ r. take n (leading (bares r))) (none_is (ranked earlier l) c.in_default.ensures.slot) ∙ no_more [] 0 n refl (omega arith))

pub loop-i-init : goal.loop-i-init
loop-i-init c =
    let l = standing c.args.taken (slots c.args.pool.now c.args.all.now) in
    record {
      len = search rules;
      room = refl;
      found = search rules;
      near = front_first (ranked earlier l) ∙ sym c.in-Some.ensures.slot ∙ ap Some (sym c.slot.ensures);
    }

pub returns-in_default-next_head-clause-heads : goal.returns-in_default-next_head-clause-heads
returns-in_default-next_head-clause-heads c =
    let l = standing c.args.taken (slots c.args.pool.now c.args.all.now) in
    let i = c.loop-i.i in
    let none : slice_get (leading (in_order l)) i ≡ None = sym (fronts_hold l i) ∙ ap (option_map bare) (sym c.in_default-next_head.ensures) in
    let below : i ≤ vec_capacity c.args.out.now = omega (arith, c.loop-i-test.true, c.capacity-i-end.ensures, c.clear.ensures.capacity) in
    c.loop-i.invariant.found ∙ sym (no_more (leading (in_order l)) i (vec_capacity c.args.out.now) none below)

pub loop-i-preserved : goal.loop-i-preserved
loop-i-preserved c =
    let l = standing c.args.taken (slots c.args.pool.now c.args.all.now) in
    let i = c.loop-i.i in
    let h = c.in-Some-next_head.head in
    let next = sym c.in-Some-next_head.ensures in
    let told : slice_get (leading (in_order l)) i ≡ Some h.held = sym (fronts_hold l i) ∙ ap (option_map bare) next in
    let before : i + 1 - 1 ≡ i = omega arith in
    record {
      len = search rules;
      room = search rules;
      found = c.push_reserved.ensures.items ∙ ap (λ xs. xs ++ h.held ∷ []) c.loop-i.invariant.found ∙ sym (one_more (leading (in_order l)) i h.held told);
      near = ap (slice_get (leading_slots (ranked earlier l))) before ∙ next;
    }
