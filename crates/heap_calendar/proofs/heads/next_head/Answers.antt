-- The first itself, the second, the third, or a search behind the one before.
use Rattle.std.proofs.Common.{◌-◌, Some, sym, ap, ◌∙◌, arith, filter, rules}
use Rattle.std.specs.List.{slice_get}
use Rattle.event.specs.Keys.{same}
use Rattle.event.specs.Lists.{first as head}
use Rattle.slot.specs.declared.Slot.{Slot}
use Rattle.slot.specs.Rank.{ranked}
use Rattle.slot.specs.Slots.{earlier, key_of_slot}
use Rattle.slot.specs.Passes.{admits, leading_slots, likewise}
use Rattle.slot.proofs.Fronts.{next_front, front_after}
use Rattle.heap_calendar.specs.Entries.{slots}
use Rattle.heap_calendar.specs.Totals.{standing}
use Rattle.heap_calendar.proofs.Moves.{standing_slots}
use Rattle.heap_calendar.proofs.heads.next_head.Goals as goal

pub returns-in-1 : goal.returns-in-1
returns-in-1 c =
    let l = standing c.args.taken (slots c.args.pool.now c.args.all.now) in
    let y = c.args.near.now in
    c.copied.ensures ∙ c.alike.ensures ∙ ap (likewise (key_of_slot y)) c.second.ensures.slot ∙ next_front l 1 (c.args.i - 1) y c.requires.near
    ∙ ap (slice_get (leading_slots (ranked earlier l))) (sym c.in-1.is)

pub returns-in-2 : goal.returns-in-2
returns-in-2 c =
    let xs = slots c.args.pool.now c.args.all.now in
    let l = standing c.args.taken xs in
    let y = c.args.near.now in
    let third = c.below_child.ensures.slot ∙ sym (ap (λ b. slice_get (ranked earlier (standing b xs)) 2) c.if-not-taken.true) in
    c.copied-in-2.ensures ∙ c.alike-in-2.ensures ∙ ap (likewise (key_of_slot y)) third ∙ next_front l 2 (c.args.i - 1) y c.requires.near
    ∙ ap (slice_get (leading_slots (ranked earlier l))) (sym c.in-2.is)

pub returns-in_default : goal.returns-in_default
unfolding same
returns-in_default c =
    let pool = c.args.pool.now in
    let es = c.args.all.now in
    let l = standing c.args.taken (slots pool es) in
    let y = c.args.near.now in
    let p = λ (s : Slot). same (key_of_slot y) (key_of_slot s) in
    let e = ap (slots pool) c.live.ensures ∙ sym (standing_slots c.args.taken pool es) in
    let found = c.first_after.ensures p (search rules) in
    let n = c.if-i-eq0.false in
    found ∙ ap (λ r. head (filter (admits p (Some y)) (ranked earlier r))) e ∙ front_after l c.args.i y (omega arith) c.requires.apart c.requires.near
