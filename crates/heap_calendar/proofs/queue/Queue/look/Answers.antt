-- The first, the second, the third, or a search.
use Rattle.std.proofs.Common.{◌≡◌, true, false, Some, filter, sym, ap, ◌∙◌, subst, rules}
use Rattle.std.specs.Option.{option_map, option_copied}
use Rattle.event.specs.Keys.{same}
use Rattle.event.specs.Lists.{rest}
use Rattle.std.specs.List.{slice_get}
use Rattle.calendar.specs.Calls.{leading}
use Rattle.slot.specs.declared.Slot.{Slot}
use Rattle.slot.specs.Rank.{ranked}
use Rattle.slot.specs.Slots.{earlier, key_of_slot, bare, in_order, steady}
use Rattle.slot.proofs.Holds.{looks}
use Rattle.slot.proofs.Puts.{look_first}
use Rattle.slot.proofs.Looks.{look_at}
use Rattle.heap_calendar.specs.Totals.{standing}
use Rattle.heap_calendar.specs.Entries.{slots, slot_of}
use Rattle.heap_calendar.proofs.Moves.{standing_slots}
use Rattle.heap_calendar.proofs.Steps.{first_is, none_looked}
use Rattle.heap_calendar.proofs.queue.Queue.look.Goals as goal

pub returns-in_err-first : goal.returns-in_err-first
returns-in_err-first c =
    let s = c.self.inside in
    let xs = slots s.pool.items s.order.items in
    let l = standing s.taken xs in
    let at : slots c.as_slice-pool.result.now c.as_slice-all.result.now ≡ xs = λ i. slots (c.as_slice-pool.ensures.value i) (c.as_slice-all.ensures.value i) in
    let none = c.in_err-first.ensures.slot ∙ (λ i. slice_get (ranked earlier (standing s.taken (at i))) 0) in
    rw (← c.self.view_is) (c.from_residual.ensures ∙ none_looked l c.args.i none)

pub returns-in-0 : goal.returns-in-0
returns-in-0 c =
    let s = c.self.inside in
    let xs = slots s.pool.items s.order.items in
    let l = standing s.taken xs in
    let at : slots c.as_slice-pool.result.now c.as_slice-all.result.now ≡ xs = λ i. slots (c.as_slice-pool.ensures.value i) (c.as_slice-all.ensures.value i) in
    let x = c.slot-first.result.now in
    let f = first_is (ranked earlier l) x (ap Some c.slot-first.ensures ∙ c.in_ok-first.ensures.slot ∙ (λ i. slice_get (ranked earlier (standing s.taken (at i))) 0)) in
    rw (← c.self.view_is) (look_first l x (rest (ranked earlier l)) f ∙ ap (slice_get (leading (in_order l))) (sym c.in-0.is))

pub returns-in-1 : goal.returns-in-1
unfolding same
returns-in-1 c =
    let s = c.self.inside in
    let xs = slots s.pool.items s.order.items in
    let l = standing s.taken xs in
    let at : slots c.as_slice-pool.result.now c.as_slice-all.result.now ≡ xs = λ i. slots (c.as_slice-pool.ensures.value i) (c.as_slice-all.ensures.value i) in
    let x = c.slot-first.result.now in
    let f = first_is (ranked earlier l) x (ap Some c.slot-first.ensures ∙ c.in_ok-first.ensures.slot ∙ (λ i. slice_get (ranked earlier (standing s.taken (at i))) 0)) in
    let told : c.map.result ≡ option_map bare (option_copied c.alike.result) = search rules in
    let second = c.second.ensures.slot ∙ (λ i. slice_get (ranked earlier (standing s.taken (at i))) 1) in
    rw (← c.self.view_is) (told ∙ ap (option_map bare) c.alike.ensures ∙ look_at l x (rest (ranked earlier l)) 1 (option_map (slot_of c.as_slice-pool.result.now) c.second.result) f second ∙ ap (slice_get (leading (in_order l))) (sym c.in-1.is))

pub returns-in-2 : goal.returns-in-2
unfolding same
returns-in-2 c =
    let s = c.self.inside in
    let xs = slots s.pool.items s.order.items in
    let l = standing s.taken xs in
    let at : slots c.as_slice-pool.result.now c.as_slice-all.result.now ≡ xs = λ i. slots (c.as_slice-pool.ensures.value i) (c.as_slice-all.ensures.value i) in
    let x = c.slot-first.result.now in
    let f = first_is (ranked earlier l) x (ap Some c.slot-first.ensures ∙ c.in_ok-first.ensures.slot ∙ (λ i. slice_get (ranked earlier (standing s.taken (at i))) 0)) in
    let stands : s.taken ≡ false = c.if-not-self.true in
    let told : c.map-in-2.result ≡ option_map bare (option_copied c.alike-in-2.result) = search rules in
    let third = c.below_child.ensures.slot ∙ (λ i. slice_get (ranked earlier (at i)) 2) ∙ sym (λ i. slice_get (ranked earlier (standing (stands i) xs)) 2) in
    rw (← c.self.view_is) (told ∙ ap (option_map bare) c.alike-in-2.ensures ∙ look_at l x (rest (ranked earlier l)) 2 (option_map (slot_of c.as_slice-pool.result.now) c.below_child.result) f third ∙ ap (slice_get (leading (in_order l))) (sym c.in-2.is))

pub returns-in_default : goal.returns-in_default
unfolding same
returns-in_default c =
    let s = c.self.inside in
    let xs = slots s.pool.items s.order.items in
    let l = standing s.taken xs in
    let at : slots c.as_slice-pool.result.now c.as_slice-all.result.now ≡ xs = λ i. slots (c.as_slice-pool.ensures.value i) (c.as_slice-all.ensures.value i) in
    let x = c.slot-first.result.now in
    let f = first_is (ranked earlier l) x (ap Some c.slot-first.ensures ∙ c.in_ok-first.ensures.slot ∙ (λ i. slice_get (ranked earlier (standing s.taken (at i))) 0)) in
    let e = (λ i. slots (c.as_slice-pool.ensures.value i) ((c.live.ensures ∙ ap (standing s.taken) c.as_slice-all.ensures.value) i)) ∙ sym (standing_slots s.taken s.pool.items s.order.items) in
    let told : c.map-in_default.result ≡ option_map bare c.nth.result = search rules in
    let found = c.nth.ensures (λ (s : Slot). same (key_of_slot x) (key_of_slot s)) (search rules) (subst (λ l. steady (ranked earlier l) ≡ true) (sym e) c.self.invariant.2.apart) in
    rw (← c.self.view_is) (told ∙ ap (option_map bare) (found ∙ ap (λ l. slice_get (filter (λ (s : Slot). same (key_of_slot x) (key_of_slot s)) (ranked earlier l)) c.args.i) e)
    ∙ looks l x (rest (ranked earlier l)) c.args.i f)
