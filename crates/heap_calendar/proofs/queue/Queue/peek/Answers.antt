-- A search among those that wait for the variant.
use Rattle.std.proofs.Common.{◌≡◌, true, filter, sym, refl, ap, ◌∙◌, subst, rules}
use Rattle.std.specs.Option.{option_map}
use Rattle.std.specs.List.{slice_get}
use Rattle.group.specs.Groups.{has}
use Rattle.slot.specs.declared.Slot.{Slot}
use Rattle.slot.specs.Rank.{ranked}
use Rattle.slot.specs.Slots.{earlier, bare, steady}
use Rattle.slot.proofs.Holds.{picks}
use Rattle.heap_calendar.specs.Entries.{slots}
use Rattle.heap_calendar.proofs.Moves.{standing_slots}
use Rattle.heap_calendar.specs.Totals.{standing}
use Rattle.heap_calendar.proofs.queue.Queue.peek.Goals as goal

pub returns : goal.returns
returns c =
    let v = c.args.v in
    let i = c.args.i in
    let s = c.self.inside in
    let l = standing s.taken (slots s.pool.items s.order.items) in
    let e = (λ i. slots (c.as_slice-2.ensures.value i) ((c.live-all.ensures ∙ ap (standing s.taken) c.as_slice.ensures.value) i)) ∙ sym (standing_slots s.taken s.pool.items s.order.items) in
    let told : c.map.result ≡ option_map bare c.nth.result = search rules in
    let found = c.nth.ensures (λ (x : Slot). has x.held.group v) (search rules) (subst (λ l. steady (ranked earlier l) ≡ true) (sym e) c.self.invariant.2.apart) in
    rw (← c.self.view_is) (told ∙ ap (option_map bare) (found ∙ ap (λ l. slice_get (filter (λ (x : Slot). has x.held.group v) (ranked earlier l)) i) e)
    ∙ picks (λ x. has x.held.group v) (λ x. has x.group v) (λ x. refl) l i)
