-- The first of all is the first of those that wait for v, if v waits for it.
use Rattle.std.proofs.Common.{◌≡◌, true, Some, ap, ◌∙◌, rules}
use Rattle.std.specs.List.{slice_get}
use Rattle.event.specs.Lists.{rest}
use Rattle.calendar.specs.Calls.{waiting}
use Rattle.group.specs.Groups.{has}
use Rattle.slot.specs.Rank.{ranked}
use Rattle.slot.specs.Slots.{earlier, in_order}
use Rattle.heap_calendar.specs.Totals.{standing}
use Rattle.heap_calendar.specs.Entries.{slots}
use Rattle.heap_calendar.proofs.Steps.{first_is, head_waits}
use Rattle.heap_calendar.proofs.queue.Queue.head_for.Goals as goal

pub returns-then-has : goal.returns-then-has
returns-then-has c =
    let s = c.self.inside in
    let l = standing s.taken (slots s.pool.items s.order.items) in
    let at : slots c.as_slice-pool.result.now c.as_slice.result.now ≡ slots s.pool.items s.order.items = λ i. slots (c.as_slice-pool.ensures.value i) (c.as_slice.ensures.value i) in
    let x = c.slot.result.now in
    let f = first_is (ranked earlier l) x (ap Some c.slot.ensures ∙ c.in_ok-first.ensures.slot ∙ (λ i. slice_get (ranked earlier (standing s.taken (at i))) 0)) in
    let h : has x.held.group c.args.v ≡ true = search rules in
    rw (← c.self.view_is) (head_waits l x (rest (ranked earlier l)) c.args.v f h)
