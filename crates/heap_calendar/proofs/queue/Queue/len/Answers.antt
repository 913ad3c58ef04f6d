-- As many as the array has, but for a root that was taken.
use Rattle.std.proofs.Common.{◌≡◌, ◌-◌, Bool, true, false, List, [], ◌∷◌, length, sym, refl, ◌∙◌, arith}
use Rattle.slot.specs.declared.Slot.{Slot}
use Rattle.slot.proofs.Holds.{length_in_order}
use Rattle.heap_calendar.specs.Totals.{standing}
use Rattle.heap_calendar.specs.Entries.{slots}
use Rattle.heap_calendar.proofs.Moves.{many}
use Rattle.heap_calendar.proofs.queue.Queue.len.Goals as goal
use mir.Val.{bool_byte}

fewer : (b : Bool) (xs : List Slot) → length xs - bool_byte b ≡ length (standing b xs)
fewer true [] = refl
fewer true (x ∷ xs) = omega arith
fewer false xs = omega arith

pub returns : goal.returns
returns c =
    let s = c.self.inside in
    let xs = slots s.pool.items s.order.items in
    rw (← c.self.view_is) ((λ i. (c.len.ensures ∙ s.order.ok.0 ∙ sym (many s.pool.items s.order.items)) i - c.from.ensures i) ∙ fewer s.taken xs ∙ sym (length_in_order (standing s.taken xs)))
