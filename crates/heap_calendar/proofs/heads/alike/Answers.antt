-- An entry of another time, receiver or sender names another key; else the slot is read.
use Rattle.std.proofs.Common.{◌≡◌, true, false, Some, sym, ap, ◌∙◌, subst, rules}
use Rattle.std.specs.Bool.{then_some}
use Rattle.std.specs.Option.{option_map}
use Rattle.std.specs.Prelude.{IfSome}
use Rattle.event.specs.Keys.{same}
use Rattle.event.proofs.Orders.{same_not}
use Rattle.slot.specs.Slots.{key_of_slot}
use Rattle.slot.specs.Passes.{likewise}
use Rattle.heap_calendar.specs.Entries.{Fits, slot_of}
use Rattle.heap_calendar.proofs.Order.{other_time, other_receiver, other_sender}
use Rattle.heap_calendar.proofs.heads.alike.Goals as goal
use Rattle.heap_calendar.proofs.heads.alike.Goals.{then-entry-message-via-then-entry-message, then-entry-message-via-else-entry-message+then-entry-message-2, then-entry-message-via-else-entry-message+else-entry-message-2+then-entry-message-3}

pub returns-then-entry-message : goal.returns-then-entry-message
returns-then-entry-message c =
    let pool = c.args.pool.now in
    let e = c.in_ok-entry.entry in
    let k = key_of_slot c.args.s.now in
    let f : Fits pool e = subst (λ o. IfSome o (Fits pool)) c.in_ok-entry.was c.requires in
    let n : k ≡ key_of_slot (slot_of pool e) → ⊥ = elim c.then-entry-message.branch [
      | then-entry-message-via-then-entry-message w ↦ other_time pool e f k w.if-entry-message.true
      | then-entry-message-via-else-entry-message+then-entry-message-2 w ↦ other_receiver pool e f k w.if-entry-message-2.true
      | then-entry-message-via-else-entry-message+else-entry-message-2+then-entry-message-3 w ↦ other_sender pool e f k w.if-entry-message-3.true
    ] in
    sym (ap (λ o. likewise k (option_map (slot_of pool) o)) c.in_ok-entry.was ∙ ap (λ b. then_some b (slot_of pool e)) (same_not k (key_of_slot (slot_of pool e)) n))

pub returns-then-eq : goal.returns-then-eq
unfolding same
returns-then-eq c =
    let pool = c.args.pool.now in
    let k = key_of_slot c.args.s.now in
    let y = c.slot-found.result.now in
    let t : true ≡ same k (key_of_slot y) = search rules in
    ap (λ b. then_some b y) t ∙ ap (λ z. likewise k (Some z)) c.slot-found.ensures ∙ sym (ap (λ o. likewise k (option_map (slot_of pool) o)) c.in_ok-entry.was)

pub returns-else-eq : goal.returns-else-eq
unfolding same
returns-else-eq c =
    let pool = c.args.pool.now in
    let k = key_of_slot c.args.s.now in
    let y = c.slot-found.result.now in
    let t : false ≡ same k (key_of_slot y) = search rules in
    ap (λ b. then_some b y) t ∙ ap (λ z. likewise k (Some z)) c.slot-found.ensures ∙ sym (ap (λ o. likewise k (option_map (slot_of pool) o)) c.in_ok-entry.was)
