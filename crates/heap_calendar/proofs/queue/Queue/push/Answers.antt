-- A push finds room, and keeps the heap sound.
use Rattle.std.proofs.Common.{ℕ, arith}
use Rattle.calendar.specs.declared.Held.{Held}
use Rattle.slot.specs.declared.Slot.{Slot}
use Rattle.slot.proofs.Holds.{pushed}
use Rattle.heap_calendar.specs.Totals.{standing}
use Rattle.heap_calendar.specs.Entries.{slots}
use Rattle.heap_calendar.proofs.Filled.{kept_filled}
use Rattle.heap_calendar.proofs.Moves.{many}
use Rattle.heap_calendar.proofs.Steps.{sound_put, room_for}
use Rattle.heap_calendar.proofs.queue.Queue.push.Goals as goal

-- the new slot
abbrev young : Held → ℕ → Slot
young h n = record { held = h; age = n }

pub put_in-requires-clause-room : goal.put_in-requires-clause-room
put_in-requires-clause-room c = λ e.
    let s = c.self.inside in
    let room = room_for s.taken (slots s.pool.items s.order.items) 512 (rw (← c.self.view_is) at c.requires.room) e in
    omega (arith, room, many s.pool.items s.order.items, s.order.ok.0)

pub invariant_of-self-inside : goal.invariant_of-self-inside
invariant_of-self-inside c =
    let v = c.put_in.new.order in
    let n = c.put_in.ensures.kept.count in
    let most = c.put_in.ensures.kept.few in
    (omega (arith, n, most, v.ok.0), ((λ e. absurd (let y : ⊥ = cc in y)), tt))

pub invariant_of-self : goal.invariant_of-self
invariant_of-self c =
    let s = c.self.inside in
    let e = c.put_in.ensures in (
      omega (arith, e.order_room, c.self.invariant.0),
      omega (arith, e.free_room, c.self.invariant.1),
      sound_put s.taken (slots s.pool.items s.order.items) (young c.args.h s.next) (slots c.put_in.new.pool.items c.put_in.new.order.items) e.shuffled e.built c.self.invariant.2,
      e.kept,
      omega (arith, e.pool_room, c.self.invariant.4),
      kept_filled _ _ _ e.kept,
    )

pub returns-clause-held : goal.returns-clause-held
returns-clause-held c =
    let s = c.self.inside in
    rw (← c.self.view_is) (pushed (standing s.taken (slots s.pool.items s.order.items)) (young c.args.h s.next) (slots c.put_in.new.pool.items c.put_in.new.order.items) c.put_in.ensures.shuffled c.self.invariant.2.young)
