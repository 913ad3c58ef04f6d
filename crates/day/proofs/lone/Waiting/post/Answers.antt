-- There is room, so m is inserted, and it is in time.
use Rattle.std.proofs.Common.{◌≡◌, ◌<◌, ◌≤◌, List, vec_items, arith}
use Rattle.event.specs.declared.Message.{Message}
use Rattle.event.specs.Keys.{key_of}
use Rattle.event.specs.Lists.{insert}
use Rattle.day.proofs.Places.{places_insert}
use Rattle.day.proofs.lone.Waiting.post.Goals as goal

pub invariant_of-self : goal.invariant_of-self
invariant_of-self c =
    let s = c.args.self.now in
    let old : List Message = vec_items s.messages in
    let new : List Message = vec_items c.insert_by_key.new.list in
    let room = s.room in
    let is : new ≡ insert key_of c.args.m old = grind arith in
    record {
      room = omega (arith, c.insert_by_key.ensures.capacity);
      ended = s.ended;
      timely = places_insert (λ m. m.time ≤ s.end) c.args.m old new is (omega arith) (omega arith) s.timely;
      placed = places_insert (λ m. m.receiver < 32) c.args.m old new is (omega arith) c.requires.placed s.placed;
    }
