-- A put finds room, and is the youngest.
use Rattle.std.proofs.Common.{◌≡◌, ℕ, ◌+◌, ◌≤◌, [], ◌∷◌, ◌++◌, length, take, sym, ap, ◌∙◌, subst, arith}
use Rattle.std.proofs.lemmas.List.{length-append}
use Rattle.event.specs.Lists.{first}
use Rattle.slot.specs.Rank.{ranked}
use Rattle.slot.specs.Slots.{earlier}
use Rattle.slot.specs.Laws.{strictly}
use Rattle.slot.proofs.Picks.{ranked_push}
use Rattle.bucket_calendar.specs.Chains.{Linked}
use Rattle.calendar.specs.declared.Held.{Held}
use Rattle.slot.specs.declared.Slot.{Slot}
use Rattle.slot.proofs.Holds.{length_in_order}
use Rattle.bucket_calendar.proofs.Moves.{sound_push, held_push, linked_all}
use Rattle.bucket_calendar.proofs.buckets.Buckets.push.Goals as goal

-- the new slot
abbrev young : Held → ℕ → Slot
young h n = record { held = h; age = n }

pub push_reserved-requires : goal.push_reserved-requires
push_reserved-requires c =
    let s = c.self.inside in
    let room = rw (← c.self.view_is) at c.requires.room in
    omega (arith, room, length_in_order s.pool.items, s.pool.ok.0, c.self.invariant.0)

pub returns-clause-held : goal.returns-clause-held
returns-clause-held c =
    let s = c.self.inside in
    rw (c.push_reserved.ensures.items, ← c.self.view_is) (held_push s.pool.items (young c.args.h s.puts) c.self.invariant.1.young)

pub invariant_of-self-inside : goal.invariant_of-self-inside
invariant_of-self-inside c =
    let s = c.self.inside in
    let room = rw (← c.self.view_is) at c.requires.room in
    (omega (arith, room, c.push_reserved.ensures.len, length_in_order s.pool.items, s.pool.ok.0), tt)

pub invariant_of-self : goal.invariant_of-self
invariant_of-self c =
    let s = c.self.inside in
    let xs = s.pool.items in
    let x = young c.args.h s.puts in
    let e = c.push_reserved.ensures in
    let zs = xs ++ x ∷ [] in
    let n : length zs ≤ c.len-place.result + 1 = omega (arith, c.len-place.ensures, s.pool.ok.0, length-append xs (x ∷ [])) in
    let d : Linked c.link.new.self.heads c.link.new.self.next zs = linked_all _ _ (c.len-place.result + 1) zs n (subst (λ l. Linked c.link.new.self.heads c.link.new.self.next (take (c.len-place.result + 1) l)) (c.deref.ensures.value ∙ e.items) c.link.ensures.linked) in
    let k : c.sooner-self-inside.result ≡ first (ranked earlier zs) = c.sooner-self-inside.ensures xs c.self.invariant.1.known ∙ ap first (sym (ranked_push earlier strictly xs x)) in (
      omega (arith, e.capacity, c.self.invariant.0),
      rw e.items (sound_push s.first c.sooner-self-inside.result s.chains.heads s.chains.next c.link.new.self.heads c.link.new.self.next xs x c.self.invariant.1 d k),
    )
