-- The root is the first.
use Rattle.std.proofs.Common.{◌≡◌, ap, ◌∙◌, subst, arith, rules}
use Rattle.std.specs.List.{slice_get}
use Rattle.std.specs.Option.{option_map, option_copied}
use Rattle.event.specs.Lists.{rest, first as head}
use Rattle.std.specs.BinaryHeap.{KeepsHeap}
use Rattle.slot.specs.Slots.{bare, turned}
use Rattle.heap_calendar.specs.Entries.{slots, KeptSoFar}
use Rattle.heap_calendar.proofs.Filled.{kept_filled}
use Rattle.heap_calendar.proofs.Moves.{many, settled_slots}
use Rattle.heap_calendar.proofs.Steps.{sound_settled, sound_taken, settled_order, take_says, rooted}
use Rattle.heap_calendar.proofs.queue.Queue.pop.Goals as goal

pub invariant_of-self-inside : goal.invariant_of-self-inside
invariant_of-self-inside c =
    let s = c.self.inside in
    let pool = s.pool.items in
    let v = c.settle.new.order in
    let xs = slots pool s.order.items in
    let ys = slots pool v.items in
    let e = c.settle.ensures in
    let d = c.deref.ensures.value in
    let p = settled_slots s.taken pool s.order.items v.items e.shuffled in
    let built = subst (λ w. KeepsHeap turned (slots w s.order.items) (slots w v.items)) d e.built in
    let kept = subst (λ w. KeptSoFar w v.items c.settle.new.free.items) d e.kept in
    let told : c.map-told.result ≡ option_map bare (slice_get ys 0) =
    (let t : c.map-told.result ≡ option_map bare (option_copied c.root.result) = search rules in t)
    ∙ ap (option_map bare) (c.root.ensures ∙ (λ i. slice_get (slots (c.deref-2.ensures.value i) (c.deref-3.ensures.value i)) 0)) in
    let n = c.settle.ensures.kept.count in
    let most = c.settle.ensures.kept.few in
    let some = rooted ys c.map-told.result c.is_some-self-inside.result told c.is_some-self-inside.ensures in
    (omega (arith, n, most, v.ok.0), ((λ e. let k = some e in omega (arith, k, v.ok.0, many pool v.items)), tt))

pub invariant_of-self : goal.invariant_of-self
invariant_of-self c =
    let s = c.self.inside in
    let pool = s.pool.items in
    let v = c.settle.new.order in
    let xs = slots pool s.order.items in
    let ys = slots pool v.items in
    let e = c.settle.ensures in
    let d = c.deref.ensures.value in
    let p = settled_slots s.taken pool s.order.items v.items e.shuffled in
    let built = subst (λ w. KeepsHeap turned (slots w s.order.items) (slots w v.items)) d e.built in
    let kept = subst (λ w. KeptSoFar w v.items c.settle.new.free.items) d e.kept in
    let told : c.map-told.result ≡ option_map bare (slice_get ys 0) =
    (let t : c.map-told.result ≡ option_map bare (option_copied c.root.result) = search rules in t)
    ∙ ap (option_map bare) (c.root.ensures ∙ (λ i. slice_get (slots (c.deref-2.ensures.value i) (c.deref-3.ensures.value i)) 0)) in
    let i = c.self.invariant in (
      omega (arith, e.order_room, i.0),
      omega (arith, e.free_room, i.1),
      sound_taken s.next c.is_some-self-inside.result ys (sound_settled s.next s.taken xs ys p built i.2),
      kept,
      i.4,
      kept_filled pool v.items c.settle.new.free.items kept,
    )

pub returns-clause-told : goal.returns-clause-told
returns-clause-told c =
    let s = c.self.inside in
    let pool = s.pool.items in
    let v = c.settle.new.order in
    let xs = slots pool s.order.items in
    let ys = slots pool v.items in
    let e = c.settle.ensures in
    let d = c.deref.ensures.value in
    let p = settled_slots s.taken pool s.order.items v.items e.shuffled in
    let built = subst (λ w. KeepsHeap turned (slots w s.order.items) (slots w v.items)) d e.built in
    let kept = subst (λ w. KeptSoFar w v.items c.settle.new.free.items) d e.kept in
    let told : c.map-told.result ≡ option_map bare (slice_get ys 0) =
    (let t : c.map-told.result ≡ option_map bare (option_copied c.root.result) = search rules in t)
    ∙ ap (option_map bare) (c.root.ensures ∙ (λ i. slice_get (slots (c.deref-2.ensures.value i) (c.deref-3.ensures.value i)) 0)) in
    rw (← c.self.view_is) ((take_says ys c.map-told.result c.is_some-self-inside.result (built c.self.invariant.2.built) told c.is_some-self-inside.ensures).0 ∙ ap head (settled_order s.taken xs ys p))

pub returns-clause-held : goal.returns-clause-held
returns-clause-held c =
    let s = c.self.inside in
    let pool = s.pool.items in
    let v = c.settle.new.order in
    let xs = slots pool s.order.items in
    let ys = slots pool v.items in
    let e = c.settle.ensures in
    let d = c.deref.ensures.value in
    let p = settled_slots s.taken pool s.order.items v.items e.shuffled in
    let built = subst (λ w. KeepsHeap turned (slots w s.order.items) (slots w v.items)) d e.built in
    let kept = subst (λ w. KeptSoFar w v.items c.settle.new.free.items) d e.kept in
    let told : c.map-told.result ≡ option_map bare (slice_get ys 0) =
    (let t : c.map-told.result ≡ option_map bare (option_copied c.root.result) = search rules in t)
    ∙ ap (option_map bare) (c.root.ensures ∙ (λ i. slice_get (slots (c.deref-2.ensures.value i) (c.deref-3.ensures.value i)) 0)) in
    rw (← c.self.view_is) ((take_says ys c.map-told.result c.is_some-self-inside.result (built c.self.invariant.2.built) told c.is_some-self-inside.ensures).1 ∙ ap rest (settled_order s.taken xs ys p))
