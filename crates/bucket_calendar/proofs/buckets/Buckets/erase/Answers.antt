-- Each goes on without v, if some variant still waits for it.
use Rattle.std.proofs.Common.{◌≡◌, map, filter, refl, sym, ap, ◌∙◌, subst, arith, rules}
use Rattle.std.proofs.lemmas.Fn.{filter_same}
use Rattle.std.proofs.lemmas.Bool.{lt-ltb, cond-true}
use Rattle.calendar.specs.Calls.{leaves, wanted}
use Rattle.event.specs.Lists.{first}
use Rattle.slot.specs.Rank.{ranked}
use Rattle.slot.specs.Slots.{earlier, in_order}
use Rattle.bucket_calendar.specs.Chains.{Linked}
use Rattle.bucket_calendar.specs.Changes.{changed}
use Rattle.bucket_calendar.proofs.Maps.{lasts, sound_kept, held_kept, held_changed}
use Rattle.bucket_calendar.proofs.buckets.Buckets.erase.Goals as goal

pub invariant_of-self : goal.invariant_of-self
invariant_of-self c =
    let s = c.self.inside in
    let v = c.args.v in
    let left : c.retain.new.self.items ≡ filter lasts (map (changed (leaves v)) s.pool.items) =
    filter_same _ lasts _ (λ x b f k. search rules) _ _ c.retain.ensures.filtered ∙ ap (filter lasts) (c.change.ensures.items (leaves v) (search rules)) in
    let ys = c.retain.new.self.items in
    let hs = c.of-self-inside.result.heads in
    let nx = c.of-self-inside.result.next in
    let q = c.earliest-self-inside.result in (
      omega (arith, c.retain.ensures.capacity, c.change.ensures.capacity, c.self.invariant.0),
      sound_kept (leaves v) (λ x. refl) s.puts s.first q s.chains.heads s.chains.next hs nx s.pool.items ys left c.self.invariant.1
          (subst (Linked hs nx) c.deref.ensures.value c.of-self-inside.ensures) (subst (λ l. Linked hs nx l → q ≡ first (ranked earlier l)) c.deref-2.ensures.value c.earliest-self-inside.ensures),
    )

pub returns-clause-held : goal.returns-clause-held
returns-clause-held c =
    let s = c.self.inside in
    let v = c.args.v in
    let left : c.retain.new.self.items ≡ filter lasts (map (changed (leaves v)) s.pool.items) =
    filter_same _ lasts _ (λ x b f k. search rules) _ _ c.retain.ensures.filtered ∙ ap (filter lasts) (c.change.ensures.items (leaves v) (search rules)) in
    rw (← c.self.view_is) (ap in_order left ∙ held_kept (map (changed (leaves v)) s.pool.items) ∙ ap (filter wanted) (held_changed (leaves v) (λ x. refl) s.pool.items c.self.invariant.1.apart)
    ∙ sym (cond-true _ _ _ (lt-ltb v 16 (omega arith))))
