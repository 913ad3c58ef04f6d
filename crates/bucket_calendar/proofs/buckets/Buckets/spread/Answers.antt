-- Each is kept, with c where v is.
use Rattle.std.proofs.Common.{◌≡◌, ap, ◌∙◌, subst, arith, rules}
use Rattle.event.specs.Keys.{key_of}
use Rattle.calendar.specs.Calls.{joins}
use Rattle.calendar.proofs.Variants.{joins_message}
use Rattle.event.specs.Lists.{first}
use Rattle.slot.specs.Rank.{ranked}
use Rattle.slot.specs.Slots.{earlier, in_order}
use Rattle.bucket_calendar.specs.Chains.{Linked}
use Rattle.bucket_calendar.proofs.Maps.{sound_changed, held_changed}
use Rattle.bucket_calendar.proofs.buckets.Buckets.spread.Goals as goal

pub invariant_of-self : goal.invariant_of-self
invariant_of-self c =
    let s = c.self.inside in
    let v = c.args.v in
    let k = c.args.c in
    let ys = c.change.new.pool.items in
    let q = c.earliest-self-inside.result in (
      omega (arith, c.change.ensures.capacity, c.self.invariant.0),
      sound_changed (joins v k) (λ x. ap key_of (joins_message v k x)) s.puts s.first q s.chains.heads s.chains.next s.pool.items ys
          (c.change.ensures.items (joins v k) (search rules)) c.self.invariant.1 (subst (λ l. Linked s.chains.heads s.chains.next l → q ≡ first (ranked earlier l)) c.deref.ensures.value c.earliest-self-inside.ensures),
    )

pub returns-clause-held : goal.returns-clause-held
returns-clause-held c =
    let v = c.args.v in
    let k = c.args.c in
    rw (← c.self.view_is) (ap in_order (c.change.ensures.items (joins v k) (search rules)) ∙ held_changed (joins v k) (λ x. ap key_of (joins_message v k x)) c.self.inside.pool.items c.self.invariant.1.apart)
