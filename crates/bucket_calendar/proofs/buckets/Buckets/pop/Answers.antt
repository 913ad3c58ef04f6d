-- The first goes, and its bucket is led by the next.
use Rattle.std.proofs.Common.{false, ◌≡◌, Some, sym, ap, ◌∙◌, subst, arith}
use Rattle.event.specs.Lists.{rest, first as head}
use Rattle.std.specs.List.{AllByRecursion}
use Rattle.slot.specs.Rank.{ranked, Rising}
use Rattle.slot.specs.Laws.{strictly}
use Rattle.slot.proofs.Ranks.{ranked_rising}
use Rattle.slot.specs.Slots.{earlier, bares}
use Rattle.bucket_calendar.specs.Chains.{at, Linked}
use Rattle.bucket_calendar.proofs.Moves.{sound_rest, first_at, first_somewhere, taken}
use Rattle.bucket_calendar.proofs.buckets.Buckets.pop.Goals as goal

pub returns-in_err-place-clause-told : goal.returns-in_err-place-clause-told
returns-in_err-place-clause-told c =
    let s = c.self.inside in
    absurd (first_somewhere s.chains.heads s.chains.next s.pool.items c.in_ok-first.first c.bucket-b.result (sym c.in_ok-first.was ∙ c.self.invariant.1.known) c.bucket-b.ensures.value c.in_err-place.was c.self.invariant.1.linked)

pub returns-in_err-place-clause-held : goal.returns-in_err-place-clause-held
returns-in_err-place-clause-held c =
    let s = c.self.inside in
    absurd (first_somewhere s.chains.heads s.chains.next s.pool.items c.in_ok-first.first c.bucket-b.result (sym c.in_ok-first.was ∙ c.self.invariant.1.known) c.bucket-b.ensures.value c.in_err-place.was c.self.invariant.1.linked)

pub swap_remove-requires : goal.swap_remove-requires
swap_remove-requires c =
    let s = c.self.inside in
    let p = first_at s.chains.heads s.chains.next s.pool.items c.in_ok-first.first c.bucket-b.result c.in_ok-place.place (sym c.in_ok-first.was ∙ c.self.invariant.1.known) c.bucket-b.ensures.value c.in_ok-place.was c.self.invariant.1.linked in
    omega (arith, p.0, s.pool.ok.0)

pub invariant_of-self : goal.invariant_of-self
invariant_of-self c =
    let s = c.self.inside in
    let xs = s.pool.items in
    let ys = c.swap_remove.new.self.items in
    let x = c.in_ok-first.first in
    let i = c.in_ok-place.place in
    let e = c.swap_remove.ensures in
    let hs = c.unlink.new.self.heads in
    let nx = c.unlink.new.self.next in
    let q = c.next_first-self-inside.result in
    let f = sym c.in_ok-first.was ∙ c.self.invariant.1.known in
    let p = first_at s.chains.heads s.chains.next xs x c.bucket-b.result i f c.bucket-b.ensures.value c.in_ok-place.was c.self.invariant.1.linked in
    let t = taken xs ys i c.swap_remove.result (sym f ∙ ap Some (sym p.1)) p.0 e.value e.items in
    let d : Linked hs nx ys = c.unlink.ensures c.swap_remove.result ys (rw c.deref.ensures.value e.items) (rw c.deref.ensures.value t) in (
      omega (arith, e.capacity, c.self.invariant.0),
      sound_rest s.puts s.first q s.chains.heads s.chains.next hs nx xs ys (at xs i) t c.self.invariant.1 d
          (λ _. c.next_first-self-inside.ensures ∙ ap (λ l. head (ranked earlier l)) c.deref-2.ensures.value),
    )

pub returns-clause-held : goal.returns-clause-held
returns-clause-held c =
    let s = c.self.inside in
    let xs = s.pool.items in
    let ys = c.swap_remove.new.self.items in
    let i = c.in_ok-place.place in
    let e = c.swap_remove.ensures in
    let f = sym c.in_ok-first.was ∙ c.self.invariant.1.known in
    let p = first_at s.chains.heads s.chains.next xs c.in_ok-first.first c.bucket-b.result i f c.bucket-b.ensures.value c.in_ok-place.was c.self.invariant.1.linked in
    let t = taken xs ys i c.swap_remove.result (sym f ∙ ap Some (sym p.1)) p.0 e.value e.items in
    rw (← c.self.view_is) (sym (ap (λ l. rest (bares l)) t))

pub next_first-self-inside-requires-clause-linked : goal.next_first-self-inside-requires-clause-linked
next_first-self-inside-requires-clause-linked c =
    let s = c.self.inside in
    let xs = s.pool.items in
    let ys = c.swap_remove.new.self.items in
    let x = c.in_ok-first.first in
    let i = c.in_ok-place.place in
    let e = c.swap_remove.ensures in
    let f = sym c.in_ok-first.was ∙ c.self.invariant.1.known in
    let p = first_at s.chains.heads s.chains.next xs x c.bucket-b.result i f c.bucket-b.ensures.value c.in_ok-place.was c.self.invariant.1.linked in
    let t = taken xs ys i c.swap_remove.result (sym f ∙ ap Some (sym p.1)) p.0 e.value e.items in
    rw c.deref-2.ensures.value (c.unlink.ensures c.swap_remove.result ys (rw c.deref.ensures.value e.items) (rw c.deref.ensures.value t))

pub next_first-self-inside-requires-clause-left : goal.next_first-self-inside-requires-clause-left
next_first-self-inside-requires-clause-left c =
    let s = c.self.inside in
    let xs = s.pool.items in
    let ys = c.swap_remove.new.self.items in
    let x = c.in_ok-first.first in
    let i = c.in_ok-place.place in
    let e = c.swap_remove.ensures in
    let f = sym c.in_ok-first.was ∙ c.self.invariant.1.known in
    let p = first_at s.chains.heads s.chains.next xs x c.bucket-b.result i f c.bucket-b.ensures.value c.in_ok-place.was c.self.invariant.1.linked in
    let t = taken xs ys i c.swap_remove.result (sym f ∙ ap Some (sym p.1)) p.0 e.value e.items in
    rw c.deref-2.ensures.value (subst (λ y. AllByRecursion (λ z. earlier z y ≡ false) (ranked earlier ys)) p.1 (subst (Rising earlier) t (ranked_rising earlier strictly xs)).0)
