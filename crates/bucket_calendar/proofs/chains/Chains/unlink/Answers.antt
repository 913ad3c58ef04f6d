-- The first leaves, and the last slot is led to at its place.
use Rattle.std.proofs.Common.{refl, arith, rules, ◌≡◌, Some, length, ◌-◌}
use Rattle.bucket_calendar.proofs.Unlinks.{place_in, loosened, moving, row_rises, leader_in, unmoved, led_to, led_first}
use Rattle.bucket_calendar.proofs.chains.Chains.unlink.Goals as goal

pub bounds-self-place : goal.bounds-self-place
bounds-self-place c =
    let a = c.args in
    let r = c.requires in
    let p = place_in a.self.now.heads a.self.now.next a.pool.now a.b a.place r.within r.head r.linked in
    omega (arith, p, r.few)

pub bounds-self-place-2 : goal.bounds-self-place-2
bounds-self-place-2 c =
    let a = c.args in
    let r = c.requires in
    let p = place_in a.self.now.heads a.self.now.next a.pool.now a.b a.place r.within r.head r.linked in
    omega (arith, p, r.few)

pub leads_to-requires-clause-chain : goal.leads_to-requires-clause-chain
leads_to-requires-clause-chain c =
    let a = c.args in
    let r = c.requires in
    let p = place_in a.self.now.heads a.self.now.next a.pool.now a.b a.place r.within r.head r.linked in
    let o = loosened a.self.now.heads a.self.now.next a.pool.now a.b a.place r.within r.head r.linked in
    let t = moving _ _ a.pool.now a.place p r.few o c.start-start.result c.start-start.ensures in
    record { places = t.places; runs = t.runs; within = t.within }

pub bounds-self-k : goal.bounds-self-k
bounds-self-k c =
    let a = c.args in
    let r = c.requires in
    let p = place_in a.self.now.heads a.self.now.next a.pool.now a.b a.place r.within r.head r.linked in
    let o = loosened a.self.now.heads a.self.now.next a.pool.now a.b a.place r.within r.head r.linked in
    let t = moving _ _ a.pool.now a.place p r.few o c.start-start.result c.start-start.ensures in
    leader_in _ _ a.pool.now a.place p r.few o c.in-Some.k (t.leads c.in-Some.k (c.in-Some.ensures.some c.in-Some.k refl t.places t.runs))

pub returns-then-eq : goal.returns-then-eq
returns-then-eq c d ys e f =
    let a = c.args in
    let r = c.requires in
    let p = place_in a.self.now.heads a.self.now.next a.pool.now a.b a.place r.within r.head r.linked in
    let o = loosened a.self.now.heads a.self.now.next a.pool.now a.b a.place r.within r.head r.linked in
    let t = moving _ _ a.pool.now a.place p r.few o c.start-start.result c.start-start.ensures in
    let g : c.start-start.result ≡ Some (length a.pool.now - 1) = search rules in
    rw c.bucket.ensures.value (led_first _ _ a.pool.now a.place p r.few o d ys e f (t.head g))

pub returns-in-Some : goal.returns-in-Some
returns-in-Some c d ys e f =
    let a = c.args in
    let r = c.requires in
    let p = place_in a.self.now.heads a.self.now.next a.pool.now a.b a.place r.within r.head r.linked in
    let o = loosened a.self.now.heads a.self.now.next a.pool.now a.b a.place r.within r.head r.linked in
    let t = moving _ _ a.pool.now a.place p r.few o c.start-start.result c.start-start.ensures in
    let w = t.leads c.in-Some.k (c.in-Some.ensures.some c.in-Some.k refl t.places t.runs) in
    led_to _ _ a.pool.now a.place p r.few o d ys e f w.front w.back w.parts c.in-Some.k w.ends

pub returns-in_default : goal.returns-in_default
returns-in_default c d ys e f =
    let a = c.args in
    let r = c.requires in
    let p = place_in a.self.now.heads a.self.now.next a.pool.now a.b a.place r.within r.head r.linked in
    let o = loosened a.self.now.heads a.self.now.next a.pool.now a.b a.place r.within r.head r.linked in
    let t = moving _ _ a.pool.now a.place p r.few o c.start-start.result c.start-start.ensures in
    unmoved _ _ a.pool.now a.place p r.few o d ys e f (t.none (row_rises _ _ a.pool.now a.place p r.few o d ys e f) (c.in_default.ensures.none refl t.places t.runs t.short))
