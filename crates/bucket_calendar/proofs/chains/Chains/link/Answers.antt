-- The place goes behind the last that comes before it, or leads its bucket.
use Rattle.std.proofs.Common.{None, Some, get_or, set, ap, ◌∙◌, arith, get_or-set_other}
use Rattle.bucket_calendar.specs.Buckets.{bucket_of}
use Rattle.bucket_calendar.specs.Chains.{at}
use Rattle.bucket_calendar.proofs.Links.{link_first, link_after, after_in, after_bucket}
use Rattle.bucket_calendar.proofs.Starts.{began}
use Rattle.bucket_calendar.proofs.chains.Chains.link.Goals as goal

pub last_before-requires-clause-chain : goal.last_before-requires-clause-chain
last_before-requires-clause-chain c =
    let a = c.args in
    let hs = a.self.now.heads in
    let nx = a.self.now.next in
    let xs = a.pool.now in
    let l = c.requires.within in
    let w = c.requires.few in
    let d = c.requires.linked in
    let t = began hs nx xs a.place l w d c.start-start.result c.start-start.ensures in
    record { places = t.places; runs = t.runs; within = t.within }

pub bounds-self-k : goal.bounds-self-k
bounds-self-k c =
    let a = c.args in
    let hs = a.self.now.heads in
    let nx = a.self.now.next in
    let xs = a.pool.now in
    let l = c.requires.within in
    let w = c.requires.few in
    let d = c.requires.linked in
    let t = began hs nx xs a.place l w d c.start-start.result c.start-start.ensures in
    let k = after_in hs nx xs a.place l w d c.in-Some.k (t.whole (Some c.in-Some.k) (c.in-Some.ensures t.places t.runs t.short)) in
    omega (arith, k, l, w)

pub bounds-self-k-in-Some : goal.bounds-self-k-in-Some
bounds-self-k-in-Some c =
    let a = c.args in
    let hs = a.self.now.heads in
    let nx = a.self.now.next in
    let xs = a.pool.now in
    let l = c.requires.within in
    let w = c.requires.few in
    let d = c.requires.linked in
    let t = began hs nx xs a.place l w d c.start-start.result c.start-start.ensures in
    let k = after_in hs nx xs a.place l w d c.in-Some.k (t.whole (Some c.in-Some.k) (c.in-Some.ensures t.places t.runs t.short)) in
    omega (arith, k, l, w)

pub returns-in-None-clause-linked : goal.returns-in-None-clause-linked
returns-in-None-clause-linked c =
    let a = c.args in
    let hs = a.self.now.heads in
    let nx = a.self.now.next in
    let xs = a.pool.now in
    let l = c.requires.within in
    let w = c.requires.few in
    let d = c.requires.linked in
    let t = began hs nx xs a.place l w d c.start-start.result c.start-start.ensures in
    rw c.bucket-b.ensures.value (link_first hs nx xs a.place l w d (t.whole None (c.in-None.ensures t.places t.runs t.short)))

pub returns-in-Some-clause-linked : goal.returns-in-Some-clause-linked
returns-in-Some-clause-linked c =
    let a = c.args in
    let hs = a.self.now.heads in
    let nx = a.self.now.next in
    let xs = a.pool.now in
    let l = c.requires.within in
    let w = c.requires.few in
    let d = c.requires.linked in
    let t = began hs nx xs a.place l w d c.start-start.result c.start-start.ensures in
    link_after hs nx xs a.place l w d c.in-Some.k (t.whole (Some c.in-Some.k) (c.in-Some.ensures t.places t.runs t.short))

pub returns-in-Some-clause-kept : goal.returns-in-Some-clause-kept
returns-in-Some-clause-kept c q e n =
    let a = c.args in
    let hs = a.self.now.heads in
    let nx = a.self.now.next in
    let xs = a.pool.now in
    let l = c.requires.within in
    let w = c.requires.few in
    let d = c.requires.linked in
    let t = began hs nx xs a.place l w d c.start-start.result c.start-start.ensures in
    let k = c.in-Some.k in
    let cut = t.whole (Some k) (c.in-Some.ensures t.places t.runs t.short) in
    get_or-set_other (set nx a.place (get_or nx k None)) k q (Some a.place) None (λ z. n (ap (λ j. bucket_of (at xs j)) z ∙ after_bucket hs nx xs a.place l w d k cut))
    ∙ get_or-set_other nx a.place q (get_or nx k None) None (λ z. let y : ⊥ = omega (arith, e, z) in y)
