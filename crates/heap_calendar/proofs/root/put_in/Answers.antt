-- The place is named by no entry: a free one, or one more of the pool.
use Rattle.std.proofs.Common.{◌≡◌, ◌+◌, ◌∷◌, [], length, sym, ap, ◌∙◌, subst, arith}
use Rattle.std.specs.List.Sorted.{IsPermutation}
use Rattle.std.specs.BinaryHeap.{KeepsHeap}
use Rattle.std.proofs.lemmas.List.{length-append, nil_from_length}
use Rattle.std_alloc.proofs.Permutation.{as_long}
use Rattle.slot.specs.Slots.{turned}
use Rattle.heap_calendar.specs.Entries.{KeptSoFar, named, same_number, slots}
use Rattle.heap_calendar.specs.Totals.{standing}
use Rattle.heap_calendar.proofs.Ends.{whole}
use Rattle.heap_calendar.proofs.Filled.{kept_full}
use Rattle.heap_calendar.proofs.Moves.{many}
use Rattle.heap_calendar.proofs.Keeps.{kept_put, kept_end, kept_more, free_last, none_names, slots_more}
use Rattle.heap_calendar.proofs.root.put_in.Goals as goal

pub put_at_end-requires-clause-absent : goal.put_at_end-requires-clause-absent
put_at_end-requires-clause-absent c =
    let k = subst (λ f. KeptSoFar c.args.pool.now.items c.args.order.now.items f) c.in-Some.ensures.items c.requires.kept in
    (free_last c.args.pool.now.items c.args.order.now.items c.pop.new.self.items c.in-Some.at k).1

pub put_at_end-requires-in_default-clause-absent : goal.put_at_end-requires-in_default-clause-absent
put_at_end-requires-in_default-clause-absent c =
    let pool = c.args.pool.now in
    let es = c.args.order.now.items in
    let at : c.len-at.result ≡ length pool.items = c.len-at.ensures ∙ pool.ok.0 in
    subst (λ n. named n es ≡ 0) (sym at) (none_names pool.items es c.requires.kept.fit)

pub returns-then-taken-clause-kept : goal.returns-then-taken-clause-kept
returns-then-taken-clause-kept c =
    let pool = c.args.pool.now in
    let order = c.args.order.now in
    let e = c.put_for_root.ensures in
    let new = c.put_for_root.new.pool in
    let es' = c.put_for_root.new.order in
    let d = c.deref_mut.ensures.value in
    let l : length es' ≡ length order.items = c.put_for_root.auto.order ∙ ap length d in
    let is = whole order.len order.items es' order.ok.0 l in
    subst (λ l. KeptSoFar new.items l c.args.free.now.items) (sym is) (kept_put pool.items new.items order.items es' c.args.free.now.items (sym new.ok.0 ∙ e.wide ∙ pool.ok.0) l e.fit (λ k. e.named k ∙ ap (named k) d) c.requires.kept)

pub returns-then-taken-clause-full : goal.returns-then-taken-clause-full
returns-then-taken-clause-full c = λ w.
    let e = c.put_for_root.ensures in
    let new = c.put_for_root.new.pool in
    kept_full new.items _ _ (sym new.ok.0 ∙ e.wide ∙ w) (returns-then-taken-clause-kept c)

pub returns-in-Some-clause-kept : goal.returns-in-Some-clause-kept
returns-in-Some-clause-kept c =
    let pool = c.args.pool.now in
    let order = c.args.order.now in
    let e = c.put_at_end.ensures in
    let k = subst (λ f. KeptSoFar pool.items order.items f) c.in-Some.ensures.items c.requires.kept in
    let new = c.put_at_end.new.order in
    kept_end pool.items c.put_at_end.new.pool.items order.items new.items c.pop.new.self.items c.in-Some.at
    (sym c.put_at_end.new.pool.ok.0 ∙ e.wide ∙ pool.ok.0) (omega (arith, many pool.items order.items, many c.put_at_end.new.pool.items new.items, as_long _ _ e.shuffled)) e.fit e.named k

pub returns-in-Some-clause-full : goal.returns-in-Some-clause-full
returns-in-Some-clause-full c = λ w.
    let e = c.put_at_end.ensures in
    let new = c.put_at_end.new.pool in
    kept_full new.items _ _ (sym new.ok.0 ∙ e.wide ∙ w) (returns-in-Some-clause-kept c)

pub returns-in_default-clause-shuffled : goal.returns-in_default-clause-shuffled
returns-in_default-clause-shuffled c =
    let pool = c.args.pool.now.items in
    let es = c.args.order.now.items in
    let s = c.args.slot.now in
    let ys = slots c.put_at_end-in_default.new.pool.items c.put_at_end-in_default.new.order.items in
    let same : slots c.push_reserved.new.self.items es ≡ slots pool es = ap (λ l. slots l es) c.push_reserved.ensures.items ∙ slots_more pool (s ∷ []) es c.requires.kept.fit in
    subst (λ b. IsPermutation (s ∷ standing b (slots pool es)) ys) (sym c.if-taken.false) (subst (λ l. IsPermutation (s ∷ l) ys) same c.put_at_end-in_default.ensures.shuffled)

pub returns-in_default-clause-built : goal.returns-in_default-clause-built
returns-in_default-clause-built c =
    let pool = c.args.pool.now.items in
    let es = c.args.order.now.items in
    let s = c.args.slot.now in
    let ys = slots c.put_at_end-in_default.new.pool.items c.put_at_end-in_default.new.order.items in
    let same : slots c.push_reserved.new.self.items es ≡ slots pool es = ap (λ l. slots l es) c.push_reserved.ensures.items ∙ slots_more pool (s ∷ []) es c.requires.kept.fit in
    subst (λ l. KeepsHeap turned l ys) same c.put_at_end-in_default.ensures.built

pub returns-in_default-clause-kept : goal.returns-in_default-clause-kept
returns-in_default-clause-kept c =
    let pool = c.args.pool.now in
    let order = c.args.order.now in
    let s = c.args.slot.now in
    let free = c.args.free.now in
    let left = c.pop.new.self in
    let e = c.put_at_end-in_default.ensures in
    let wider = c.push_reserved.new.self in
    let new = c.put_at_end-in_default.new.pool in
    let order' = c.put_at_end-in_default.new.order in
    let none = c.in_default.ensures.cases in
    let nil = nil_from_length free.items (omega (arith, none, free.ok.0)) in
    let nil' = nil_from_length left.items (omega (arith, none, left.ok.0)) in
    let at : c.len-at.result ≡ length pool.items = c.len-at.ensures ∙ pool.ok.0 in
    let k = subst (KeptSoFar pool.items order.items) nil c.requires.kept in
    let w : length wider.items ≡ length pool.items + 1 = ap length c.push_reserved.ensures.items ∙ length-append pool.items (s ∷ []) in
    let l : length order'.items ≡ length order.items + 1 = omega (arith, many wider.items order.items, many new.items order'.items, as_long _ _ e.shuffled) in
    let low = c.requires.room c.if-taken.false in
    subst (KeptSoFar new.items order'.items) (sym nil')
    (kept_more pool.items new.items order.items order'.items (omega (arith, new.ok.0, e.wide, wider.ok.0, w)) l (omega (arith, low, order.ok.0)) e.fit (λ k. e.named k ∙ ap (λ n. same_number n k + named k order.items) at) k)

-- of 512 slots one is free, where fewer are named
pub returns-in_default-clause-full : goal.returns-in_default-clause-full
returns-in_default-clause-full c = λ w.
    let pool = c.args.pool.now in
    let order = c.args.order.now in
    let free = c.args.free.now in
    let none = c.in_default.ensures.cases in
    let low = c.requires.room c.if-taken.false in
    let n = c.requires.kept.count in
    absurd (let y : ⊥ = omega (arith, n, low, none, w, pool.ok.0, order.ok.0, free.ok.0) in y)
