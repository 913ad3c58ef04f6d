-- The earliest of the other child and the children of the earlier one.
use Rattle.std.proofs.Common.{◌-◌, get_or, Some, sym, ap, ◌∙◌, arith}
use Rattle.std.proofs.ByRecursion.{All-get_or}
use Rattle.slot.specs.Laws.{strictly}
use Rattle.slot.specs.Slots.{earlier}
use Rattle.heap_calendar.specs.Entries.{blank, no_entry, slots, Fits}
use Rattle.heap_calendar.proofs.Roots.{not_over}
use Rattle.heap_calendar.proofs.Sifts.{child_of, at_same, at_other}
use Rattle.heap_calendar.proofs.Moves.{many, at_slots}
use Rattle.heap_calendar.proofs.Thirds.{short_third, third_is}
use Rattle.heap_calendar.proofs.root.below_child.Goals as goal

pub returns-then-all-lt3-clause-slot : goal.returns-then-all-lt3-clause-slot
returns-then-all-lt3-clause-slot c = let n = c.if-all-lt3.true in sym (short_third (slots c.args.pool.now c.args.all.now) (omega (arith, many c.args.pool.now c.args.all.now)))

pub returns-then-child-all-clause-fit : goal.returns-then-child-all-clause-fit
returns-then-child-all-clause-fit c =
    let n = c.if-all-lt3.false in
    let least = c.earlier_child-child.ensures.least in
    let most = c.earlier_child-child.ensures.most in
    All-get_or (Fits c.args.pool.now) c.args.all.now (3 - c.earlier_child-child.result) no_entry (omega arith) c.requires.fit

pub returns-then-child-all-clause-slot : goal.returns-then-child-all-clause-slot
returns-then-child-all-clause-slot c =
    let pool = c.args.pool.now in
    let es = c.args.all.now in
    let xs = slots pool es in
    let w = many pool es in
    let e = c.earlier_child-child.ensures in
    let i = c.earlier_child-child.result in
    let n = c.if-all-lt3.false in
    let m = c.if-child-all.true in
    let least = e.least in
    let most = e.most in
    let within = e.within in
    ap Some (sym (at_slots pool es (3 - i) (omega arith)))
    ∙ sym (third_is xs c.requires.heap i (3 - i) least most (omega arith) (omega arith) (λ q. let z : ⊥ = omega arith in z) (omega arith)
    (child_of xs 0 i (e.earlier blank) (omega arith) (omega arith))
    (λ k a b u f. at_same xs k (3 - i) (omega arith))
    (λ k a b f. absurd (let z : ⊥ = omega arith in z)))

pub returns-then-precedes-clause-fit : goal.returns-then-precedes-clause-fit
returns-then-precedes-clause-fit c = All-get_or (Fits c.args.pool.now) c.args.all.now c.earlier_child.result no_entry c.earlier_child.ensures.within c.requires.fit

pub returns-then-precedes-clause-slot : goal.returns-then-precedes-clause-slot
returns-then-precedes-clause-slot c =
    let pool = c.args.pool.now in
    let es = c.args.all.now in
    let xs = slots pool es in
    let w = many pool es in
    let e = c.earlier_child-child.ensures in
    let i = c.earlier_child-child.result in
    let n = c.if-all-lt3.false in
    let least = e.least in
    let most = e.most in
    let within = e.within in
    let g = c.earlier_child.ensures in
    let j = c.earlier_child.result in
    let low = g.least in
    let inside = g.within in
    let next = sym (at_slots pool es j inside) in
    let other = sym (at_slots pool es (3 - i) (omega arith)) in
    let won = strictly.one_way _ _ ((λ k. earlier (sym next k) (sym other k)) ∙ sym c.if-precedes.ensures) in
    ap Some next
    ∙ sym (third_is xs c.requires.heap i j least most (omega arith) (omega arith) (λ q. let z : ⊥ = omega arith in z) (omega arith)
    (child_of xs 0 i (e.earlier blank) (omega arith) (omega arith))
    (λ k a b u f. at_other xs k (3 - i) (get_or xs j blank) (omega arith) won)
    (child_of xs i j (g.earlier blank) (omega arith) (omega arith)))

pub returns-clause-fit : goal.returns-clause-fit
returns-clause-fit c =
    let n = c.if-all-lt3.false in
    let least = c.earlier_child-child.ensures.least in
    let most = c.earlier_child-child.ensures.most in
    All-get_or (Fits c.args.pool.now) c.args.all.now (3 - c.earlier_child-child.result) no_entry (omega arith) c.requires.fit

pub returns-clause-slot : goal.returns-clause-slot
returns-clause-slot c =
    let pool = c.args.pool.now in
    let es = c.args.all.now in
    let xs = slots pool es in
    let w = many pool es in
    let e = c.earlier_child-child.ensures in
    let i = c.earlier_child-child.result in
    let n = c.if-all-lt3.false in
    let least = e.least in
    let most = e.most in
    let within = e.within in
    let g = c.earlier_child.ensures in
    let j = c.earlier_child.result in
    let low = g.least in
    let inside = g.within in
    let next = sym (at_slots pool es j inside) in
    let other = sym (at_slots pool es (3 - i) (omega arith)) in
    let lost = (λ k. earlier (sym next k) (sym other k)) ∙ sym c.if-precedes.ensures in
    ap Some other
    ∙ sym (third_is xs c.requires.heap i (3 - i) least most (omega arith) (omega arith) (λ q. let z : ⊥ = omega arith in z) (omega arith)
    (child_of xs 0 i (e.earlier blank) (omega arith) (omega arith))
    (λ k a b u f. at_same xs k (3 - i) (omega arith))
    (λ k a b f. not_over (get_or xs (3 - i) blank) (get_or xs j blank) (get_or xs k blank) (child_of xs i j (g.earlier blank) (omega arith) (omega arith) k a b f) lost))
