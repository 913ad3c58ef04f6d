-- The earlier child of the root is the second.
use Rattle.std.proofs.Common.{get_or, Some, refl, sym, ap, ◌∙◌, arith}
use Rattle.std.proofs.ByRecursion.{All-get_or}
use Rattle.heap_calendar.specs.Entries.{blank, no_entry, slots, Fits}
use Rattle.heap_calendar.proofs.Roots.{second_is, short_second}
use Rattle.heap_calendar.proofs.Sifts.{child_of}
use Rattle.heap_calendar.proofs.Moves.{many, at_slots}
use Rattle.heap_calendar.proofs.root.below_root.Goals as goal

pub returns-then-all-lt2-clause-slot : goal.returns-then-all-lt2-clause-slot
returns-then-all-lt2-clause-slot c = let n = c.if-all-lt2.true in sym (short_second (slots c.args.pool.now c.args.all.now) (omega (arith, many c.args.pool.now c.args.all.now)))

pub returns-clause-fit : goal.returns-clause-fit
returns-clause-fit c = All-get_or (Fits c.args.pool.now) c.args.all.now c.earlier_child.result no_entry c.earlier_child.ensures.within c.requires.fit

pub returns-clause-slot : goal.returns-clause-slot
returns-clause-slot c =
    let pool = c.args.pool.now in
    let es = c.args.all.now in
    let xs = slots pool es in
    let n = c.if-all-lt2.false in
    let m = many pool es in
    let e = c.earlier_child.ensures in
    let k = c.earlier_child.result in
    let least = e.least in
    let most = e.most in
    let within = e.within in
    let at = child_of xs 0 k (e.earlier blank) (omega arith) (omega arith) in
    ap Some (sym (at_slots pool es k within))
    ∙ sym (second_is xs c.requires.heap (get_or xs k blank) k least (omega arith) refl (at 1 (omega arith) (omega arith) (omega arith)) (λ h. at 2 (omega arith) (omega arith) h))
