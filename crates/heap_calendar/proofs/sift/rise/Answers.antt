-- Each turn exchanges x with the entry above it.
use Rattle.std.proofs.Common.{◌-◌, ◌/◌, get_or, sym, arith}
use Rattle.std.proofs.ByRecursion.{all_shuffled}
use Rattle.std.proofs.lemmas.List.{length-set}
use Rattle.std.proofs.lemmas.List.Sorted.{IsPermutation-refl, IsPermutation-trans}
use Rattle.std_alloc.proofs.HeapSift as sifts
use Rattle.slot.specs.Slots.{turned}
use Rattle.heap_calendar.specs.Entries.{Fits, no_entry}
use Rattle.slot.specs.Laws.{turned_total}
use Rattle.heap_calendar.proofs.Moves.{shuffles, fit_beside, fit_here, up_once, rests}
use Rattle.heap_calendar.proofs.sift.rise.Goals as goal
use Rattle.heap_calendar.proofs.sift.rise.Goals.{then-loop-at-test+else-precedes, else-loop-at-test}

pub precedes-requires-clause-first : goal.precedes-requires-clause-first
precedes-requires-clause-first c = fit_here c.args.pool.now c.loop-at.all c.loop-at.at c.args.x c.loop-at.invariant.fit c.loop-at.invariant.within

pub precedes-requires-clause-second : goal.precedes-requires-clause-second
precedes-requires-clause-second c =
    let up = c.loop-at-test.true in
    let within = c.loop-at.invariant.within in
    fit_beside c.args.pool.now c.loop-at.all c.loop-at.at ((c.loop-at.at - 1) / 2) c.args.x c.loop-at.invariant.fit (omega arith) (omega arith)

pub loop-at-init : goal.loop-at-init
loop-at-init c = record { within = c.requires.within; below = omega arith; fit = c.requires.fit; shuffled = IsPermutation-refl _; rising = sifts.rise_begins turned turned_total _ c.args.start }

pub loop-at-preserved : goal.loop-at-preserved
loop-at-preserved c =
    let l = c.loop-at in
    let v = l.invariant in
    let up = c.loop-at-test.true in
    let within = v.within in
    let p = (l.at - 1) / 2 in
    let s = shuffles l.all l.at p c.args.x within (omega arith) (omega arith) in
    record {
      within = omega (arith, length-set l.all l.at (get_or l.all p no_entry));
      below = omega (arith, v.below);
      fit = all_shuffled (Fits c.args.pool.now) _ _ s v.fit;
      shuffled = IsPermutation-trans _ _ _ v.shuffled s;
      rising = up_once c.args.pool.now _ l.all c.args.start l.at c.args.x up v.below within (sym c.if-precedes.ensures) v.rising;
    }

pub returns-clause-lifts : goal.returns-clause-lifts
returns-clause-lifts c =
    let l = c.loop-at in
    let v = l.invariant in
    elim c.loop-at-test.branch [
      | then-loop-at-test+else-precedes w ↦ rests c.args.pool.now _ l.all c.args.start l.at c.args.x w.loop-at-test.true v.within (sym w.if-precedes.ensures) v.rising
      | else-loop-at-test w ↦ let up = w.loop-at-test.false in sifts.rise_tops turned turned_total _ _ c.args.start l.at (omega arith) v.rising
    ]
