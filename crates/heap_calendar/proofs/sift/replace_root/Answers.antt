-- Each turn exchanges x with its earlier child, and a rise ends it.
use Rattle.std.proofs.Common.{get_or, length, set, sym, ◌∙◌, subst, arith}
use Rattle.std.proofs.ByRecursion.{all_shuffled}
use Rattle.std.proofs.lemmas.List.{length-set}
use Rattle.std.proofs.lemmas.List.Sorted.{IsPermutation-refl, IsPermutation-trans}
use Rattle.std.specs.BinaryHeap.Sift.{RestoresHeap}
use Rattle.std_alloc.proofs.HeapSift as sifts
use Rattle.slot.specs.Slots.{turned}
use Rattle.heap_calendar.specs.Entries.{Fits, slots, slot_of, no_entry}
use Rattle.slot.specs.Laws.{turned_total}
use Rattle.heap_calendar.proofs.Moves.{many, shuffles, fit_beside, down_once}
use Rattle.heap_calendar.proofs.sift.replace_root.Goals as goal

pub loop-at-init : goal.loop-at-init
loop-at-init c = record { within = c.requires.some; fit = c.requires.fit; shuffled = IsPermutation-refl _; falling = sifts.fall_begins turned turned_total _ _ }

pub earlier_child-child-requires-clause-fit : goal.earlier_child-child-requires-clause-fit
earlier_child-child-requires-clause-fit c = λ k a b. fit_beside c.args.pool.now c.loop-at.all c.loop-at.at k c.args.x c.loop-at.invariant.fit b (omega arith)

pub loop-at-preserved : goal.loop-at-preserved
loop-at-preserved c =
    let l = c.loop-at in
    let v = l.invariant in
    let within = v.within in
    let e = c.earlier_child-child.ensures in
    let k = c.earlier_child-child.result in
    let same = l.auto.all in
    let low = e.least in
    let s = shuffles l.all l.at k c.args.x within e.within (omega arith) in
    record {
      within = omega (arith, length-set l.all l.at (get_or l.all k no_entry), e.within);
      fit = all_shuffled (Fits c.args.pool.now) _ _ s v.fit;
      shuffled = IsPermutation-trans _ _ _ v.shuffled s;
      falling = down_once c.args.pool.now _ l.all l.at k c.args.x (length c.args.all.now) (omega arith) within e.least e.most e.within (e.earlier (slot_of c.args.pool.now c.args.x)) v.falling;
    }

pub returns : goal.returns
returns c =
    let l = c.loop-at in
    let v = l.invariant in
    let within = v.within in
    let leaf = c.loop-at-test.false in
    let old = c.args.all.now in
    let pool = c.args.pool.now in
    let x = c.args.x in
    record {
      shuffled = IsPermutation-trans _ _ _ v.shuffled c.rise.ensures.shuffled;
      mends = subst (λ n. RestoresHeap turned (slots pool (set old 0 x)) 1 n (slots pool c.rise.new.all)) (sym (length-set old 0 x) ∙ sym (many pool (set old 0 x)))
          (sifts.fall_ends turned turned_total (slots pool (set old 0 x)) (slots pool (set l.all l.at x)) (slots pool c.rise.new.all) (length old) l.at (omega (arith, l.auto.all)) (omega (arith, l.auto.all))
          (many pool c.rise.new.all ∙ c.rise.auto.all ∙ l.auto.all) v.falling c.rise.ensures.lifts);
    }
