-- Where the walk stands is the next of them, if it has their key.
use Rattle.std.proofs.Common.{◌≡◌, ◌<◌, ◌≤◌, ◌++◌, [], ◌∷◌, true, false, not, length, Some, None, vec_capacity, sym, ap, ◌∙◌, arith, rules}
use Rattle.std.specs.List.{slice_get}
use Rattle.event.specs.Keys.{same}
use Rattle.calendar.specs.Calls.{leading}
use Rattle.slot.specs.Slots.{key_of_slot, in_order}
use Rattle.slot.proofs.Fronts.{one_more, no_more}
use Rattle.bucket_calendar.specs.Chains.{at}
use Rattle.bucket_calendar.proofs.Cuts.{walk_in, walk_on, walk_nth}
use Rattle.bucket_calendar.proofs.Looks.{near_none, near_some, not_so}
use Rattle.bucket_calendar.proofs.chains.Chains.heads.Goals as goal

pub returns-in_default-here-clause-heads : goal.returns-in_default-here-clause-heads
returns-in_default-here-clause-heads c =
    let xs = c.args.pool.now in
    let d = c.requires.linked in
    let b = c.bucket.result in
    let i = c.loop.counter in
    let here = walk_nth _ _ _ _ _ _ (c.loop.invariant.walk (d.row b) (d.runs b c.bucket.ensures.within)).1 ∙ ap (λ b. slice_get (d.row b) i) c.bucket.ensures.value in
    let none : slice_get (leading (in_order xs)) i ≡ None = near_none _ _ xs d c.in-Some.least i c.loop.here (sym c.requires.known ∙ c.in-Some.is) here c.in_default-here.is in
    let below : i ≤ vec_capacity c.args.out.now = omega (arith, c.loop-test.true, c.capacity-end.ensures, c.clear.ensures.capacity) in
    c.loop.invariant.found ∙ sym (no_more (leading (in_order xs)) i (vec_capacity c.args.out.now) none below)

pub bounds-pool-place : goal.bounds-pool-place
bounds-pool-place c =
    let d = c.requires.linked in
    let b = c.bucket.result in
    walk_in _ _ _ _ _ _ (c.loop.invariant.walk (d.row b) (d.runs b c.bucket.ensures.within)).1 (λ p. p < length c.args.pool.now) c.in-Some-here.place c.in-Some-here.is (d.within b c.bucket.ensures.within)

pub returns-then-ne-clause-heads : goal.returns-then-ne-clause-heads
unfolding same
returns-then-ne-clause-heads c =
    let xs = c.args.pool.now in
    let d = c.requires.linked in
    let b = c.bucket.result in
    let i = c.loop.counter in
    let x = c.in-Some.least in
    let p = c.in-Some-here.place in
    let w = (c.loop.invariant.walk (d.row b) (d.runs b c.bucket.ensures.within)).1 in
    let here = walk_nth _ _ _ _ _ _ w ∙ ap (λ b. slice_get (d.row b) i) c.bucket.ensures.value in
    let within : p < length xs = walk_in _ _ _ _ _ _ w (λ p. p < length xs) p c.in-Some-here.is (d.within b c.bucket.ensures.within) in
    let other : true ≡ not (same (key_of_slot x) (key_of_slot (at xs p))) = search rules in
    let none : slice_get (leading (in_order xs)) i ≡ None = near_some _ _ xs d x i c.loop.here p false (sym c.requires.known ∙ c.in-Some.is) here c.in-Some-here.is within (sym (not_so _ _ other)) in
    let below : i ≤ vec_capacity c.args.out.now = omega (arith, c.loop-test.true, c.capacity-end.ensures, c.clear.ensures.capacity) in
    c.loop.invariant.found ∙ sym (no_more (leading (in_order xs)) i (vec_capacity c.args.out.now) none below)

pub bounds-self-place : goal.bounds-self-place
bounds-self-place c =
    let d = c.requires.linked in
    let b = c.bucket.result in
    let within : c.in-Some-here.place < length c.args.pool.now = walk_in _ _ _ _ _ _ (c.loop.invariant.walk (d.row b) (d.runs b c.bucket.ensures.within)).1 (λ p. p < length c.args.pool.now) c.in-Some-here.place c.in-Some-here.is (d.within b c.bucket.ensures.within) in
    omega (arith, c.requires.few)

pub loop-preserved : goal.loop-preserved
unfolding same
loop-preserved c =
    let xs = c.args.pool.now in
    let d = c.requires.linked in
    let b = c.bucket.result in
    let i = c.loop.counter in
    let x = c.in-Some.least in
    let p = c.in-Some-here.place in
    let w = (c.loop.invariant.walk (d.row b) (d.runs b c.bucket.ensures.within)).1 in
    let here = walk_nth _ _ _ _ _ _ w ∙ ap (λ b. slice_get (d.row b) i) c.bucket.ensures.value in
    let within : p < length xs = walk_in _ _ _ _ _ _ w (λ p. p < length xs) p c.in-Some-here.is (d.within b c.bucket.ensures.within) in
    let other : false ≡ not (same (key_of_slot x) (key_of_slot (at xs p))) = search rules in
    let told : slice_get (leading (in_order xs)) i ≡ Some (at xs p).held = near_some _ _ xs d x i c.loop.here p true (sym c.requires.known ∙ c.in-Some.is) here c.in-Some-here.is within (sym (not_so _ _ other)) in
    record {
      len = search rules;
      room = search rules;
      found = c.push_reserved.ensures.items ∙ ap (λ l. l ++ (at xs p).held ∷ []) c.loop.invariant.found ∙ sym (one_more (leading (in_order xs)) i (at xs p).held told);
      walk = λ ps r. (_, walk_on _ _ _ _ _ _ (c.loop.invariant.walk ps r).1 p c.in-Some-here.is tt);
    }
