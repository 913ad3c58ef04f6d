-- The last entry goes in for the root, and finds its place.
use Rattle.std.proofs.Common.{◌≡◌, ◌<◌, ◌∷◌, [], ◌++◌, length, get_or, set, sym, ap, ◌∙◌, subst, rules}
use Rattle.std.specs.List.{AllByRecursion}
use Rattle.std.specs.List.Sorted.{IsPermutation}
use Rattle.std.specs.BinaryHeap.{IsHeap}
use Rattle.std.proofs.lemmas.List.{get_or_default as any-default, nil_from_length}
use Rattle.event.specs.Lists.{rest}
use Rattle.slot.specs.Slots.{turned}
use Rattle.heap_calendar.specs.Entries.{slots, no_entry, Fits, KeptSoFar}
use Rattle.heap_calendar.specs.declared.entry.Entry.{Entry}
use Rattle.heap_calendar.specs.Sifts.{Mends}
use Rattle.heap_calendar.proofs.Ends.{whole, dropped}
use Rattle.heap_calendar.proofs.Filled.{kept_full}
use Rattle.heap_calendar.proofs.Keeps.{front_fits, kept_drop, kept_last}
use Rattle.heap_calendar.proofs.Puts.{front_slots, drop_mended}
use Rattle.heap_calendar.proofs.root.drop_root.Goals as goal

pub replace_root-requires-clause-fit : goal.replace_root-requires-clause-fit
replace_root-requires-clause-fit c =
    let pool = c.args.pool.now in
    let u = c.pop.new.self.items in
    let z = c.in-Some.last in
    let e : c.args.order.now.items ≡ u ++ z ∷ [] = c.in-Some.ensures.items in
    subst (λ l. AllByRecursion (Fits pool) (set l 0 z)) (sym c.deref_mut.ensures.value) (front_fits pool u z (subst (AllByRecursion (Fits pool)) e c.requires.kept.fit))

pub returns-then-is_empty-clause-built : goal.returns-then-is_empty-clause-built
returns-then-is_empty-clause-built c = λ h.
    let es = c.args.order.now.items in
    let pool = c.args.pool.now in
    let u = c.pop.new.self.items in
    let z = c.in-Some.last in
    let e : es ≡ u ++ z ∷ [] = c.in-Some.ensures.items in
    front_slots pool u z (subst (λ l. IsHeap turned (slots pool l)) e h)

pub returns-then-is_empty-clause-kept : goal.returns-then-is_empty-clause-kept
returns-then-is_empty-clause-kept c =
    let es = c.args.order.now.items in
    let pool = c.args.pool.now in
    let f = c.args.free.now.items in
    let u = c.pop.new.self.items in
    let z = c.in-Some.last in
    let none : length u ≡ 0 = search rules in
    let nil = nil_from_length u none in
    let e : es ≡ z ∷ [] = c.in-Some.ensures.items ∙ ap (λ l. l ++ z ∷ []) nil in
    subst (λ l. KeptSoFar pool l c.push_reserved.new.self.items) (sym nil) (subst (KeptSoFar pool []) (sym c.push_reserved.ensures.items) (kept_last pool z f (subst (λ l. KeptSoFar pool l f) e c.requires.kept)))

pub returns-then-is_empty-clause-full : goal.returns-then-is_empty-clause-full
returns-then-is_empty-clause-full c = λ w. kept_full c.args.pool.now c.pop.new.self.items c.push_reserved.new.self.items w (returns-then-is_empty-clause-kept c)

pub returns-else-is_empty-clause-shuffled : goal.returns-else-is_empty-clause-shuffled
returns-else-is_empty-clause-shuffled c =
    let es = c.args.order.now.items in
    let pool = c.args.pool.now in
    let u = c.pop.new.self.items in
    let z = c.in-Some.last in
    let e : es ≡ u ++ z ∷ [] = c.in-Some.ensures.items in
    let es' = c.replace_root.new.all in
    let d = c.deref_mut.ensures.value in
    let is = whole c.pop.new.self.len u es' c.pop.new.self.ok.0 (c.replace_root.auto.all ∙ ap length d) in
    let some : 0 < length u = search rules in
    let p : IsPermutation (set u 0 z) es' = subst (λ l. IsPermutation (set l 0 z) es') d c.replace_root.ensures.shuffled in
    subst (IsPermutation (rest es)) (sym is) (dropped es u es' z e some p)

pub returns-else-is_empty-clause-built : goal.returns-else-is_empty-clause-built
returns-else-is_empty-clause-built c = λ h.
    let es = c.args.order.now.items in
    let pool = c.args.pool.now in
    let u = c.pop.new.self.items in
    let z = c.in-Some.last in
    let e : es ≡ u ++ z ∷ [] = c.in-Some.ensures.items in
    let es' = c.replace_root.new.all in
    let d = c.deref_mut.ensures.value in
    let is = whole c.pop.new.self.len u es' c.pop.new.self.ok.0 (c.replace_root.auto.all ∙ ap length d) in
    let some : 0 < length u = search rules in
    let p : IsPermutation (set u 0 z) es' = subst (λ l. IsPermutation (set l 0 z) es') d c.replace_root.ensures.shuffled in
    let m : Mends (slots pool (set u 0 z)) (slots pool es') = subst (λ l. Mends (slots pool (set l 0 z)) (slots pool es')) d c.replace_root.ensures.mends in
    subst (λ l. IsHeap turned (slots pool l)) (sym is) (drop_mended pool u es' z m (subst (λ l. IsHeap turned (slots pool l)) e h))

pub returns-else-is_empty-clause-kept : goal.returns-else-is_empty-clause-kept
returns-else-is_empty-clause-kept c =
    let es = c.args.order.now.items in
    let pool = c.args.pool.now in
    let u = c.pop.new.self.items in
    let z = c.in-Some.last in
    let e : es ≡ u ++ z ∷ [] = c.in-Some.ensures.items in
    let es' = c.replace_root.new.all in
    let d = c.deref_mut.ensures.value in
    let is = whole c.pop.new.self.len u es' c.pop.new.self.ok.0 (c.replace_root.auto.all ∙ ap length d) in
    let some : 0 < length u = search rules in
    let p : IsPermutation (set u 0 z) es' = subst (λ l. IsPermutation (set l 0 z) es') d c.replace_root.ensures.shuffled in
    let f = c.args.free.now.items in
    let at : c.index.result.now ≡ get_or u 0 no_entry = c.index.ensures ∙ any-default u 0 c.index.result.now no_entry some in
    let kept = kept_drop pool u es' z f some p (subst (λ l. KeptSoFar pool l f) e c.requires.kept) in
    let g : f ++ (get_or u 0 no_entry).at ∷ [] ≡ c.push_reserved-else-is_empty.new.self.items = ap (λ (y : Entry). f ++ y.at ∷ []) (sym at) ∙ sym c.push_reserved-else-is_empty.ensures.items in
    subst (λ l. KeptSoFar pool l c.push_reserved-else-is_empty.new.self.items) (sym is) (subst (KeptSoFar pool es') g kept)

pub returns-else-is_empty-clause-full : goal.returns-else-is_empty-clause-full
returns-else-is_empty-clause-full c = λ w. kept_full c.args.pool.now _ _ w (returns-else-is_empty-clause-kept c)
