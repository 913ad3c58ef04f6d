-- The slot stands at the free place, and its entry finds its place.
use Rattle.std.proofs.Common.{◌≡◌, ◌<◌, ◌∷◌, [], ◌++◌, length, set, sym, ap, ◌∙◌, subst, arith}
use Rattle.std.specs.List.{AllByRecursion}
use Rattle.std.specs.List.Sorted.{IsPermutation}
use Rattle.std.specs.BinaryHeap.{KeepsHeap}
use Rattle.slot.specs.Slots.{turned}
use Rattle.heap_calendar.specs.Entries.{Fits, slots, entry_of, named}
use Rattle.heap_calendar.specs.Sifts.{Lifts}
use Rattle.heap_calendar.proofs.Ends.{whole, last_set}
use Rattle.heap_calendar.proofs.Keeps.{end_fits, end_named, same_named}
use Rattle.heap_calendar.proofs.Puts.{put_end}
use Rattle.heap_calendar.proofs.root.put_at_end.Goals as goal

pub rise-requires-clause-fit : goal.rise-requires-clause-fit
rise-requires-clause-fit c =
    let es = c.args.order.now.items in
    let pool = c.args.pool.now.items in
    let s = c.args.slot.now in
    let at = c.args.at in
    let w : at < length pool = omega (arith, c.requires.within, c.args.pool.now.ok.0) in
    let e : c.from.result ≡ at = c.from.ensures in
    let q : c.deref.result.now ≡ set pool at s = c.deref.ensures.value ∙ ap (λ m. set pool m s) e in
    let x : c.new-entry.result ≡ entry_of s at = c.new-entry.ensures in
    let n : c.len-end.result ≡ length es = c.len-end.ensures ∙ c.args.order.now.ok.0 in
    let l : set c.deref_mut.result.now c.len-end.result c.new-entry.result ≡ es ++ entry_of s at ∷ [] =
    ap (λ l. set l c.len-end.result c.new-entry.result) (c.deref_mut.ensures.value ∙ c.push_reserved.ensures.items) ∙ last_set es c.new-entry.result c.len-end.result n ∙ ap (λ y. es ++ y ∷ []) x in
    subst (λ v. AllByRecursion (Fits v) (set c.deref_mut.result.now c.len-end.result c.new-entry.result)) (sym q) (subst (AllByRecursion (Fits (set pool at s))) (sym l) (end_fits pool es s at w c.requires.fit c.requires.absent))

pub returns-clause-shuffled : goal.returns-clause-shuffled
returns-clause-shuffled c =
    let es = c.args.order.now.items in
    let pool = c.args.pool.now.items in
    let s = c.args.slot.now in
    let at = c.args.at in
    let w : at < length pool = omega (arith, c.requires.within, c.args.pool.now.ok.0) in
    let e : c.from.result ≡ at = c.from.ensures in
    let q : c.deref.result.now ≡ set pool at s = c.deref.ensures.value ∙ ap (λ m. set pool m s) e in
    let x : c.new-entry.result ≡ entry_of s at = c.new-entry.ensures in
    let n : c.len-end.result ≡ length es = c.len-end.ensures ∙ c.args.order.now.ok.0 in
    let l : set c.deref_mut.result.now c.len-end.result c.new-entry.result ≡ es ++ entry_of s at ∷ [] =
    ap (λ l. set l c.len-end.result c.new-entry.result) (c.deref_mut.ensures.value ∙ c.push_reserved.ensures.items) ∙ last_set es c.new-entry.result c.len-end.result n ∙ ap (λ y. es ++ y ∷ []) x in
    let es' = c.rise.new.all in
    let is = whole c.push_reserved.new.self.len c.push_reserved.new.self.items es' c.push_reserved.new.self.ok.0 (c.rise.auto.all ∙ ap length c.deref_mut.ensures.value) in
    let p : IsPermutation (es ++ entry_of s at ∷ []) es' = subst (λ l. IsPermutation l es') l c.rise.ensures.shuffled in
    let m : Lifts (slots (set pool at s) (es ++ entry_of s at ∷ [])) c.len-end.result (slots (set pool at s) es') =
    subst (λ l. Lifts (slots (set pool at s) l) c.len-end.result (slots (set pool at s) es')) l
    (subst (λ v. Lifts (slots v (set c.deref_mut.result.now c.len-end.result c.new-entry.result)) c.len-end.result (slots v es')) q c.rise.ensures.lifts) in
    let put = put_end pool es es' s at c.len-end.result w c.requires.fit c.requires.absent n p m in
    subst (λ t. IsPermutation (s ∷ slots pool es) (slots (set pool c.from.result s) t)) (sym is) (subst (λ n. IsPermutation (s ∷ slots pool es) (slots (set pool n s) es')) (sym e) put.shuffled)

pub returns-clause-built : goal.returns-clause-built
returns-clause-built c =
    let es = c.args.order.now.items in
    let pool = c.args.pool.now.items in
    let s = c.args.slot.now in
    let at = c.args.at in
    let w : at < length pool = omega (arith, c.requires.within, c.args.pool.now.ok.0) in
    let e : c.from.result ≡ at = c.from.ensures in
    let q : c.deref.result.now ≡ set pool at s = c.deref.ensures.value ∙ ap (λ m. set pool m s) e in
    let x : c.new-entry.result ≡ entry_of s at = c.new-entry.ensures in
    let n : c.len-end.result ≡ length es = c.len-end.ensures ∙ c.args.order.now.ok.0 in
    let l : set c.deref_mut.result.now c.len-end.result c.new-entry.result ≡ es ++ entry_of s at ∷ [] =
    ap (λ l. set l c.len-end.result c.new-entry.result) (c.deref_mut.ensures.value ∙ c.push_reserved.ensures.items) ∙ last_set es c.new-entry.result c.len-end.result n ∙ ap (λ y. es ++ y ∷ []) x in
    let es' = c.rise.new.all in
    let is = whole c.push_reserved.new.self.len c.push_reserved.new.self.items es' c.push_reserved.new.self.ok.0 (c.rise.auto.all ∙ ap length c.deref_mut.ensures.value) in
    let p : IsPermutation (es ++ entry_of s at ∷ []) es' = subst (λ l. IsPermutation l es') l c.rise.ensures.shuffled in
    let m : Lifts (slots (set pool at s) (es ++ entry_of s at ∷ [])) c.len-end.result (slots (set pool at s) es') =
    subst (λ l. Lifts (slots (set pool at s) l) c.len-end.result (slots (set pool at s) es')) l
    (subst (λ v. Lifts (slots v (set c.deref_mut.result.now c.len-end.result c.new-entry.result)) c.len-end.result (slots v es')) q c.rise.ensures.lifts) in
    let put = put_end pool es es' s at c.len-end.result w c.requires.fit c.requires.absent n p m in
    subst (λ t. KeepsHeap turned (slots pool es) (slots (set pool c.from.result s) t)) (sym is) (subst (λ n. KeepsHeap turned (slots pool es) (slots (set pool n s) es')) (sym e) put.built)

pub returns-clause-fit : goal.returns-clause-fit
returns-clause-fit c =
    let es = c.args.order.now.items in
    let pool = c.args.pool.now.items in
    let s = c.args.slot.now in
    let at = c.args.at in
    let w : at < length pool = omega (arith, c.requires.within, c.args.pool.now.ok.0) in
    let e : c.from.result ≡ at = c.from.ensures in
    let q : c.deref.result.now ≡ set pool at s = c.deref.ensures.value ∙ ap (λ m. set pool m s) e in
    let x : c.new-entry.result ≡ entry_of s at = c.new-entry.ensures in
    let n : c.len-end.result ≡ length es = c.len-end.ensures ∙ c.args.order.now.ok.0 in
    let l : set c.deref_mut.result.now c.len-end.result c.new-entry.result ≡ es ++ entry_of s at ∷ [] =
    ap (λ l. set l c.len-end.result c.new-entry.result) (c.deref_mut.ensures.value ∙ c.push_reserved.ensures.items) ∙ last_set es c.new-entry.result c.len-end.result n ∙ ap (λ y. es ++ y ∷ []) x in
    let es' = c.rise.new.all in
    let is = whole c.push_reserved.new.self.len c.push_reserved.new.self.items es' c.push_reserved.new.self.ok.0 (c.rise.auto.all ∙ ap length c.deref_mut.ensures.value) in
    let p : IsPermutation (es ++ entry_of s at ∷ []) es' = subst (λ l. IsPermutation l es') l c.rise.ensures.shuffled in
    let m : Lifts (slots (set pool at s) (es ++ entry_of s at ∷ [])) c.len-end.result (slots (set pool at s) es') =
    subst (λ l. Lifts (slots (set pool at s) l) c.len-end.result (slots (set pool at s) es')) l
    (subst (λ v. Lifts (slots v (set c.deref_mut.result.now c.len-end.result c.new-entry.result)) c.len-end.result (slots v es')) q c.rise.ensures.lifts) in
    let put = put_end pool es es' s at c.len-end.result w c.requires.fit c.requires.absent n p m in
    subst (λ t. AllByRecursion (Fits (set pool c.from.result s)) t) (sym is) (subst (λ n. AllByRecursion (Fits (set pool n s)) es') (sym e) put.fit)

pub returns-clause-named : goal.returns-clause-named
returns-clause-named c =
    let es = c.args.order.now.items in
    let pool = c.args.pool.now.items in
    let s = c.args.slot.now in
    let at = c.args.at in
    let w : at < length pool = omega (arith, c.requires.within, c.args.pool.now.ok.0) in
    let e : c.from.result ≡ at = c.from.ensures in
    let q : c.deref.result.now ≡ set pool at s = c.deref.ensures.value ∙ ap (λ m. set pool m s) e in
    let x : c.new-entry.result ≡ entry_of s at = c.new-entry.ensures in
    let n : c.len-end.result ≡ length es = c.len-end.ensures ∙ c.args.order.now.ok.0 in
    let l : set c.deref_mut.result.now c.len-end.result c.new-entry.result ≡ es ++ entry_of s at ∷ [] =
    ap (λ l. set l c.len-end.result c.new-entry.result) (c.deref_mut.ensures.value ∙ c.push_reserved.ensures.items) ∙ last_set es c.new-entry.result c.len-end.result n ∙ ap (λ y. es ++ y ∷ []) x in
    let es' = c.rise.new.all in
    let is = whole c.push_reserved.new.self.len c.push_reserved.new.self.items es' c.push_reserved.new.self.ok.0 (c.rise.auto.all ∙ ap length c.deref_mut.ensures.value) in
    let p : IsPermutation (es ++ entry_of s at ∷ []) es' = subst (λ l. IsPermutation l es') l c.rise.ensures.shuffled in
    let m : Lifts (slots (set pool at s) (es ++ entry_of s at ∷ [])) c.len-end.result (slots (set pool at s) es') =
    subst (λ l. Lifts (slots (set pool at s) l) c.len-end.result (slots (set pool at s) es')) l
    (subst (λ v. Lifts (slots v (set c.deref_mut.result.now c.len-end.result c.new-entry.result)) c.len-end.result (slots v es')) q c.rise.ensures.lifts) in
    let put = put_end pool es es' s at c.len-end.result w c.requires.fit c.requires.absent n p m in
    λ k. ap (named k) is ∙ same_named (es ++ entry_of s at ∷ []) es' k p ∙ end_named es (entry_of s at) k
