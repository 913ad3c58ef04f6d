-- The slot stands where that of the root did, and its entry finds its place.
use Rattle.std.proofs.Common.{◌≡◌, ◌∷◌, get_or, set, sym, ap, ◌∙◌, subst}
use Rattle.std.specs.List.{AllByRecursion}
use Rattle.std.specs.List.Sorted.{IsPermutation}
use Rattle.std.specs.BinaryHeap.{KeepsHeap}
use Rattle.event.specs.Lists.{rest}
use Rattle.slot.specs.Slots.{turned}
use Rattle.heap_calendar.specs.Entries.{Fits, slots, entry_of, no_entry}
use Rattle.heap_calendar.specs.Sifts.{Mends}
use Rattle.heap_calendar.proofs.Keeps.{root_put, same_named}
use Rattle.heap_calendar.proofs.Puts.{put_root}
use Rattle.heap_calendar.proofs.root.put_for_root.Goals as goal

pub replace_root-requires-clause-fit : goal.replace_root-requires-clause-fit
replace_root-requires-clause-fit c =
    let es = c.args.order.now in
    let pool = c.args.pool.now.items in
    let s = c.args.slot.now in
    let r = root_put pool es s c.requires.some c.requires.fit c.requires.once in
    let at = (get_or es 0 no_entry).at in
    let e : c.from.result ≡ at = c.from.ensures in
    let q : c.deref.result.now ≡ set pool at s = c.deref.ensures.value ∙ ap (λ m. set pool m s) e in
    let x : c.new.result ≡ entry_of s at = c.new.ensures in
    subst (λ w. AllByRecursion (Fits w) (set es 0 c.new.result)) (sym q) (subst (λ y. AllByRecursion (Fits (set pool at s)) (set es 0 y)) (sym x) r.fit)

pub returns-clause-shuffled : goal.returns-clause-shuffled
returns-clause-shuffled c =
    let es = c.args.order.now in
    let pool = c.args.pool.now.items in
    let s = c.args.slot.now in
    let r = root_put pool es s c.requires.some c.requires.fit c.requires.once in
    let at = (get_or es 0 no_entry).at in
    let e : c.from.result ≡ at = c.from.ensures in
    let q : c.deref.result.now ≡ set pool at s = c.deref.ensures.value ∙ ap (λ m. set pool m s) e in
    let x : c.new.result ≡ entry_of s at = c.new.ensures in
    let es' = c.replace_root.new.all in
    let p : IsPermutation (set es 0 (entry_of s at)) es' = subst (λ y. IsPermutation (set es 0 y) es') x c.replace_root.ensures.shuffled in
    let m : Mends (slots (set pool at s) (set es 0 (entry_of s at))) (slots (set pool at s) es') =
    subst (λ y. Mends (slots (set pool at s) (set es 0 y)) (slots (set pool at s) es')) x (subst (λ w. Mends (slots w (set es 0 c.new.result)) (slots w es')) q c.replace_root.ensures.mends) in
    let put = put_root pool es es' s at c.requires.some r p m in
    subst (λ n. IsPermutation (s ∷ rest (slots pool es)) (slots (set pool n s) es')) (sym e) put.shuffled

pub returns-clause-built : goal.returns-clause-built
returns-clause-built c =
    let es = c.args.order.now in
    let pool = c.args.pool.now.items in
    let s = c.args.slot.now in
    let r = root_put pool es s c.requires.some c.requires.fit c.requires.once in
    let at = (get_or es 0 no_entry).at in
    let e : c.from.result ≡ at = c.from.ensures in
    let q : c.deref.result.now ≡ set pool at s = c.deref.ensures.value ∙ ap (λ m. set pool m s) e in
    let x : c.new.result ≡ entry_of s at = c.new.ensures in
    let es' = c.replace_root.new.all in
    let p : IsPermutation (set es 0 (entry_of s at)) es' = subst (λ y. IsPermutation (set es 0 y) es') x c.replace_root.ensures.shuffled in
    let m : Mends (slots (set pool at s) (set es 0 (entry_of s at))) (slots (set pool at s) es') =
    subst (λ y. Mends (slots (set pool at s) (set es 0 y)) (slots (set pool at s) es')) x (subst (λ w. Mends (slots w (set es 0 c.new.result)) (slots w es')) q c.replace_root.ensures.mends) in
    let put = put_root pool es es' s at c.requires.some r p m in
    subst (λ n. KeepsHeap turned (slots pool es) (slots (set pool n s) es')) (sym e) put.built

pub returns-clause-fit : goal.returns-clause-fit
returns-clause-fit c =
    let es = c.args.order.now in
    let pool = c.args.pool.now.items in
    let s = c.args.slot.now in
    let r = root_put pool es s c.requires.some c.requires.fit c.requires.once in
    let at = (get_or es 0 no_entry).at in
    let e : c.from.result ≡ at = c.from.ensures in
    let q : c.deref.result.now ≡ set pool at s = c.deref.ensures.value ∙ ap (λ m. set pool m s) e in
    let x : c.new.result ≡ entry_of s at = c.new.ensures in
    let es' = c.replace_root.new.all in
    let p : IsPermutation (set es 0 (entry_of s at)) es' = subst (λ y. IsPermutation (set es 0 y) es') x c.replace_root.ensures.shuffled in
    let m : Mends (slots (set pool at s) (set es 0 (entry_of s at))) (slots (set pool at s) es') =
    subst (λ y. Mends (slots (set pool at s) (set es 0 y)) (slots (set pool at s) es')) x (subst (λ w. Mends (slots w (set es 0 c.new.result)) (slots w es')) q c.replace_root.ensures.mends) in
    let put = put_root pool es es' s at c.requires.some r p m in
    subst (λ n. AllByRecursion (Fits (set pool n s)) es') (sym e) put.fit

pub returns-clause-named : goal.returns-clause-named
returns-clause-named c =
    let es = c.args.order.now in
    let pool = c.args.pool.now.items in
    let s = c.args.slot.now in
    let r = root_put pool es s c.requires.some c.requires.fit c.requires.once in
    let at = (get_or es 0 no_entry).at in
    let e : c.from.result ≡ at = c.from.ensures in
    let q : c.deref.result.now ≡ set pool at s = c.deref.ensures.value ∙ ap (λ m. set pool m s) e in
    let x : c.new.result ≡ entry_of s at = c.new.ensures in
    let es' = c.replace_root.new.all in
    let p : IsPermutation (set es 0 (entry_of s at)) es' = subst (λ y. IsPermutation (set es 0 y) es') x c.replace_root.ensures.shuffled in
    let m : Mends (slots (set pool at s) (set es 0 (entry_of s at))) (slots (set pool at s) es') =
    subst (λ y. Mends (slots (set pool at s) (set es 0 y)) (slots (set pool at s) es')) x (subst (λ w. Mends (slots w (set es 0 c.new.result)) (slots w es')) q c.replace_root.ensures.mends) in
    let put = put_root pool es es' s at c.requires.some r p m in
    λ k. same_named (set es 0 (entry_of s at)) es' k p ∙ r.named_are k
