-- What a put and a drop of the root make of the slots in their order.
use Rattle.std.proofs.Common.{◌≡◌, ℕ, ◌<◌, List, [], ◌∷◌, ◌++◌, length, set, sym, refl, ap, ◌∙◌, subst, arith}
use Rattle.std.specs.List.{AllByRecursion}
use Rattle.std.specs.List.Sorted.{IsPermutation}
use Rattle.std.specs.BinaryHeap.{IsHeap, KeepsHeap}
use Rattle.std.proofs.ByRecursion.{all_shuffled}
use Rattle.std.proofs.lemmas.List.{length-append}
use Rattle.std.proofs.lemmas.List.Sorted.{IsPermutation-map, IsPermutation-trans}
use Rattle.std_alloc.proofs.Permutation.{as_long}
use Rattle.event.specs.Lists.{rest}
use Rattle.slot.specs.declared.Slot.{Slot}
use Rattle.slot.specs.Slots.{turned}
use Rattle.heap_calendar.specs.declared.entry.Entry.{Entry}
use Rattle.heap_calendar.specs.Entries.{slot_of, slots, entry_of, Fits, named}
use Rattle.heap_calendar.specs.Sifts.{Mends, Lifts}
use Rattle.heap_calendar.proofs.Moves.{many, slots_set}
use Rattle.heap_calendar.proofs.Ends.{root_set, mended, front, risen, first_last}
use Rattle.heap_calendar.proofs.Keeps.{RootPut, end_fits, end_slots}

pub record Put (pool : List Slot) (es : List Entry) (old new : List Slot) (s : Slot) (es' : List Entry) : Type 0 where
  pub shuffled : IsPermutation (s ∷ old) (slots new es')
  pub built : KeepsHeap turned (slots pool es) (slots new es')
  pub fit : AllByRecursion (Fits new) es'

pub put_root : (pool : List Slot) (es es' : List Entry) (s : Slot) (at : ℕ) → 0 < length es → RootPut pool es s at → IsPermutation (set es 0 (entry_of s at)) es'
    → Mends (slots (set pool at s) (set es 0 (entry_of s at))) (slots (set pool at s) es') → Put pool es (rest (slots pool es)) (set pool at s) s es'
put_root pool es es' s at h r p m =
    let new = set pool at s in
    let x = entry_of s at in
    let is : slots new (set es 0 x) ≡ s ∷ rest (slots pool es) = r.slots_are ∙ root_set (slots pool es) s (omega (arith, many pool es)) in
    record {
      shuffled = subst (λ l. IsPermutation l (slots new es')) is (IsPermutation-map (slot_of new) (set es 0 x) es' p);
      built = mended (slots pool es) (slots new es') s (subst (λ l. Mends l (slots new es')) r.slots_are m);
      fit = all_shuffled (Fits new) (set es 0 x) es' p r.fit;
    }

pub put_end : (pool : List Slot) (es es' : List Entry) (s : Slot) (at n : ℕ) → at < length pool → AllByRecursion (Fits pool) es → named at es ≡ 0 → n ≡ length es → IsPermutation (es ++ entry_of s at ∷ []) es'
    → Lifts (slots (set pool at s) (es ++ entry_of s at ∷ [])) n (slots (set pool at s) es') → Put pool es (slots pool es) (set pool at s) s es'
put_end pool es es' s at n w f h e p l =
    let new = set pool at s in
    let x = entry_of s at in
    let is = end_slots pool es s at w h in
    let xs = slots pool es in
    let a = as_long _ _ p in
    let b = length-append es (x ∷ []) in
    record {
      shuffled = IsPermutation-trans (s ∷ xs) (xs ++ s ∷ []) (slots new es') (first_last xs s) (subst (λ l. IsPermutation l (slots new es')) is (IsPermutation-map (slot_of new) (es ++ x ∷ []) es' p));
      built = risen xs (slots new es') s n (e ∙ sym (many pool es)) (omega (arith, many new es', a, b)) (subst (λ l. Lifts l n (slots new es')) is l);
      fit = all_shuffled (Fits new) (es ++ x ∷ []) es' p (end_fits pool es s at w f h);
    }

slots_ends : (pool : List Slot) (u : List Entry) (z : Entry) → slots pool (u ++ z ∷ []) ≡ slots pool u ++ slot_of pool z ∷ []
slots_ends pool [] z = refl
slots_ends pool (x ∷ u) z = ap (λ l. slot_of pool x ∷ l) (slots_ends pool u z)

-- all but the last are a heap, and so they are with the last for the root once that has sunk
pub front_slots : (pool : List Slot) (u : List Entry) (z : Entry) → KeepsHeap turned (slots pool (u ++ z ∷ [])) (slots pool u)
front_slots pool u z h = front (slots pool u) (slot_of pool z) (subst (λ l. IsHeap turned l) (slots_ends pool u z) h)

pub drop_mended : (pool : List Slot) (u es' : List Entry) (z : Entry) → Mends (slots pool (set u 0 z)) (slots pool es') → KeepsHeap turned (slots pool (u ++ z ∷ [])) (slots pool es')
drop_mended pool u es' z m h = mended (slots pool u) (slots pool es') (slot_of pool z) (subst (λ l. Mends l (slots pool es')) (slots_set pool u 0 z) m) (front_slots pool u z h)
