-- A heap of slots under a write of its root, and at its end.
use Rattle.std.proofs.Common.{◌≡◌, ℕ, ◌+◌, ◌<◌, List, [], ◌∷◌, ◌++◌, length, set, take, drop, sym, refl, ap, ◌∙◌, subst, arith}
use Rattle.std.specs.BinaryHeap.{IsHeap, KeepsHeap, lt_by_cmp}
use Rattle.std.specs.BinaryHeap.Sift.{RestoresHeap}
use Rattle.std.specs.List.Sorted.{IsPermutation}
use Rattle.std.proofs.Math.Seq.{take-append_seam}
use Rattle.std.proofs.lemmas.List.{get_or-set_other, get_or_append_left as get_or-append, length-set, length-append}
use Rattle.std.proofs.lemmas.List.Sorted.{IsPermutation-trans, IsPermutation-append_comm}
use Rattle.std_alloc.proofs.HeapSift as sifts
use Rattle.event.specs.Lists.{rest}
use Rattle.slot.specs.declared.Slot.{Slot}
use Rattle.slot.specs.Slots.{turned}
use Rattle.heap_calendar.specs.Sifts.{Mends, Lifts}
use Rattle.slot.specs.Laws.{turned_total}

-- what is written through a slice is the whole
pub whole : {X : Type 0} (n : ℕ) (xs ys : List X) → n ≡ length xs → length ys ≡ length xs → take n (ys ++ drop (length ys) xs) ≡ ys
whole n xs ys e f = ap (λ m. take m (ys ++ drop (length ys) xs)) (e ∙ sym f) ∙ take-append_seam ys (drop (length ys) xs)

pub root_set : (xs : List Slot) (x : Slot) → 0 < length xs → set xs 0 x ≡ x ∷ rest xs
root_set [] x h = absurd (let z : ⊥ = omega arith in z)
root_set (y ∷ t) x h = refl

-- below the root a heap stays one whatever the root becomes
pub mended : (xs ys : List Slot) (x : Slot) → Mends (set xs 0 x) ys → KeepsHeap turned xs ys
unfolding IsHeap RestoresHeap
mended xs ys x m h = m (λ p k d lo a b f.
    (λ i. lt_by_cmp turned (get_or-set_other xs 0 p x d (λ e. let z : ⊥ = omega arith in z) i) (get_or-set_other xs 0 k x d (λ e. let z : ⊥ = omega arith in z) i))
    ∙ h p k d (omega arith) a b (omega (arith, length-set xs 0 x)))

-- all but the last
pub front : (u : List Slot) (z : Slot) → KeepsHeap turned (u ++ z ∷ []) u
unfolding IsHeap
front u z h = λ p k d lo a b f.
    (λ i. lt_by_cmp turned (sym (get_or-append u (z ∷ []) d p (omega arith)) i) (sym (get_or-append u (z ∷ []) d k f) i))
    ∙ h p k d lo a b (omega (arith, length-append u (z ∷ [])))

at_seam : {X : Type 0} (u : List X) (x : X) → set (u ++ x ∷ []) (length u) x ≡ u ++ x ∷ []
at_seam [] x = refl
at_seam (y ∷ u) x = ap (λ l. y ∷ l) (at_seam u x)

pub last_set : {X : Type 0} (u : List X) (x : X) (n : ℕ) → n ≡ length u → set (u ++ x ∷ []) n x ≡ u ++ x ∷ []
last_set u x n e = ap (λ m. set (u ++ x ∷ []) m x) e ∙ at_seam u x

pub risen : (xs ys : List Slot) (x : Slot) (n : ℕ) → n ≡ length xs → length ys ≡ n + 1 → Lifts (xs ++ x ∷ []) n ys → KeepsHeap turned xs ys
risen xs ys x n e f l = sifts.pushed turned turned_total xs (x ∷ []) (xs ++ x ∷ []) ys n e refl f l

-- the last goes to the front
pub last_first : {X : Type 0} (u : List X) (z : X) → IsPermutation (u ++ z ∷ []) (z ∷ u)
last_first u z = IsPermutation-append_comm u (z ∷ [])

pub first_last : {X : Type 0} (u : List X) (z : X) → IsPermutation (z ∷ u) (u ++ z ∷ [])
first_last u z = IsPermutation-append_comm (z ∷ []) u

-- the last goes in for the root
pub dropped : {X : Type 0} (xs u ys : List X) (z : X) → xs ≡ u ++ z ∷ [] → 0 < length u → IsPermutation (set u 0 z) ys → IsPermutation (rest xs) ys
dropped xs [] ys z e h p = absurd (let q : ⊥ = omega arith in q)
dropped xs (x ∷ u) ys z e h p = subst (λ l. IsPermutation (rest l) ys) (sym e) (IsPermutation-trans (u ++ z ∷ []) (z ∷ u) ys (last_first u z) p)
