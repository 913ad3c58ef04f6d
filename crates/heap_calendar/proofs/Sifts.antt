-- A slot on its way in a heap leaves a hole, which is read as if the slot were there.
use Rattle.std.proofs.Common.{◌≡◌, ℕ, ◌+◌, ◌-◌, ◌*◌, ◌/◌, ◌<◌, ◌≤◌, Bool, true, false, ◌⊎◌, List, length, get_or, set, inl, inr, sym, ap, ◌∙◌, subst, arith}
use Rattle.std.specs.List.{swap}
use Rattle.std.specs.BinaryHeap.Sift.{IsGreaterChild, ComparesAt}
use Rattle.std_alloc.proofs.HeapSift as sifts
use Rattle.std_alloc.proofs.vec.Slotted.{hole_moves}
use Rattle.std_alloc.proofs.Permutation.{as_swapped}
use Rattle.std.proofs.lemmas.List.{get_or_default as any-default}
use Rattle.std.proofs.lemmas.List.{get_or-set_same, get_or-set_other, length-set}
use Rattle.slot.specs.declared.Slot.{Slot}
use Rattle.slot.specs.Slots.{earlier, turned}
use Rattle.slot.specs.Laws.{strictly, is_earlier, turned_total}
use Rattle.slot.proofs.Picks.{never_self}
use Rattle.heap_calendar.specs.Sifts.{IsEarlierChild}
use Rattle.heap_calendar.specs.Entries.{blank}

-- beside the hole the array is read
beside : (all : List Slot) (at k : ℕ) (x d : Slot) → k < length all → (k ≡ at → ⊥) → get_or (set all at x) k d ≡ get_or all k blank
beside all at k x d h n = get_or-set_other all at k x d n ∙ any-default all k d blank h

-- of two children the one that the other does not come before
pub child_is : (all : List Slot) (at c e : ℕ) → e < length all → c < length all → at < c → at < e → earlier (get_or all e blank) (get_or all c blank) ≡ false
    → (x : Slot) (k : ℕ) (d : Slot) → (k ≡ c) ⊎ (k ≡ e) → earlier (get_or (set all at x) k d) (get_or (set all at x) c d) ≡ false
child_is all at c e p q f g h x k d (inl i) =
    subst (λ m. earlier (get_or (set all at x) m d) (get_or (set all at x) c d) ≡ false) (sym i) (never_self earlier strictly (get_or (set all at x) c d))
child_is all at c e p q f g h x k d (inr i) =
    subst (λ m. earlier (get_or (set all at x) m d) (get_or (set all at x) c d) ≡ false) (sym i)
    (ap (λ y. earlier y (get_or (set all at x) c d)) (beside all at e x d p (omega arith)) ∙ ap (earlier (get_or all e blank)) (beside all at c x d q (omega arith)) ∙ h)

pub inside : (all : List Slot) (at : ℕ) (x d : Slot) → at < length all → get_or (set all at x) at d ≡ x
inside all at x d h = get_or-set_same all at x d h

-- a slot goes into the hole, and leaves one
pub moved : (all : List Slot) (at to : ℕ) (x : Slot) → at < length all → to < length all → (to ≡ at → ⊥) → set (set all at (get_or all to blank)) to x ≡ swap (set all at x) at to
moved all at to x p q n = hole_moves all _ at to x p q n (ap (set all at) (any-default all to blank x q))

-- x, seen in the hole, against the slot at p
pub compared : (all : List Slot) (at p : ℕ) (x : Slot) (b : Bool) → p < length all → at < length all → (p ≡ at → ⊥) → earlier x (get_or all p blank) ≡ b → ComparesAt turned (set all at x) p at b
compared all at p x b h k n e = λ d.
    is_earlier (get_or (set all at x) at d) (get_or (set all at x) p d) ∙ ap (λ y. earlier y (get_or (set all at x) p d)) (inside all at x d k) ∙ ap (earlier x) (beside all at p x d h n) ∙ e

-- a child that no other comes before is greater in the sense of the heap
pub greater : (xs : List Slot) (j c : ℕ) → IsEarlierChild xs j c → IsGreaterChild turned xs j c (length xs)
unfolding IsGreaterChild
greater xs j c h = λ k d a b f. is_earlier (get_or xs k d) (get_or xs c d) ∙ h k d a b f

pub alone : (k : ℕ) (all : List Slot) → earlier (get_or all k blank) (get_or all k blank) ≡ false
alone k all = never_self earlier strictly (get_or all k blank)

pub one_of : (k c e : ℕ) → e ≤ k → k ≤ c → c ≡ e + 1 → (k ≡ c) ⊎ (k ≡ e)
one_of k c e a b d = grind arith

pub other_of : (k c e : ℕ) → c ≤ k → k ≤ e → e ≡ c + 1 → (k ≡ c) ⊎ (k ≡ e)
other_of k c e a b d = grind arith

-- a turn upwards
pub rises : (xs all : List Slot) (start at : ℕ) (x : Slot) → 0 < at → at ≤ start → at < length all → earlier x (get_or all ((at - 1) / 2) blank) ≡ true
    → sifts.Rising turned turned_total xs start (set all at x) at → sifts.Rising turned turned_total xs start (set (set all at (get_or all ((at - 1) / 2) blank)) ((at - 1) / 2) x) ((at - 1) / 2)
rises xs all start at x z le long e r =
    sifts.rise_steps turned turned_total xs (set all at x) _ start at z le (omega (arith, length-set all at x))
    (moved all at ((at - 1) / 2) x long (omega arith) (omega arith) ∙ as_swapped (set all at x) at ((at - 1) / 2) (omega arith)) (compared all at ((at - 1) / 2) x true (omega arith) long (omega arith) e) r

-- a turn downwards
pub falls : (xs all : List Slot) (at c : ℕ) (x : Slot) (n : ℕ) → length all ≡ n → at < length all → at * 2 + 1 ≤ c → c ≤ at * 2 + 2 → c < length all → IsEarlierChild (set all at x) at c
    → sifts.Falling turned turned_total xs n (set all at x) at → sifts.Falling turned turned_total xs n (set (set all at (get_or all c blank)) c x) c
falls xs all at c x n long within from to in' e f =
    sifts.fall_steps turned turned_total xs (set all at x) _ n at c from to (omega arith) (omega (arith, length-set all at x)) (moved all at c x within in' (omega arith))
    (subst (IsGreaterChild turned (set all at x) at c) (length-set all at x ∙ long) (greater (set all at x) at c e)) f

-- what an earlier child is in the array as it stands
pub child_of : (all : List Slot) (at c : ℕ) → IsEarlierChild (set all at blank) at c → c < length all → at < c → (k : ℕ) → at * 2 + 1 ≤ k → k ≤ at * 2 + 2 → k < length all → earlier (get_or all k blank) (get_or all c blank) ≡ false
child_of all at c e in' below k a b f =
    sym (ap (λ y. earlier y (get_or all c blank)) (beside all at k blank blank f (omega arith))) ∙ sym (ap (earlier (get_or (set all at blank) k blank)) (beside all at c blank blank in' (omega arith)))
    ∙ e k blank a b (omega (arith, length-set all at blank))

pub at_same : (xs : List Slot) (k j : ℕ) → k ≡ j → earlier (get_or xs k blank) (get_or xs j blank) ≡ false
at_same xs k j e = ap (λ m. earlier (get_or xs k blank) (get_or xs m blank)) (sym e) ∙ never_self earlier strictly (get_or xs k blank)

pub at_other : (xs : List Slot) (k j : ℕ) (b : Slot) → k ≡ j → earlier (get_or xs j blank) b ≡ false → earlier (get_or xs k blank) b ≡ false
at_other xs k j b e h = ap (λ m. earlier (get_or xs m blank) b) e ∙ h
