-- The first and the second of a heap.
use Rattle.std.proofs.Common.{◌≡◌, ℕ, zero, suc, ◌-◌, ◌/◌, ◌<◌, ◌≤◌, true, false, List, [], ◌∷◌, length, get_or, Some, None, sym, refl, ap, ◌∙◌, ⊎_elim, arith}
use Rattle.std.specs.BinaryHeap.{IsHeap}
use Rattle.std.proofs.lemmas.Bool.{cases_Bool, both_ways}
use Rattle.std.specs.List.{slice_get}
use Rattle.std.proofs.lemmas.Option.{none-some, same_Some}
use Rattle.std.proofs.ByRecursion.{All-from_get_or}
use Rattle.slot.specs.Rank.{ranked}
use Rattle.slot.proofs.Ranks.{ins_front, all_ranked}
use Rattle.slot.specs.declared.Slot.{Slot}
use Rattle.heap_calendar.specs.Entries.{blank}
use Rattle.slot.specs.Slots.{earlier, turned}
use Rattle.slot.specs.Laws.{strictly, is_earlier}
use Rattle.slot.proofs.Picks.{never_self, through}
use Rattle.slot.proofs.Puts.{first_least, at_one}

pub not_over : (x y z : Slot) → earlier z y ≡ false → earlier y x ≡ false → earlier z x ≡ false
not_over x y z a b = ⊎_elim (λ (e : earlier z x ≡ true). absurd (both_ways (earlier z y) a (through earlier strictly z x y e b))) (λ e. e) (cases_Bool (earlier z x))

pub parent : (xs : List Slot) → IsHeap turned xs → (k : ℕ) → 0 < k → k < length xs → earlier (get_or xs k blank) (get_or xs ((k - 1) / 2) blank) ≡ false
unfolding IsHeap
parent xs h k a b = sym (is_earlier (get_or xs k blank) (get_or xs ((k - 1) / 2) blank)) ∙ h ((k - 1) / 2) k blank (omega arith) (omega arith) (omega arith) b

under_root : (xs : List Slot) → IsHeap turned xs → (n k : ℕ) → k ≤ n → k < length xs → earlier (get_or xs k blank) (get_or xs 0 blank) ≡ false
under_root xs h n zero a b = never_self earlier strictly (get_or xs 0 blank)
under_root xs h zero (suc k) a b = absurd (let z : ⊥ = omega arith in z)
under_root xs h (suc n) (suc k) a b =
    not_over (get_or xs 0 blank) (get_or xs ((suc k - 1) / 2) blank) (get_or xs (suc k) blank) (parent xs h (suc k) (omega arith) b)
    (under_root xs h n ((suc k - 1) / 2) (omega arith) (omega arith))

pub root_first : (x : Slot) (t : List Slot) → IsHeap turned (x ∷ t) → ranked earlier (x ∷ t) ≡ x ∷ ranked earlier t
root_first x t h = ins_front earlier strictly x (ranked earlier t) (all_ranked earlier strictly (λ y. earlier y x ≡ false) t
    (All-from_get_or (λ y. earlier y x ≡ false) t blank (λ i l. under_root (x ∷ t) h (suc i) (suc i) (omega arith) (let m : suc i < suc (length t) = omega arith in m))))

-- m is no later than the children of the root
pub under_child : (xs : List Slot) → IsHeap turned xs → (m : Slot) → earlier (get_or xs 1 blank) m ≡ false → (2 < length xs → earlier (get_or xs 2 blank) m ≡ false)
    → (n k : ℕ) → k ≤ n → 0 < k → k < length xs → earlier (get_or xs k blank) m ≡ false
under_child xs h m a b n zero l p q = absurd (let z : ⊥ = omega arith in z)
under_child xs h m a b n (suc zero) l p q = a
under_child xs h m a b n (suc (suc zero)) l p q = b q
under_child xs h m a b zero (suc (suc (suc k))) l p q = absurd (let z : ⊥ = omega arith in z)
under_child xs h m a b (suc n) (suc (suc (suc k))) l p q =
    not_over m (get_or xs ((suc (suc (suc k)) - 1) / 2) blank) (get_or xs (suc (suc (suc k))) blank) (parent xs h (suc (suc (suc k))) (omega arith) q)
    (under_child xs h m a b n ((suc (suc (suc k)) - 1) / 2) (omega arith) (omega arith) (omega arith))

-- the earlier child is the second
pub second_is : (xs : List Slot) → IsHeap turned xs → (m : Slot) (j : ℕ) → 0 < j → j < length xs → m ≡ get_or xs j blank → earlier (get_or xs 1 blank) m ≡ false → (2 < length xs → earlier (get_or xs 2 blank) m ≡ false)
    → slice_get (ranked earlier xs) 1 ≡ Some m
second_is [] h m j p q e a b = absurd (let z : ⊥ = omega arith in z)
second_is (x ∷ t) h m zero p q e a b = absurd (let z : ⊥ = omega arith in z)
second_is (x ∷ t) h m (suc j) p q e a b =
    ap (λ l. slice_get l 1) (root_first x t h) ∙ at_one (ranked earlier t) x
    ∙ first_least earlier strictly t m j blank (let z : j < length t = omega arith in z) (sym e)
    (All-from_get_or (λ y. earlier y m ≡ false) t blank (λ i l. under_child (x ∷ t) h m a b (suc i) (suc i) (omega arith) (omega arith) (let z : suc i < suc (length t) = omega arith in z)))

pub short_second : (xs : List Slot) → length xs < 2 → slice_get (ranked earlier xs) 1 ≡ None
short_second [] h = refl
short_second (x ∷ []) h = refl
short_second (x ∷ y ∷ t) h = absurd (let z : ⊥ = omega arith in z)

pub first_of : (xs : List Slot) (x : Slot) → IsHeap turned xs → Some x ≡ slice_get xs 0 → (l : List Slot) × (ranked earlier xs ≡ x ∷ l)
first_of [] x h e = absurd (none-some x (sym e))
first_of (y ∷ t) x h e = (ranked earlier t, root_first y t h ∙ ap (λ z. z ∷ ranked earlier t) (same_Some y x (sym e)))
