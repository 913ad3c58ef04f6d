-- The first, the second and the third of a heap.
use Rattle.std.proofs.Common.{◌≡◌, ℕ, zero, suc, ◌+◌, ◌-◌, ◌*◌, ◌/◌, ◌<◌, ◌≤◌, Bool, false, List, [], ◌∷◌, length, get_or, Some, None, sym, refl, ap, ◌∙◌, ⊎_elim, arith}
use Rattle.std.specs.BinaryHeap.{IsHeap}
use Rattle.std.specs.List.{slice_get, AllByRecursion}
use Rattle.std.proofs.ByRecursion.{All-from_get_or}
use Rattle.std_alloc.proofs.Permutation.{which}
use Rattle.event.specs.Lists.{rest}
use Rattle.slot.specs.Rank.{ins, ranked, Strict}
use Rattle.slot.proofs.Ranks.{ins_comm, ins_front, all_ranked, length_ranked}
use Rattle.slot.specs.declared.Slot.{Slot}
use Rattle.slot.specs.Slots.{earlier, turned}
use Rattle.slot.specs.Laws.{strictly}
use Rattle.slot.proofs.Picks.{at_zero}
use Rattle.slot.proofs.Puts.{first_least}
use Rattle.heap_calendar.specs.Entries.{blank}
use Rattle.heap_calendar.proofs.Roots.{not_over, parent, root_first, under_child}

pub root_at : (xs : List Slot) → IsHeap turned xs → slice_get xs 0 ≡ slice_get (ranked earlier xs) 0
root_at [] h = refl
root_at (x ∷ t) h = sym (ap (λ l. slice_get l 0) (root_first x t h))

-- what stands below the root is the rest in order
pub below_at : (xs : List Slot) (i : ℕ) → IsHeap turned xs → slice_get (ranked earlier xs) (suc i) ≡ slice_get (ranked earlier (rest xs)) i
below_at [] i h = refl
below_at (x ∷ t) i h = ap (λ l. slice_get l (suc i)) (root_first x t h)

past : {X : Type 0} (l : List X) (i : ℕ) → length l ≤ i → slice_get l i ≡ None
past [] i h = refl
past (x ∷ l) zero h = absurd (let z : ⊥ = omega arith in z)
past (x ∷ l) (suc i) h = past l i (let z : length l ≤ i = omega arith in z)

pub short_third : (xs : List Slot) → length xs < 3 → slice_get (ranked earlier xs) 2 ≡ None
short_third xs h = past (ranked earlier xs) 2 (omega (arith, length_ranked earlier strictly xs))

-- a list without its element at i
without : {X : Type 0} → List X → ℕ → List X
without [] i = []
without (x ∷ l) zero = l
without (x ∷ l) (suc i) = x ∷ without l i

all_without : {X : Type 0} (P : X → Type 0) (d : X) (l : List X) (i : ℕ) → ((k : ℕ) → k < length l → (k ≡ i → ⊥) → P (get_or l k d)) → AllByRecursion P (without l i)
unfolding without
all_without P d [] i h = tt
all_without P d (x ∷ l) zero h = All-from_get_or P l d (λ k m. h (suc k) (let z : suc k < suc (length l) = omega arith in z) (λ e. let z : ⊥ = omega arith in z))
all_without P d (x ∷ l) (suc i) h = (
  h 0 (let z : 0 < suc (length l) = omega arith in z) (λ e. let z : ⊥ = omega arith in z),
  all_without P d l i (λ k m n. h (suc k) (let z : suc k < suc (length l) = omega arith in z) (λ e. n (let z : k ≡ i = omega arith in z))),
)

-- where the element at j stands then
stays : {X : Type 0} (l : List X) (i j : ℕ) (d : X) → j < length l → (j ≡ i → ⊥) → (m : ℕ) × ((m < length (without l i)) × (get_or (without l i) m d ≡ get_or l j d))
unfolding without
stays [] i j d h n = absurd (let z : ⊥ = omega arith in z)
stays (x ∷ l) zero zero d h n = absurd (n refl)
stays (x ∷ l) zero (suc j) d h n = (j, ((let z : j < length l = omega arith in z), refl))
stays (x ∷ l) (suc i) zero d h n = (0, ((let z : 0 < suc (length (without l i)) = omega arith in z), refl))
stays (x ∷ l) (suc i) (suc j) d h n =
    let r = stays l i j d (let z : j < length l = omega arith in z) (λ e. n (ap suc e)) in
    let a : r.0 < length (without l i) = r.1.0 in
    (suc r.0, ((let z : suc r.0 < suc (length (without l i)) = omega arith in z), r.1.1))

ranked_without : {X : Type 0} (lt : X → X → Bool) (o : Strict lt) (l : List X) (i : ℕ) (d : X) → i < length l → ranked lt l ≡ ins lt (get_or l i d) (ranked lt (without l i))
unfolding without
ranked_without lt o [] i d h = absurd (let z : ⊥ = omega arith in z)
ranked_without lt o (x ∷ l) zero d h = refl
ranked_without lt o (x ∷ l) (suc i) d h = ap (ins lt x) (ranked_without lt o l i d (let z : i < length l = omega arith in z)) ∙ ins_comm lt o x (get_or l i d) (ranked lt (without l i))

-- b is no later than the other child of the root and the children of the child at c
under_other : (xs : List Slot) → IsHeap turned xs → (c : ℕ) (b : Slot)
    → ((k : ℕ) → 1 ≤ k → k ≤ 2 → (k ≡ c → ⊥) → k < length xs → earlier (get_or xs k blank) b ≡ false)
    → ((k : ℕ) → c * 2 + 1 ≤ k → k ≤ c * 2 + 2 → k < length xs → earlier (get_or xs k blank) b ≡ false)
    → (n k : ℕ) → k ≤ n → 0 < k → (k ≡ c → ⊥) → k < length xs → earlier (get_or xs k blank) b ≡ false
under_other xs h c b o u n zero l p a q = absurd (let z : ⊥ = omega arith in z)
under_other xs h c b o u n (suc zero) l p a q = o 1 (omega arith) (omega arith) a q
under_other xs h c b o u n (suc (suc zero)) l p a q = o 2 (omega arith) (omega arith) a q
under_other xs h c b o u zero (suc (suc (suc k))) l p a q = absurd (let z : ⊥ = omega arith in z)
under_other xs h c b o u (suc n) (suc (suc (suc k))) l p a q =
    let i = suc (suc (suc k)) in
    ⊎_elim (λ (e : (i - 1) / 2 ≡ c). u i (omega arith) (omega arith) q)
    (λ (e : (i - 1) / 2 ≡ c → ⊥). not_over b (get_or xs ((i - 1) / 2) blank) (get_or xs i blank) (parent xs h i (omega arith) q)
    (under_other xs h c b o u n ((i - 1) / 2) (omega arith) (omega arith) e (omega arith)))
    (which ((i - 1) / 2) c)

-- no child of the root comes before the one at c, and b is the earliest of the other and of the children of that one
pub third_is : (xs : List Slot) → IsHeap turned xs → (c j : ℕ) → 1 ≤ c → c ≤ 2 → c < length xs → 0 < j → (j ≡ c → ⊥) → j < length xs
    → ((k : ℕ) → 1 ≤ k → k ≤ 2 → k < length xs → earlier (get_or xs k blank) (get_or xs c blank) ≡ false)
    → ((k : ℕ) → 1 ≤ k → k ≤ 2 → (k ≡ c → ⊥) → k < length xs → earlier (get_or xs k blank) (get_or xs j blank) ≡ false)
    → ((k : ℕ) → c * 2 + 1 ≤ k → k ≤ c * 2 + 2 → k < length xs → earlier (get_or xs k blank) (get_or xs j blank) ≡ false)
    → slice_get (ranked earlier xs) 2 ≡ Some (get_or xs j blank)
third_is [] h c j c1 c2 c3 j1 j2 j3 m o u = absurd (let z : ⊥ = omega arith in z)
third_is (x ∷ t) h zero j c1 c2 c3 j1 j2 j3 m o u = absurd (let z : ⊥ = omega arith in z)
third_is (x ∷ t) h (suc c) zero c1 c2 c3 j1 j2 j3 m o u = absurd (let z : ⊥ = omega arith in z)
third_is (x ∷ t) h (suc c) (suc j) c1 c2 c3 j1 j2 j3 m o u =
    let l = without t c in
    let first = get_or t c blank in
    let b = get_or t j blank in
    let under : AllByRecursion (λ y. earlier y first ≡ false) l =
    all_without (λ y. earlier y first ≡ false) blank t c (λ k p n. under_child (x ∷ t) h first (m 1 (omega arith) (omega arith) (omega arith)) (λ q. m 2 (omega arith) (omega arith) q) (suc k) (suc k) (omega arith) (omega arith) (let z : suc k < suc (length t) = omega arith in z)) in
    let least : AllByRecursion (λ y. earlier y b ≡ false) l =
    all_without (λ y. earlier y b ≡ false) blank t c (λ k p n. under_other (x ∷ t) h (suc c) b o u (suc k) (suc k) (omega arith) (omega arith) (λ e. n (let z : k ≡ c = omega arith in z)) (let z : suc k < suc (length t) = omega arith in z)) in
    let s = stays t c j blank (let z : j < length t = omega arith in z) (λ e. j2 (ap suc e)) in
    ap (λ r. slice_get r 2) (root_first x t h)
    ∙ ap (λ r. slice_get r 1) (ranked_without earlier strictly t c blank (let z : c < length t = omega arith in z) ∙ ins_front earlier strictly first (ranked earlier l) (all_ranked earlier strictly (λ y. earlier y first ≡ false) l under))
    ∙ at_zero (ranked earlier l) ∙ first_least earlier strictly l b s.0 blank s.1.0 s.1.1 least
