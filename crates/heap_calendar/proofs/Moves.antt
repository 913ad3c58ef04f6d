-- Entries on their way in a heap, and the slots that they name.
use Rattle.std.proofs.Common.{◌≡◌, ℕ, zero, suc, ◌+◌, ◌-◌, ◌*◌, ◌/◌, ◌<◌, ◌≤◌, Bool, true, false, List, [], ◌∷◌, length, get_or, set, sym, refl, ap, ◌∙◌, subst, arith}
use Rattle.std.specs.List.{AllByRecursion, filter_map, cons_option, slice_get}
use Rattle.std.specs.Prelude.{IfSome}
use Rattle.heap_calendar.specs.Totals.{standing}
use Rattle.std.specs.List.Sorted.{IsPermutation}
use Rattle.std.proofs.ByRecursion.{All-get_or}
use Rattle.std.proofs.lemmas.List.{get_or_default as any-default, get_or-set_same, get_or-set_other, length-set, length-map, map-set, get_or-map}
use Rattle.std.proofs.lemmas.List.Sorted.{IsPermutation-swap, IsPermutation-map}
use Rattle.std.specs.BinaryHeap.Sift.{ComparesAt}
use Rattle.std_alloc.proofs.HeapSift as sifts
use Rattle.std_alloc.proofs.vec.Slotted.{hole_moves}
use Rattle.slot.specs.declared.Slot.{Slot}
use Rattle.slot.specs.Slots.{earlier, turned}
use Rattle.heap_calendar.specs.declared.entry.Entry.{Entry}
use Rattle.heap_calendar.specs.Entries.{blank, slot_of, slots, Fits, no_entry}
use Rattle.heap_calendar.specs.Sifts.{IsEarlierChild, Lifts}
use Rattle.slot.specs.Laws.{turned_total}
use Rattle.heap_calendar.proofs.Sifts.{rises, falls, compared}

pub many : (pool : List Slot) (es : List Entry) → length (slots pool es) ≡ length es
many pool es = length-map es (slot_of pool)

pub at_slots : (pool : List Slot) (es : List Entry) (k : ℕ) → k < length es → get_or (slots pool es) k blank ≡ slot_of pool (get_or es k no_entry)
at_slots pool es k h = get_or-map (slot_of pool) es k no_entry blank h

pub slots_set : (pool : List Slot) (es : List Entry) (i : ℕ) (x : Entry) → slots pool (set es i x) ≡ set (slots pool es) i (slot_of pool x)
slots_set pool es i x = map-set (slot_of pool) es i x

slots_moved : (pool : List Slot) (es : List Entry) (at p : ℕ) (x : Entry) → p < length es
    → slots pool (set (set es at (get_or es p no_entry)) p x) ≡ set (set (slots pool es) at (get_or (slots pool es) p blank)) p (slot_of pool x)
slots_moved pool es at p x h =
    slots_set pool (set es at (get_or es p no_entry)) p x
    ∙ ap (λ l. set l p (slot_of pool x)) (slots_set pool es at (get_or es p no_entry))
    ∙ ap (λ s. set (set (slots pool es) at s) p (slot_of pool x)) (sym (at_slots pool es p h))

pub shuffles : (es : List Entry) (at to : ℕ) (x : Entry) → at < length es → to < length es → (to ≡ at → ⊥) → IsPermutation (set es at x) (set (set es at (get_or es to no_entry)) to x)
shuffles es at to x p q n =
    IsPermutation-swap (set es at x) _ at to (omega (arith, length-set es at x)) (omega (arith, length-set es at x))
    (hole_moves es _ at to x p q n (ap (set es at) (any-default es to no_entry x q)))

pub fit_beside : (pool : List Slot) (es : List Entry) (at k : ℕ) (x : Entry) → AllByRecursion (Fits pool) (set es at x) → k < length es → (k ≡ at → ⊥) → Fits pool (get_or es k no_entry)
fit_beside pool es at k x h a n =
    subst (Fits pool) (get_or-set_other es at k x no_entry n) (All-get_or (Fits pool) (set es at x) k no_entry (omega (arith, length-set es at x)) h)

pub fit_here : (pool : List Slot) (es : List Entry) (at : ℕ) (x : Entry) → AllByRecursion (Fits pool) (set es at x) → at < length es → Fits pool x
fit_here pool es at x h a =
    subst (Fits pool) (get_or-set_same es at x no_entry a) (All-get_or (Fits pool) (set es at x) at no_entry (omega (arith, length-set es at x)) h)

module _ (pool : List Slot) where
  pub up_once : (init es : List Entry) (start at : ℕ) (x : Entry) → 0 < at → at ≤ start → at < length es → earlier (slot_of pool x) (slot_of pool (get_or es ((at - 1) / 2) no_entry)) ≡ true
      → sifts.Rising turned turned_total (slots pool init) start (slots pool (set es at x)) at
      → sifts.Rising turned turned_total (slots pool init) start (slots pool (set (set es at (get_or es ((at - 1) / 2) no_entry)) ((at - 1) / 2) x)) ((at - 1) / 2)
  up_once init es start at x z le long e r =
      let p = (at - 1) / 2 in
      subst (λ l. sifts.Rising turned turned_total (slots pool init) start l p) (sym (slots_moved pool es at p x (omega arith)))
      (rises (slots pool init) (slots pool es) start at (slot_of pool x) z le (omega (arith, many pool es)) (ap (earlier (slot_of pool x)) (at_slots pool es p (omega arith)) ∙ e)
      (subst (λ l. sifts.Rising turned turned_total (slots pool init) start l at) (slots_set pool es at x) r))

  pub down_once : (init es : List Entry) (at c : ℕ) (x : Entry) (n : ℕ) → length es ≡ n → at < length es → at * 2 + 1 ≤ c → c ≤ at * 2 + 2 → c < length es
      → IsEarlierChild (set (slots pool es) at (slot_of pool x)) at c
      → sifts.Falling turned turned_total (slots pool init) n (slots pool (set es at x)) at → sifts.Falling turned turned_total (slots pool init) n (slots pool (set (set es at (get_or es c no_entry)) c x)) c
  down_once init es at c x n long within from to in' e f =
      subst (λ l. sifts.Falling turned turned_total (slots pool init) n l c) (sym (slots_moved pool es at c x in'))
      (falls (slots pool init) (slots pool es) at c (slot_of pool x) n (many pool es ∙ long) (omega (arith, many pool es)) from to (omega (arith, many pool es)) e
      (subst (λ l. sifts.Falling turned turned_total (slots pool init) n l at) (slots_set pool es at x) f))

  -- x stays below the entry above it
  pub rests : (init es : List Entry) (start at : ℕ) (x : Entry) → 0 < at → at < length es → earlier (slot_of pool x) (slot_of pool (get_or es ((at - 1) / 2) no_entry)) ≡ false
      → sifts.Rising turned turned_total (slots pool init) start (slots pool (set es at x)) at → Lifts (slots pool init) start (slots pool (set es at x))
  rests init es start at x z long e r =
      let p = (at - 1) / 2 in
      sifts.rise_rests turned turned_total (slots pool init) (slots pool (set es at x)) start at
      (subst (λ l. ComparesAt turned l p at false) (sym (slots_set pool es at x))
      (compared (slots pool es) at p (slot_of pool x) false (omega (arith, many pool es)) (omega (arith, many pool es)) (omega arith) (ap (earlier (slot_of pool x)) (at_slots pool es p (omega arith)) ∙ e)))
      r

pub standing_slots : (taken : Bool) (pool : List Slot) (es : List Entry) → standing taken (slots pool es) ≡ slots pool (standing taken es)
standing_slots true pool [] = refl
standing_slots true pool (e ∷ es) = refl
standing_slots false pool es = refl

pub standing_fits : (taken : Bool) (pool : List Slot) (es : List Entry) → AllByRecursion (Fits pool) es → AllByRecursion (Fits pool) (standing taken es)
standing_fits true pool [] h = tt
standing_fits true pool (e ∷ es) h = h.1
standing_fits false pool es h = h

pub first_fits : (pool : List Slot) (es : List Entry) → AllByRecursion (Fits pool) es → IfSome (slice_get es 0) (Fits pool)
first_fits pool [] h = tt
first_fits pool (e ∷ es) h = h.0

slot_got : (pool : List Slot) (n : ℕ) (l : List Slot) → n < length pool → cons_option (slice_get pool n) l ≡ get_or pool n blank ∷ l
slot_got [] n l h = absurd (let z : ⊥ = omega arith in z)
slot_got (x ∷ pool) zero l h = refl
slot_got (x ∷ pool) (suc n) l h = slot_got pool n l (let z : n < length pool = omega arith in z)

-- what entries name is found
pub found : (pool : List Slot) (es : List Entry) → AllByRecursion (Fits pool) es → filter_map (λ (e : Entry). slice_get pool e.at) es ≡ slots pool es
found pool [] h = refl
found pool (e ∷ es) h = ap (cons_option (slice_get pool e.at)) (found pool es h.1) ∙ slot_got pool e.at (slots pool es) h.0.within

pub settled_slots : (taken : Bool) (pool : List Slot) (es es' : List Entry) → IsPermutation (standing taken es) es' → IsPermutation (standing taken (slots pool es)) (slots pool es')
settled_slots taken pool es es' p = subst (λ l. IsPermutation l (slots pool es')) (sym (standing_slots taken pool es)) (IsPermutation-map (slot_of pool) (standing taken es) es' p)
