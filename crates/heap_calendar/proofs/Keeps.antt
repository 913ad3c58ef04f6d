-- Entries, free slots and the pool, under a put and a drop of the root.
use Rattle.std.proofs.Common.{◌≡◌, ℕ, ◌+◌, ◌<◌, ◌≤◌, List, [], ◌∷◌, ◌++◌, length, get_or, set, sym, refl, ap, ◌∙◌, subst, ⊎_elim, arith}
use Rattle.std.specs.List.{AllByRecursion, sum_by}
use Rattle.std.specs.List.Sorted.{IsPermutation}
use Rattle.std.proofs.ByRecursion.{all_shuffled, All-append}
use Rattle.std.proofs.lemmas.Bool.Decides.{nat_tests}
use Rattle.std.proofs.lemmas.List.{get_or-set_same, get_or-set_other, get_or_append_left, length-set, length-append}
use Rattle.std.proofs.lemmas.List.Sorted.{sum_by-IsPermutation}
use Rattle.std.proofs.lemmas.List.Sums.{sum_by-cons}
use Rattle.std_alloc.proofs.Permutation.{as_long, which}
use Rattle.slot.specs.declared.Slot.{Slot}
use Rattle.heap_calendar.specs.declared.entry.Entry.{Entry}
use Rattle.heap_calendar.specs.Entries.{blank, slot_of, slots, entry_of, Fits, no_entry, named, listed, same_number, KeptSoFar}

pub one_is : (a k : ℕ) → a ≡ k → same_number a k ≡ 1
one_is a k e = grind (arith, nat_tests)

none_is : (a k : ℕ) → same_number a k ≡ 0 → a ≡ k → ⊥
none_is a k h e = let z : same_number a k ≡ 1 = one_is a k e in let y : ⊥ = omega arith in y

module _ (pool : List Slot) (s : Slot) (at : ℕ) where
  pub fits_new : at < length pool → Fits (set pool at s) (entry_of s at)
  fits_new h = record { within = omega (arith, length-set pool at s); is = ap (λ x. entry_of x at) (get_or-set_same pool at s blank h) }

  pub same_slot : (e : Entry) → (e.at ≡ at → ⊥) → slot_of (set pool at s) e ≡ slot_of pool e
  same_slot e n = get_or-set_other pool at e.at s blank n

  pub fits_others : (es : List Entry) → named at es ≡ 0 → AllByRecursion (Fits pool) es → AllByRecursion (Fits (set pool at s)) es
  fits_others [] h a = tt
  fits_others (e ∷ es) h a =
      let u : same_number e.at at + named at es ≡ 0 = h in
      let n : e.at ≡ at → ⊥ = none_is e.at at (let z : same_number e.at at ≡ 0 = omega arith in z) in
      let w = a.0.within in (
        record { within = omega (arith, length-set pool at s); is = ap (λ x. entry_of x e.at) (same_slot e n) ∙ a.0.is },
        fits_others es (let z : named at es ≡ 0 = omega arith in z) a.1,
      )

  pub slots_others : (es : List Entry) → named at es ≡ 0 → slots (set pool at s) es ≡ slots pool es
  slots_others [] h = refl
  slots_others (e ∷ es) h =
      let u : same_number e.at at + named at es ≡ 0 = h in
      let n : e.at ≡ at → ⊥ = none_is e.at at (let z : same_number e.at at ≡ 0 = omega arith in z) in
      λ i. same_slot e n i ∷ slots_others es (let z : named at es ≡ 0 = omega arith in z) i

-- a slot goes where that of the root was
pub record RootPut (pool : List Slot) (es : List Entry) (s : Slot) (at : ℕ) : Type 0 where
  pub within : at < length pool
  pub fit : AllByRecursion (Fits (set pool at s)) (set es 0 (entry_of s at))
  pub slots_are : slots (set pool at s) (set es 0 (entry_of s at)) ≡ set (slots pool es) 0 s
  pub named_are : (k : ℕ) → named k (set es 0 (entry_of s at)) ≡ named k es

pub root_put : (pool : List Slot) (es : List Entry) (s : Slot) → 0 < length es → AllByRecursion (Fits pool) es → ((k : ℕ) → named k es ≤ 1) → RootPut pool es s (get_or es 0 no_entry).at
root_put pool [] s h f o = absurd (let z : ⊥ = omega arith in z)
root_put pool (e ∷ es) s h f o =
    let one : same_number e.at e.at ≡ 1 = one_is e.at e.at refl in
    let most : same_number e.at e.at + named e.at es ≤ 1 = o e.at in
    let none : named e.at es ≡ 0 = omega arith in
    record {
      within = f.0.within;
      fit = (fits_new pool s e.at f.0.within, fits_others pool s e.at es none f.1);
      slots_are = λ i. get_or-set_same pool e.at s blank f.0.within i ∷ slots_others pool s e.at es none i;
      named_are = λ k. refl;
    }

-- a slot goes to a free place
pub end_fits : (pool : List Slot) (es : List Entry) (s : Slot) (at : ℕ) → at < length pool → AllByRecursion (Fits pool) es → named at es ≡ 0 → AllByRecursion (Fits (set pool at s)) (es ++ entry_of s at ∷ [])
end_fits pool es s at h f n = All-append (Fits (set pool at s)) es (entry_of s at ∷ []) (fits_others pool s at es n f) (fits_new pool s at h, tt)

pub end_slots : (pool : List Slot) (es : List Entry) (s : Slot) (at : ℕ) → at < length pool → named at es ≡ 0 → slots (set pool at s) (es ++ entry_of s at ∷ []) ≡ slots pool es ++ s ∷ []
end_slots pool [] s at h n = λ i. get_or-set_same pool at s blank h i ∷ []
end_slots pool (e ∷ es) s at h n =
    let u : same_number e.at at + named at es ≡ 0 = n in
    let k : slot_of (set pool at s) e ≡ slot_of pool e = same_slot pool s at e (none_is e.at at (let z : same_number e.at at ≡ 0 = omega arith in z)) in
    λ i. k i ∷ end_slots pool es s at h (let z : named at es ≡ 0 = omega arith in z) i

pub end_named : (es : List Entry) (e : Entry) (k : ℕ) → named k (es ++ e ∷ []) ≡ same_number e.at k + named k es
end_named [] e k = refl
end_named (x ∷ es) e k =
    let h = end_named es e k in
    let z : same_number x.at k + named k (es ++ e ∷ []) ≡ same_number e.at k + (same_number x.at k + named k es) = omega arith in z

pub end_listed : (ns : List ℕ) (n k : ℕ) → listed k (ns ++ n ∷ []) ≡ same_number n k + listed k ns
end_listed [] n k = refl
end_listed (x ∷ ns) n k =
    let h = end_listed ns n k in
    let z : same_number x k + listed k (ns ++ n ∷ []) ≡ same_number n k + (same_number x k + listed k ns) = omega arith in z

summed : (es : List Entry) (k : ℕ) → sum_by (λ e. same_number e.at k) es ≡ named k es
summed [] k = refl
summed (e ∷ es) k = sum_by-cons (λ e. same_number e.at k) e es ∙ ap (λ n. same_number e.at k + n) (summed es k)

pub same_named : (es fs : List Entry) (k : ℕ) → IsPermutation es fs → named k fs ≡ named k es
same_named es fs k p = sym (summed fs k) ∙ sum_by-IsPermutation (λ e. same_number e.at k) es fs p ∙ summed es k

-- after a put for the root
pub kept_put : (pool pool' : List Slot) (es es' : List Entry) (free : List ℕ) → length pool' ≡ length pool → length es' ≡ length es → AllByRecursion (Fits pool') es' → ((k : ℕ) → named k es' ≡ named k es) → KeptSoFar pool es free → KeptSoFar pool' es' free
kept_put pool pool' es es' free w l f n k = record {
  few = omega (arith, w, k.few);
  fit = f;
  below = subst (λ m. AllByRecursion (λ n. n < m) free) (sym w) k.below;
  count = omega (arith, l, w, k.count);
  once = λ j. let a = n j in let b = k.once j in omega arith;
}

-- after a put to a free place
pub kept_end : (pool pool' : List Slot) (es es' : List Entry) (u : List ℕ) (at : ℕ) → length pool' ≡ length pool → length es' ≡ length es + 1 → AllByRecursion (Fits pool') es' → ((k : ℕ) → named k es' ≡ same_number at k + named k es)
    → KeptSoFar pool es (u ++ at ∷ []) → KeptSoFar pool' es' u
kept_end pool pool' es es' u at w l f n k = record {
  few = omega (arith, w, k.few);
  fit = f;
  below = subst (λ m. AllByRecursion (λ n. n < m) u) (sym w) (all_front (length pool) u (at ∷ []) k.below);
  count = omega (arith, l, w, k.count, length-append u (at ∷ []));
  once = λ j. let a = n j in let b = k.once j in let c = end_listed u at j in omega arith;
}
  where
    all_front : (m : ℕ) (u v : List ℕ) → AllByRecursion (λ n. n < m) (u ++ v) → AllByRecursion (λ n. n < m) u
    all_front m [] v a = tt
    all_front m (x ∷ u) v a = (a.0, all_front m u v a.1)

-- the last of the free ones stands in the pool, and no entry names it
pub free_last : (pool : List Slot) (es : List Entry) (u : List ℕ) (at : ℕ) → KeptSoFar pool es (u ++ at ∷ []) → (at < length pool) × (named at es ≡ 0)
free_last pool es u at k =
    let one : same_number at at ≡ 1 = one_is at at refl in
    let a = k.once at in
    let b = end_listed u at at in
    (last_of u k.below, omega arith)
  where
    last_of : (u : List ℕ) → AllByRecursion (λ n. n < length pool) (u ++ at ∷ []) → at < length pool
    last_of [] h = h.0
    last_of (x ∷ u) h = last_of u h.1

pub other_is : (a k : ℕ) → (a ≡ k → ⊥) → same_number a k ≡ 0
other_is a k h = grind (arith, nat_tests)

-- more slots in the pool, which no entry names
module _ (pool more : List Slot) where
  same_before : (e : Entry) → e.at < length pool → slot_of (pool ++ more) e ≡ slot_of pool e
  same_before e h = get_or_append_left pool more blank e.at h

  pub fits_more : (es : List Entry) → AllByRecursion (Fits pool) es → AllByRecursion (Fits (pool ++ more)) es
  fits_more [] a = tt
  fits_more (e ∷ es) a =
      let w = a.0.within in
      (record { within = omega (arith, length-append pool more); is = ap (λ x. entry_of x e.at) (same_before e w) ∙ a.0.is }, fits_more es a.1)

  pub slots_more : (es : List Entry) → AllByRecursion (Fits pool) es → slots (pool ++ more) es ≡ slots pool es
  slots_more [] a = refl
  slots_more (e ∷ es) a = λ i. same_before e a.0.within i ∷ slots_more es a.1 i

-- no entry names a place past the end of the pool
pub none_past : (pool : List Slot) (k : ℕ) (es : List Entry) → length pool ≤ k → AllByRecursion (Fits pool) es → named k es ≡ 0
none_past pool k [] h a = refl
none_past pool k (e ∷ es) h a =
    let w = a.0.within in
    let n : same_number e.at k ≡ 0 = other_is e.at k (λ t. let z : ⊥ = omega arith in z) in
    let m = none_past pool k es h a.1 in
    let z : same_number e.at k + named k es ≡ 0 = omega arith in z

pub none_names : (pool : List Slot) (es : List Entry) → AllByRecursion (Fits pool) es → named (length pool) es ≡ 0
none_names pool es a = none_past pool (length pool) es (omega arith) a

-- after a put to one more slot, where none is free
pub kept_more : (pool pool' : List Slot) (es es' : List Entry) → length pool' ≡ length pool + 1 → length es' ≡ length es + 1 → length es < 512 → AllByRecursion (Fits pool') es' → ((k : ℕ) → named k es' ≡ same_number (length pool) k + named k es)
    → KeptSoFar pool es [] → KeptSoFar pool' es' []
kept_more pool pool' es es' w l low f n k = record {
  few = let c = k.count in omega (arith, w, low);
  fit = f;
  below = tt;
  count = let c = k.count in omega (arith, w, l);
  once = λ j.
      let a = n j in
      let b : named j es + 0 ≤ 1 = k.once j in
      let z : named j es' + 0 ≤ 1 =
      ⊎_elim (λ (t : length pool ≡ j). let one = one_is (length pool) j t in let none : named j es ≡ 0 = subst (λ m. named m es ≡ 0) t (none_names pool es k.fit) in omega arith)
      (λ (t : length pool ≡ j → ⊥). let none = other_is (length pool) j t in omega arith) (which (length pool) j) in z;
}

all_ends : (P : Entry → Type 0) (u : List Entry) (z : Entry) → AllByRecursion P (u ++ z ∷ []) → AllByRecursion P u × P z
all_ends P [] z h = (tt, h.0)
all_ends P (x ∷ u) z h = let r = all_ends P u z h.1 in ((h.0, r.0), r.1)

pub front_fits : (pool : List Slot) (u : List Entry) (z : Entry) → AllByRecursion (Fits pool) (u ++ z ∷ []) → AllByRecursion (Fits pool) (set u 0 z)
front_fits pool [] z h = tt
front_fits pool (x ∷ u) z h = let r = all_ends (Fits pool) (x ∷ u) z h in (r.1, r.0.1)

-- after the root is dropped
pub kept_drop : (pool : List Slot) (u es' : List Entry) (z : Entry) (free : List ℕ) → 0 < length u → IsPermutation (set u 0 z) es' → KeptSoFar pool (u ++ z ∷ []) free → KeptSoFar pool es' (free ++ (get_or u 0 no_entry).at ∷ [])
kept_drop pool [] es' z free h p k = absurd (let y : ⊥ = omega arith in y)
kept_drop pool (x ∷ u) es' z free h p k =
    let l = as_long (z ∷ u) es' p in
    record {
      few = k.few;
      fit = all_shuffled (Fits pool) (z ∷ u) es' p (front_fits pool (x ∷ u) z k.fit);
      below = All-append (λ n. n < length pool) free (x.at ∷ []) k.below (k.fit.0.within, tt);
      count = omega (arith, l, k.count, length-append free (x.at ∷ []), length-append u (z ∷ []));
      once = λ j.
          let a : named j es' ≡ same_number z.at j + named j u = same_named (z ∷ u) es' j p in
          let b : (same_number x.at j + named j (u ++ z ∷ [])) + listed j free ≤ 1 = k.once j in
          let d = end_named u z j in
          let e = end_listed free x.at j in
          let f : named j es' + listed j (free ++ x.at ∷ []) ≤ 1 = omega arith in f;
    }

pub kept_last : (pool : List Slot) (z : Entry) (free : List ℕ) → KeptSoFar pool (z ∷ []) free → KeptSoFar pool [] (free ++ z.at ∷ [])
kept_last pool z free k = record {
  few = k.few;
  fit = tt;
  below = All-append (λ n. n < length pool) free (z.at ∷ []) k.below (k.fit.0.within, tt);
  count = omega (arith, k.count, length-append free (z.at ∷ []));
  once = λ j.
      let c : (same_number z.at j + 0) + listed j free ≤ 1 = k.once j in
      let e = end_listed free z.at j in
      let f : 0 + listed j (free ++ z.at ∷ []) ≤ 1 = omega arith in f;
}

-- of an empty pool nothing is named or free
pub kept_none : (pool : List Slot) (es : List Entry) (free : List ℕ) → pool ≡ [] → es ≡ [] → free ≡ [] → KeptSoFar pool es free
kept_none pool es free p e f = subst (λ l. KeptSoFar l es free) (sym p) (subst (λ l. KeptSoFar [] l free) (sym e) (subst (KeptSoFar [] []) (sym f) (record { few = omega arith; fit = tt; below = tt; count = refl; once = λ k. omega arith })))
