-- The pool filled up: what its slots are kept by.
use Rattle.std.proofs.Common.{◌≡◌, ℕ, ◌+◌, ◌-◌, ◌<◌, ◌≤◌, List, [], ◌∷◌, ◌++◌, length, replicate, zero, suc, sym, refl, subst, ⊎_elim, arith}
use Rattle.std.specs.List.{AllByRecursion, range_with_len}
use Rattle.std.proofs.ByRecursion.{All-append, All-weaker}
use Rattle.std.proofs.lemmas.Bool.{cases_lt}
use Rattle.std.proofs.lemmas.List.{length-append, length-replicate}
use Rattle.std.proofs.lemmas.List.FromFn.{length-range_with_len}
use Rattle.std_alloc.proofs.Permutation.{which}
use Rattle.slot.specs.declared.Slot.{Slot}
use Rattle.heap_calendar.specs.declared.entry.Entry.{Entry}
use Rattle.heap_calendar.specs.Entries.{blank, listed, same_number, Kept, KeptSoFar, filled, filled_free}
use Rattle.heap_calendar.proofs.Keeps.{one_is, other_is, fits_more, none_past}

-- a pool of 512 slots is full
pub kept_full : (pool : List Slot) (es : List Entry) (free : List ℕ) → length pool ≡ 512 → KeptSoFar pool es free → Kept pool es free
kept_full pool es free w k = record { wide = w; fit = k.fit; below = subst (λ m. AllByRecursion (λ n. n < m) free) w k.below; count = let c = k.count in omega (arith, w); once = k.once }

-- a full pool is one that grew: what asks for the one asks no more than what asks for the other
pub kept_so_far : (pool : List Slot) (es : List Entry) (free : List ℕ) → Kept pool es free → KeptSoFar pool es free
kept_so_far pool es free k = let w = k.wide in record { few = omega arith; fit = k.fit; below = subst (λ m. AllByRecursion (λ n. n < m) free) (sym w) k.below; count = let c = k.count in omega (arith, w); once = k.once }

listed_append : (ns ms : List ℕ) (k : ℕ) → listed k (ns ++ ms) ≡ listed k ns + listed k ms
listed_append [] ms k = omega arith
listed_append (n ∷ ns) ms k = let h = listed_append ns ms k in let z : same_number n k + listed k (ns ++ ms) ≡ (same_number n k + listed k ns) + listed k ms = omega arith in z

-- no number of a range stands before its start, and each stands in it once
not_before : (a n k : ℕ) → k < a → listed k (range_with_len a n) ≡ 0
not_before a zero k h = refl
not_before a (suc n) k h =
    let o = other_is a k (λ t. let z : ⊥ = omega arith in z) in
    let r = not_before (a + 1) n k (omega arith) in
    let z : same_number a k + listed k (range_with_len (a + 1) n) ≡ 0 = omega arith in z

most_once : (a n k : ℕ) → listed k (range_with_len a n) ≤ 1
most_once a zero k = omega arith
most_once a (suc n) k =
    let z : same_number a k + listed k (range_with_len (a + 1) n) ≤ 1 =
    ⊎_elim (λ (t : a ≡ k). let o = one_is a k t in let r = not_before (a + 1) n k (omega arith) in omega arith)
    (λ (t : a ≡ k → ⊥). let o = other_is a k t in let r = most_once (a + 1) n k in omega arith) (which a k) in z

range_below : (a n m : ℕ) → a + n ≤ m → AllByRecursion (λ k. k < m) (range_with_len a n)
range_below a zero m h = tt
range_below a (suc n) m h = (omega arith, range_below (a + 1) n m (omega arith))

none_listed : (m k : ℕ) (ns : List ℕ) → m ≤ k → AllByRecursion (λ n. n < m) ns → listed k ns ≡ 0
none_listed m k [] h a = refl
none_listed m k (n ∷ ns) h a =
    let b = a.0 in
    let o = other_is n k (λ t. let z : ⊥ = omega arith in z) in
    let r = none_listed m k ns h a.1 in
    let z : same_number n k + listed k ns ≡ 0 = omega arith in z

-- of the filled pool, each of 512 slots is named by one entry or is free
pub kept_filled : (pool : List Slot) (es : List Entry) (free : List ℕ) → KeptSoFar pool es free → Kept (filled pool) es (filled_free pool free)
kept_filled pool es free k =
    let n = length pool in
    let few : n ≤ 512 = k.few in
    record {
      wide = omega (arith, few, length-append pool (replicate (512 - n) blank), length-replicate (512 - n) blank);
      fit = fits_more pool (replicate (512 - n) blank) es k.fit;
      below = All-append (λ m. m < 512) free (range_with_len n (512 - n)) (All-weaker (λ m. m < n) (λ m. m < 512) (λ m h. omega (arith, h, few)) free k.below) (range_below n (512 - n) 512 (omega arith));
      count = let c = k.count in omega (arith, few, length-append free (range_with_len n (512 - n)), length-range_with_len n (512 - n));
      once = λ j.
          let a = listed_append free (range_with_len n (512 - n)) j in
          let o = k.once j in
          ⊎_elim (λ (t : j < n). let b = not_before n (512 - n) j t in omega arith)
          (λ (t : n ≤ j). let b = none_past pool j es t k.fit in let d = none_listed n j free t k.below in let e = most_once n (512 - n) j in omega arith) (cases_lt j n);
    }
