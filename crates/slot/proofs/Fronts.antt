-- Those with the smallest key, one after the other.
use Rattle.std.proofs.Common.{◌≡◌, ℕ, zero, suc, ◌+◌, ◌-◌, ◌<◌, ◌≤◌, true, cond, List, [], ◌∷◌, ◌++◌, take, filter, Some, None, sym, refl, ap, ◌∙◌, subst, add-one, arith}
use Rattle.std.specs.List.{slice_get}
use Rattle.std.specs.Option.{option_map}
use Rattle.std.proofs.ByRecursion.{kept_by_passes}
use Rattle.std.proofs.lemmas.Option.{none-some, same_Some}
use Rattle.event.specs.Keys.{same}
use Rattle.event.specs.Lists.{first as head}
use Rattle.event.proofs.Orders.{same_true, same_refl}
use Rattle.calendar.specs.Calls.{leading}
use Rattle.slot.specs.Rank.{ranked}
use Rattle.slot.specs.declared.Slot.{Slot}
use Rattle.slot.specs.Slots.{key_of_slot, earlier, steady, bare, bares, in_order}
use Rattle.slot.specs.Laws.{strictly}
use Rattle.slot.specs.Passes.{admits, likewise, leading_slots}
use Rattle.slot.proofs.Picks.{all_at}
use Rattle.slot.proofs.Nths.{nth_next}
use Rattle.slot.proofs.Ranks.{ranked_rising}
use Rattle.slot.proofs.Looks.{alike_front, none_sooner}
use Rattle.slot.proofs.Holds.{looks}

-- number n goes behind those before it
pub one_more : {X : Type 0} (l : List X) (n : ℕ) (x : X) → slice_get l n ≡ Some x → take (n + 1) l ≡ take n l ++ x ∷ []
one_more l n x e = ap (λ m. take m l) (add-one n) ∙ next l n e
  where
    next : {X : Type 0} {x : X} (l : List X) (n : ℕ) → slice_get l n ≡ Some x → take (suc n) l ≡ take n l ++ x ∷ []
    next [] n e = absurd (none-some _ e)
    next (y ∷ l) zero e = ap (λ z. z ∷ []) (same_Some y _ e)
    next (y ∷ l) (suc n) e = ap (λ r. y ∷ r) (next l n e)

-- where there is no number n, the first n are all
pub no_more : {X : Type 0} (l : List X) (n m : ℕ) → slice_get l n ≡ None → n ≤ m → take m l ≡ take n l
no_more [] zero zero e h = refl
no_more [] zero (suc m) e h = refl
no_more [] (suc n) zero e h = refl
no_more [] (suc n) (suc m) e h = refl
no_more (x ∷ l) zero m e h = absurd (none-some x (sym e))
no_more (x ∷ l) (suc n) zero e h = absurd (let z : ⊥ = omega arith in z)
no_more (x ∷ l) (suc n) (suc m) e h = ap (λ r. x ∷ r) (no_more l n m e (let z : n ≤ m = omega arith in z))

-- the slots with the first one's key hold the messages with the smallest key
pub fronts_hold : (xs : List Slot) (i : ℕ) → option_map bare (slice_get (leading_slots (ranked earlier xs)) i) ≡ slice_get (leading (in_order xs)) i
fronts_hold xs i = go (ranked earlier xs) refl
  where
    go : (l : List Slot) → ranked earlier xs ≡ l → option_map bare (slice_get (leading_slots (ranked earlier xs)) i) ≡ slice_get (leading (in_order xs)) i
    go [] e = subst (λ l. option_map bare (slice_get (leading_slots l) i) ≡ slice_get (leading (bares l)) i) (sym e) refl
    go (x ∷ l) e = ap (λ r. option_map bare (slice_get (leading_slots r) i)) e ∙ ap (λ r. option_map bare (slice_get (filter (λ s. same (key_of_slot x) (key_of_slot s)) r) i)) (sym e) ∙ looks xs x l i e

-- the first is one of them
pub front_first : (l : List Slot) → slice_get (leading_slots l) 0 ≡ slice_get l 0
front_first [] = refl
front_first (x ∷ l) = let k = key_of_slot x in let p = λ (s : Slot). same k (key_of_slot s) in ap (λ b. slice_get (cond b (x ∷ filter p l) (filter p l)) 0) (same_refl k)

-- a slot with the first one's key stands for it
pub fronts_of : (l : List Slot) (j : ℕ) (y : Slot) → slice_get (leading_slots l) j ≡ Some y → leading_slots l ≡ filter (λ s. same (key_of_slot y) (key_of_slot s)) l
fronts_of [] j y e = absurd (none-some y e)
fronts_of (x ∷ l) j y e =
    let p = λ (s : Slot). same (key_of_slot x) (key_of_slot s) in
    let a : same (key_of_slot x) (key_of_slot y) ≡ true = all_at (λ s. p s ≡ true) (filter p (x ∷ l)) j y (kept_by_passes p (x ∷ l)) e in
    ap (λ k. filter (λ s. same k (key_of_slot s)) (x ∷ l)) (same_true (key_of_slot x) (key_of_slot y) a)

-- number i in order, if it has the key of one of them, is number i of them
pub next_front : (xs : List Slot) (i j : ℕ) (y : Slot) → slice_get (leading_slots (ranked earlier xs)) j ≡ Some y → likewise (key_of_slot y) (slice_get (ranked earlier xs) i) ≡ slice_get (leading_slots (ranked earlier xs)) i
next_front xs i j y e = go (ranked earlier xs) refl
  where
    go : (l : List Slot) → ranked earlier xs ≡ l → likewise (key_of_slot y) (slice_get (ranked earlier xs) i) ≡ slice_get (leading_slots (ranked earlier xs)) i
    go [] f = absurd (none-some y (subst (λ l. slice_get (leading_slots l) j ≡ Some y) f e))
    go (x ∷ l) f =
        let p = λ (s : Slot). same (key_of_slot x) (key_of_slot s) in
        let t : slice_get (filter p (x ∷ l)) j ≡ Some y = subst (λ l. slice_get (leading_slots l) j ≡ Some y) f e in
        let k : key_of_slot x ≡ key_of_slot y = same_true (key_of_slot x) (key_of_slot y) (all_at (λ s. p s ≡ true) (filter p (x ∷ l)) j y (kept_by_passes p (x ∷ l)) t) in
        ap (λ k. likewise k (slice_get (ranked earlier xs) i)) (sym k) ∙ alike_front (key_of_slot x) (ranked earlier xs) i (ranked_rising earlier strictly xs) (none_sooner xs x l f)
        ∙ ap (λ r. slice_get (filter p r) i) f ∙ sym (ap (λ r. slice_get (leading_slots r) i) f)

-- the first of them that comes after number i - 1 is number i
pub front_after : (xs : List Slot) (i : ℕ) (y : Slot) → 0 < i → steady (ranked earlier xs) ≡ true → slice_get (leading_slots (ranked earlier xs)) (i - 1) ≡ Some y
    → head (filter (admits (λ s. same (key_of_slot y) (key_of_slot s)) (Some y)) (ranked earlier xs)) ≡ slice_get (leading_slots (ranked earlier xs)) i
front_after xs zero y h s e = absurd (let z : ⊥ = omega arith in z)
front_after xs (suc i) y h s e' =
    let n : suc i - 1 ≡ i = omega arith in
    let e = sym (ap (slice_get (leading_slots (ranked earlier xs))) n) ∙ e' in
    let p = λ (s : Slot). same (key_of_slot y) (key_of_slot s) in
    let l = ranked earlier xs in
    let f = fronts_of l i y e in
    nth_next p xs i y s (sym e ∙ ap (λ r. slice_get r i) f) ∙ ap (slice_get (filter p l)) (add-one i) ∙ sym (ap (λ r. slice_get r (suc i)) f)
