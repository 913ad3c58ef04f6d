-- Those with the first one's key are the front, in order.
use Rattle.std.proofs.Common.{◌≡◌, ℕ, zero, suc, true, false, cond, ◌⊎◌, List, [], ◌∷◌, None, Option, filter, sym, refl, ap, ◌∙◌, subst, inl, inr, ⊎_elim}
use Rattle.std.specs.List.{AllByRecursion, slice_get}
use Rattle.std.specs.Option.{option_map}
use Rattle.std.proofs.ByRecursion.{All-weaker}
use Rattle.std.proofs.lemmas.Bool.{cases_Bool, both_ways}
use Rattle.event.specs.declared.Key.{Key}
use Rattle.event.specs.Keys.{before, same}
use Rattle.event.proofs.Orders.{apart, same_from, same_not}
use Rattle.calendar.specs.Calls.{leading}
use Rattle.slot.specs.Rank.{ranked, Rising}
use Rattle.slot.specs.declared.Slot.{Slot}
use Rattle.slot.specs.Slots.{key_of_slot, earlier, bare, in_order}
use Rattle.slot.specs.Laws.{strictly, not_before}
use Rattle.slot.proofs.Picks.{never_self}
use Rattle.slot.specs.Passes.{likewise}
use Rattle.slot.proofs.Holds.{looks}
use Rattle.slot.proofs.Ranks.{ranked_rising}

-- another key that does not come before comes after, and so do those behind it
other_after : (x y : Key) → same x y ≡ false → before y x ≡ false → before x y ≡ true
other_after x y h k = ⊎_elim (λ (e : before x y ≡ true). e) (λ (e : before x y ≡ false). absurd (both_ways (same x y) h (same_from x y (apart x y e k)))) (cases_Bool (before x y))

after_other : (x y z : Key) → before x y ≡ true → before z y ≡ false → same x z ≡ false
after_other x y z h k = same_not x z (λ e. both_ways (before z y) k (subst (λ w. before w y ≡ true) e h))

-- once another key comes, none is the same
none_alike : (k m : Key) (l : List Slot) → before k m ≡ true → AllByRecursion (λ z. before (key_of_slot z) m ≡ false) l → (i : ℕ) → likewise k (slice_get l i) ≡ None
none_alike k m [] h a i = refl
none_alike k m (z ∷ l) h a zero = simp (after_other k m (key_of_slot z) h a.0)
none_alike k m (z ∷ l) h a (suc i) = none_alike k m l h a.1 i

none_kept : (k m : Key) (l : List Slot) → before k m ≡ true → AllByRecursion (λ z. before (key_of_slot z) m ≡ false) l → filter (λ z. same k (key_of_slot z)) l ≡ []
none_kept k m [] h a = refl
none_kept k m (z ∷ l) h a = ap (λ b. cond b (z ∷ filter (λ z. same k (key_of_slot z)) l) (filter (λ z. same k (key_of_slot z)) l)) (after_other k m (key_of_slot z) h a.0) ∙ none_kept k m l h a.1

-- in order, those with the smallest key come first
pub alike_front : (k : Key) (l : List Slot) (i : ℕ) → Rising earlier l → AllByRecursion (λ z. before (key_of_slot z) k ≡ false) l → likewise k (slice_get l i) ≡ slice_get (filter (λ z. same k (key_of_slot z)) l) i
alike_front k [] i r a = refl
alike_front k (y ∷ l) i r a = go i (cases_Bool (same k (key_of_slot y))) (λ j. alike_front k l j r.1 a.1)
  where
    later : AllByRecursion (λ z. before (key_of_slot z) (key_of_slot y) ≡ false) l
    later = All-weaker (λ z. earlier z y ≡ false) (λ z. before (key_of_slot z) (key_of_slot y) ≡ false) (λ z e. not_before z y e) l r.0

    none_by : (j : ℕ) → same k (key_of_slot y) ≡ false → before k (key_of_slot y) ≡ true → likewise k (slice_get (y ∷ l) j) ≡ None
    none_by zero e f = simp e
    none_by (suc j) e f = none_alike k (key_of_slot y) l f later j

    go : (j : ℕ) → (same k (key_of_slot y) ≡ true) ⊎ (same k (key_of_slot y) ≡ false) → ((j : ℕ) → likewise k (slice_get l j) ≡ slice_get (filter (λ z. same k (key_of_slot z)) l) j) → likewise k (slice_get (y ∷ l) j) ≡ slice_get (filter (λ z. same k (key_of_slot z)) (y ∷ l)) j
    go zero (inl e) ih = simp e
    go (suc j) (inl e) ih = ih j ∙ sym (ap (λ b. slice_get (cond b (y ∷ filter (λ z. same k (key_of_slot z)) l) (filter (λ z. same k (key_of_slot z)) l)) (suc j)) e)
    go j (inr e) ih =
        let f = other_after k (key_of_slot y) e a.0 in
        none_by j e f ∙ sym (ap (λ t. slice_get t j) (ap (λ b. cond b (y ∷ filter (λ z. same k (key_of_slot z)) l) (filter (λ z. same k (key_of_slot z)) l)) e ∙ none_kept k (key_of_slot y) l f later))

-- none comes before the first
pub none_sooner : (xs : List Slot) (x : Slot) (l : List Slot) → ranked earlier xs ≡ x ∷ l → AllByRecursion (λ z. before (key_of_slot z) (key_of_slot x) ≡ false) (ranked earlier xs)
none_sooner xs x l f =
    let w : Rising earlier (x ∷ l) = subst (Rising earlier) f (ranked_rising earlier strictly xs) in
    let a : AllByRecursion (λ z. earlier z x ≡ false) (ranked earlier xs) = subst (AllByRecursion (λ z. earlier z x ≡ false)) (sym f) (never_self earlier strictly x, w.0) in
    All-weaker (λ z. earlier z x ≡ false) (λ z. before (key_of_slot z) (key_of_slot x) ≡ false) (λ z h. not_before z x h) (ranked earlier xs) a

-- number i in order, if it has the first one's key, is number i of those with that key
pub look_at : (xs : List Slot) (x : Slot) (l : List Slot) (i : ℕ) (o : Option Slot) → ranked earlier xs ≡ x ∷ l → o ≡ slice_get (ranked earlier xs) i → option_map bare (likewise (key_of_slot x) o) ≡ slice_get (leading (in_order xs)) i
look_at xs x l i o f e =
    ap (λ u. option_map bare (likewise (key_of_slot x) u)) e ∙ ap (option_map bare) (alike_front (key_of_slot x) (ranked earlier xs) i (ranked_rising earlier strictly xs) (none_sooner xs x l f)) ∙ looks xs x l i f
