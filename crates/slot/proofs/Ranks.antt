-- Insertion in a strict order: the same list however its elements come.
use Rattle.std.proofs.Common.{◌≡◌, ℕ, zero, suc, ◌<◌, Bool, true, false, ◌⊎◌, List, [], ◌∷◌, length, get_or, set, sym, refl, ap, ◌∙◌, inl, inr, ⊎_elim, arith}
use Rattle.std.specs.List.{AllByRecursion, swap}
use Rattle.std.specs.List.Sorted.{IsPermutation}
use Rattle.std.proofs.ByRecursion.{All-weaker}
use Rattle.std.proofs.lemmas.List.Sorted.{IsPermutation-keeps}
use Rattle.std.proofs.lemmas.Bool.{cases_Bool, both_ways, cond_both}
use Rattle.slot.specs.Rank.{ins, ranked, Strict, Rising}

module _ {X : Type 0} (lt : X → X → Bool) (o : Strict lt) where
  -- two insertions commute
  pub ins_comm : (x y : X) (l : List X) → ins lt x (ins lt y l) ≡ ins lt y (ins lt x l)
  ins_comm x y [] = go (cases_Bool (lt x y)) (cases_Bool (lt y x))
    where
      go : (lt x y ≡ true) ⊎ (lt x y ≡ false) → (lt y x ≡ true) ⊎ (lt y x ≡ false) → ins lt x (y ∷ []) ≡ ins lt y (x ∷ [])
      go (inl a) (inl b) = absurd (both_ways (lt y x) (o.one_way x y a) b)
      go (inl a) (inr b) = simp (a, b)
      go (inr a) (inl b) = simp (a, b)
      go (inr a) (inr b) = let e = o.apart x y a b in simp (a, b) (ap (λ u. u ∷ x ∷ []) (sym e) ∙ ap (λ u. x ∷ u ∷ []) e)
  ins_comm x y (z ∷ l) = go (cases_Bool (lt x y)) (cases_Bool (lt y x)) (cases_Bool (lt x z)) (cases_Bool (lt y z)) (ins_comm x y l)
    where
      go : (lt x y ≡ true) ⊎ (lt x y ≡ false) → (lt y x ≡ true) ⊎ (lt y x ≡ false) → (lt x z ≡ true) ⊎ (lt x z ≡ false) → (lt y z ≡ true) ⊎ (lt y z ≡ false)
          → ins lt x (ins lt y l) ≡ ins lt y (ins lt x l) → ins lt x (ins lt y (z ∷ l)) ≡ ins lt y (ins lt x (z ∷ l))
      go (inl a) (inl b) xz yz ih = absurd (both_ways (lt y x) (o.one_way x y a) b)
      go (inr a) (inr b) xz yz ih = let e = o.apart x y a b in ap (λ u. ins lt x (ins lt u (z ∷ l))) (sym e) ∙ ap (λ u. ins lt u (ins lt x (z ∷ l))) e
      go (inl a) (inr b) (inl p) (inl q) ih = simp (p, q, a, b)
      go (inl a) (inr b) (inl p) (inr q) ih = simp (p, q, a, b)
      go (inl a) (inr b) (inr p) (inl q) ih = absurd (both_ways (lt x z) p (o.chain x y z a q))
      go (inl a) (inr b) (inr p) (inr q) ih = simp (p, q) (ap (λ t. z ∷ t) ih)
      go (inr a) (inl b) (inl p) (inl q) ih = simp (p, q, a, b)
      go (inr a) (inl b) (inl p) (inr q) ih = absurd (both_ways (lt y z) q (o.chain y x z b p))
      go (inr a) (inl b) (inr p) (inl q) ih = simp (p, q, a, b)
      go (inr a) (inl b) (inr p) (inr q) ih = simp (p, q) (ap (λ t. z ∷ t) ih)

  -- an element of a list, moved to its front
  ranked_set : (x : X) (l : List X) (i : ℕ) (d : X) → i < length l → ins lt (get_or l i d) (ranked lt (set l i x)) ≡ ins lt x (ranked lt l)
  ranked_set x [] i d h = absurd (let z : ⊥ = omega arith in z)
  ranked_set x (y ∷ l) zero d h = ins_comm y x (ranked lt l)
  ranked_set x (y ∷ l) (suc i) d h =
      ins_comm (get_or l i d) y (ranked lt (set l i x)) ∙ ap (ins lt y) (ranked_set x l i d (let k : i < length l = omega arith in k)) ∙ ins_comm y x (ranked lt l)

  -- an exchange leaves the ranked list as it was
  exchange_at : (l : List X) (i j : ℕ) (d : X) → i < length l → j < length l → ranked lt (set (set l i (get_or l j d)) j (get_or l i d)) ≡ ranked lt l
  exchange_at [] i j d h k = refl
  exchange_at (x ∷ l) zero zero d h k = refl
  exchange_at (x ∷ l) zero (suc j) d h k = ranked_set x l j d (let b : j < length l = omega arith in b)
  exchange_at (x ∷ l) (suc i) zero d h k = ranked_set x l i d (let b : i < length l = omega arith in b)
  exchange_at (x ∷ l) (suc i) (suc j) d h k = ap (ins lt x) (exchange_at l i j d (let b : i < length l = omega arith in b) (let b : j < length l = omega arith in b))

  pub ranked_exchange : (l : List X) (i j : ℕ) → i < length l → j < length l → ranked lt (swap l i j) ≡ ranked lt l
  ranked_exchange [] i j h k = refl
  ranked_exchange (x ∷ l) i j h k = exchange_at (x ∷ l) i j x h k

  pub ranked_shuffled : (xs ys : List X) → IsPermutation xs ys → ranked lt ys ≡ ranked lt xs
  ranked_shuffled xs ys h = IsPermutation-keeps xs (λ l. ranked lt l ≡ ranked lt xs) refl (λ l i j a b e. ranked_exchange l i j a b ∙ e) ys h

  -- what comes before no other goes first
  pub ins_front : (x : X) (l : List X) → AllByRecursion (λ y. lt y x ≡ false) l → ins lt x l ≡ x ∷ l
  ins_front x [] h = refl
  ins_front x (y ∷ l) h =
      ⊎_elim (λ (a : lt x y ≡ true). simp a) (λ (a : lt x y ≡ false). let e = o.apart x y a h.0 in simp a (ap (λ t. y ∷ t) (ins_front x l h.1) ∙ ap (λ u. u ∷ x ∷ l) (sym e) ∙ ap (λ u. x ∷ u ∷ l) e)) (cases_Bool (lt x y))

  pub all_ins : (P : X → Type 0) (x : X) (l : List X) → P x → AllByRecursion P l → AllByRecursion P (ins lt x l)
  all_ins P x [] p h = (p, tt)
  all_ins P x (y ∷ l) p h = cond_both (lt x y) (x ∷ y ∷ l) (y ∷ ins lt x l) (AllByRecursion P) (λ _. (p, h)) (λ _. (h.0, all_ins P x l p h.1))

  pub all_ranked : (P : X → Type 0) (l : List X) → AllByRecursion P l → AllByRecursion P (ranked lt l)
  all_ranked P [] h = tt
  all_ranked P (x ∷ l) h = all_ins P x (ranked lt l) h.0 (all_ranked P l h.1)

  under : (x y z : X) → lt x y ≡ true → lt z y ≡ false → lt z x ≡ false
  under x y z a b = ⊎_elim (λ (h : lt z x ≡ true). absurd (both_ways (lt z y) b (o.chain z x y h a))) (λ h. h) (cases_Bool (lt z x))

  pub ins_rising : (x : X) (l : List X) → Rising lt l → Rising lt (ins lt x l)
  ins_rising x [] h = (tt, tt)
  ins_rising x (y ∷ l) h =
      cond_both (lt x y) (x ∷ y ∷ l) (y ∷ ins lt x l) (Rising lt)
      (λ a. ((o.one_way x y a, All-weaker (λ z. lt z y ≡ false) (λ z. lt z x ≡ false) (λ z b. under x y z a b) l h.0), h))
      (λ a. (all_ins (λ z. lt z y ≡ false) x l a h.0, ins_rising x l h.1))

  pub ranked_rising : (l : List X) → Rising lt (ranked lt l)
  ranked_rising [] = tt
  ranked_rising (x ∷ l) = ins_rising x (ranked lt l) (ranked_rising l)

  length_ins : (x : X) (l : List X) → length (ins lt x l) ≡ suc (length l)
  length_ins x [] = refl
  length_ins x (y ∷ l) = cond_both (lt x y) (x ∷ y ∷ l) (y ∷ ins lt x l) (λ t. length t ≡ suc (suc (length l))) (λ _. refl) (λ _. ap suc (length_ins x l))

  pub length_ranked : (l : List X) → length (ranked lt l) ≡ length l
  length_ranked [] = refl
  length_ranked (x ∷ l) = length_ins x (ranked lt l) ∙ ap suc (length_ranked l)
