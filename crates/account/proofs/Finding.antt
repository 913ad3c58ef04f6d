-- A message found by its key.
use Rattle.std.proofs.Common.{◌≡◌, true, false, cond, ◌⊎◌, List, [], ◌∷◌, Some, None, Option, sym, refl, ap, ◌∙◌, subst, inl, inr}
use Rattle.std.specs.List.{AllByRecursion}
use Rattle.std.proofs.ByRecursion.{All-weaker}
use Rattle.std.proofs.lemmas.Bool.{cases_Bool, both_ways, cond-true, cond-false}
use Rattle.event.specs.declared.Message.{Message}
use Rattle.event.specs.declared.Key.{Key}
use Rattle.event.specs.Keys.{key_of, before, same}
use Rattle.event.specs.Lists.{insert, first, rest, Rising}
use Rattle.account.specs.Finds.{find}
use Rattle.std.proofs.lemmas.Option.{none-some}
use Rattle.event.proofs.Orders.{same_true, same_from, same_not, before_ne}

pub find_key : (k : Key) (xs : List Message) (m : Message) → find k xs ≡ Some m → key_of m ≡ k
find_key k [] m e = absurd (none-some m e)
find_key k (x ∷ xs) m e = go (cases_Bool (same k (key_of x))) (find_key k xs m)
  where
    go : (same k (key_of x) ≡ true) ⊎ (same k (key_of x) ≡ false) → (find k xs ≡ Some m → key_of m ≡ k) → key_of m ≡ k
    go (inl t) ih = let f : ◌≡◌ {A = Option Message} (Some x) (Some m) = sym (cond-true (same k (key_of x)) (Some x) (find k xs) t) ∙ e in let g : x ≡ m = cc in ap key_of (sym g) ∙ sym (same_true k (key_of x) t)
    go (inr t) ih = ih (sym (cond-false (same k (key_of x)) (Some x) (find k xs) t) ∙ e)

pub all_find : (P : Message → Type 0) (k : Key) (xs : List Message) (m : Message) → AllByRecursion P xs → find k xs ≡ Some m → P m
all_find P k [] m h e = absurd (none-some m e)
all_find P k (x ∷ xs) m h e = go (cases_Bool (same k (key_of x))) (all_find P k xs m h.1)
  where
    go : (same k (key_of x) ≡ true) ⊎ (same k (key_of x) ≡ false) → (find k xs ≡ Some m → P m) → P m
    go (inl t) ih = let f : ◌≡◌ {A = Option Message} (Some x) (Some m) = sym (cond-true (same k (key_of x)) (Some x) (find k xs) t) ∙ e in let g : x ≡ m = cc in subst P g h.0
    go (inr t) ih = ih (sym (cond-false (same k (key_of x)) (Some x) (find k xs) t) ∙ e)

-- no element has the key
pub find_none : (k : Key) (xs : List Message) → AllByRecursion (λ m. key_of m ≡ k → ⊥) xs → find k xs ≡ None
find_none k [] h = refl
find_none k (x ∷ xs) h = cond-false (same k (key_of x)) (Some x) (find k xs) (same_not k (key_of x) (λ e. h.0 (sym e))) ∙ find_none k xs h.1

pub find_insert : (k : Key) (m : Message) (xs : List Message) → find (key_of m) xs ≡ None → find k (insert key_of m xs) ≡ cond (same k (key_of m)) (Some m) (find k xs)
find_insert k m [] h = refl
find_insert k m (x ∷ xs) h = go (cases_Bool (before (key_of m) (key_of x))) (cases_Bool (same (key_of m) (key_of x))) (find_insert k m xs)
  where
    go : (before (key_of m) (key_of x) ≡ true) ⊎ (before (key_of m) (key_of x) ≡ false) → (same (key_of m) (key_of x) ≡ true) ⊎ (same (key_of m) (key_of x) ≡ false)
        → (find (key_of m) xs ≡ None → find k (insert key_of m xs) ≡ cond (same k (key_of m)) (Some m) (find k xs))
        → find k (insert key_of m (x ∷ xs)) ≡ cond (same k (key_of m)) (Some m) (find k (x ∷ xs))
    go (inl b) s ih = simp b
    go (inr b) (inl s) ih = absurd (none-some x (sym h ∙ cond-true (same (key_of m) (key_of x)) (Some x) (find (key_of m) xs) s))
    go (inr b) (inr s) ih =
        let f = ih (sym (cond-false (same (key_of m) (key_of x)) (Some x) (find (key_of m) xs) s) ∙ h) in
        simp (b, f) (last (cases_Bool (same k (key_of m))) (cases_Bool (same k (key_of x))))
      where
        last : (same k (key_of m) ≡ true) ⊎ (same k (key_of m) ≡ false) → (same k (key_of x) ≡ true) ⊎ (same k (key_of x) ≡ false)
            → cond (same k (key_of x)) (Some x) (cond (same k (key_of m)) (Some m) (find k xs)) ≡ cond (same k (key_of m)) (Some m) (cond (same k (key_of x)) (Some x) (find k xs))
        last (inl p) (inl q) = absurd (both_ways (same (key_of m) (key_of x)) s (same_from (key_of m) (key_of x) (sym (same_true k (key_of m) p) ∙ same_true k (key_of x) q)))
        last (inl p) (inr q) = simp (p, q)
        last (inr p) q = simp p

pub first_find : (xs : List Message) (m : Message) → first xs ≡ Some m → find (key_of m) xs ≡ Some m
first_find [] m e = absurd (none-some m e)
first_find (x ∷ xs) m e = let g : x ≡ m = cc in cond-true (same (key_of m) (key_of x)) (Some x) (find (key_of m) xs) (same_from (key_of m) (key_of x) (ap key_of (sym g))) ∙ e

pub find_rest : (k : Key) (xs : List Message) (m : Message) → Rising key_of xs → first xs ≡ Some m → find k (rest xs) ≡ cond (same k (key_of m)) None (find k xs)
find_rest k [] m h e = absurd (none-some m e)
find_rest k (x ∷ xs) m h e = let g : x ≡ m = cc in subst (λ y. find k xs ≡ cond (same k (key_of y)) None (find k (x ∷ xs))) g (go (cases_Bool (same k (key_of x))))
  where
    go : (same k (key_of x) ≡ true) ⊎ (same k (key_of x) ≡ false) → find k xs ≡ cond (same k (key_of x)) None (cond (same k (key_of x)) (Some x) (find k xs))
    go (inl t) = simp t (find_none k xs (All-weaker (λ y. before (key_of x) (key_of y) ≡ true) (λ y. key_of y ≡ k → ⊥) (λ y b d. before_ne (key_of x) (key_of y) b (sym (same_true k (key_of x) t) ∙ sym d)) xs h.0))
    go (inr t) = simp t

-- a key that no first one comes before is found at the front
pub find_first : (k : Key) (xs : List Message) (m : Message) → Rising key_of xs → find k xs ≡ Some m → ((x : Message) → first xs ≡ Some x → before (key_of x) k ≡ false) → first xs ≡ Some m
find_first k [] m h e l = e
find_first k (x ∷ xs) m h e l = go (cases_Bool (same k (key_of x)))
  where
    go : (same k (key_of x) ≡ true) ⊎ (same k (key_of x) ≡ false) → Some x ≡ Some m
    go (inl t) = sym (cond-true (same k (key_of x)) (Some x) (find k xs) t) ∙ e
    go (inr t) =
        let f : find k xs ≡ Some m = sym (cond-false (same k (key_of x)) (Some x) (find k xs) t) ∙ e in
        let b = all_find (λ y. before (key_of x) (key_of y) ≡ true) k xs m h.0 f in
        absurd (both_ways (before (key_of x) k) (l x refl) (subst (λ j. before (key_of x) j ≡ true) (find_key k xs m f) b))
