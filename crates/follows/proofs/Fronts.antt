-- The messages with the smallest key stand in front of all others.
use Rattle.std.proofs.Common.{◌≡◌, true, false, ◌⊎◌, List, [], ◌∷◌, ◌++◌, sym, refl, ap, ◌∙◌, subst, inl, inr, length, Some, take, drop}
use Rattle.std.specs.List.{AllByRecursion}
use Rattle.std.proofs.ByRecursion.{All-weaker}
use Rattle.std.proofs.lemmas.Bool.{cases_Bool, both_ways, false_from_ne_true, true_from_ne_false}
use Rattle.std.proofs.lemmas.Option.{none-some}
use Rattle.std.proofs.Math.Seq.{take-append_seam, drop-append_seam}
use Rattle.event.specs.declared.Key.{Key}
use Rattle.event.specs.Keys.{before, same}
use Rattle.event.specs.Lists.{Sorted}
use Rattle.event.proofs.Orders.{apart, before_ne, never, same_from, same_true, through}
use Rattle.calendar.specs.declared.Held.{Held}
use Rattle.calendar.specs.Calls.{key_of_held, leading}
use Rattle.account.proofs.Step.{some_is}
use Rattle.follows.specs.Steps.{with_key, without_key, head_key}
use Rattle.follows.specs.Rooms.{FrontTaken}

module _ (k : Key) where
  -- none that comes after has the key
  after : (xs : List Held) → AllByRecursion (λ y. before k (key_of_held y) ≡ true) xs → (with_key k xs ≡ []) × (without_key k xs ≡ xs)
  after [] a = (refl, refl)
  after (x ∷ xs) a = let e = false_from_ne_true (same k (key_of_held x)) (λ t. before_ne k (key_of_held x) a.0 (same_true k (key_of_held x) t)) in let r = after xs a.1 in (simp e r.0, simp e (ap (λ l. x ∷ l) r.1))

  front : (xs : List Held) → Sorted key_of_held xs → AllByRecursion (λ y. before (key_of_held y) k ≡ false) xs → xs ≡ with_key k xs ++ without_key k xs
  front [] s a = refl
  front (x ∷ xs) s a = go (cases_Bool (same k (key_of_held x))) (front xs s.1 a.1)
    where
      go : (same k (key_of_held x) ≡ true) ⊎ (same k (key_of_held x) ≡ false) → xs ≡ with_key k xs ++ without_key k xs → x ∷ xs ≡ with_key k (x ∷ xs) ++ without_key k (x ∷ xs)
      go (inl e) ih = simp e (ap (λ l. x ∷ l) ih)
      go (inr e) ih =
          let b : before k (key_of_held x) ≡ true = true_from_ne_false _ (λ t. both_ways (same k (key_of_held x)) e (same_from k (key_of_held x) (sym (apart (key_of_held x) k a.0 t)))) in
          let r = after (x ∷ xs) (b, All-weaker (λ y. before (key_of_held y) (key_of_held x) ≡ false) (λ y. before k (key_of_held y) ≡ true) (λ y c. through k (key_of_held x) (key_of_held y) b c) xs s.0) in
          sym (ap (λ l. l ++ without_key k (x ∷ xs)) r.0 ∙ r.1)

module _ (k : Key) where
  -- those with the key of the first are those that lead
  pub leading_with_key : (held : List Held) → head_key held ≡ Some k → with_key k held ≡ leading held
  leading_with_key [] e = absurd (none-some k e)
  leading_with_key (x ∷ xs) e = ap (λ j. with_key j (x ∷ xs)) (sym (some_is (key_of_held x) k e))

  ahead : (xs : List Held) → Sorted key_of_held xs → head_key xs ≡ Some k → xs ≡ with_key k xs ++ without_key k xs
  ahead [] s e = refl
  ahead (x ∷ xs) s e = subst (λ j. x ∷ xs ≡ with_key j (x ∷ xs) ++ without_key j (x ∷ xs)) (some_is (key_of_held x) k e) (front (key_of_held x) (x ∷ xs) s (never (key_of_held x), s.0))

  -- as many as there are of them, taken in turn, are they
  pub take_heads : (xs : List Held) → Sorted key_of_held xs → head_key xs ≡ Some k → take (length (with_key k xs)) xs ≡ with_key k xs
  take_heads xs s e = ap (take (length (with_key k xs))) (ahead xs s e) ∙ take-append_seam (with_key k xs) (without_key k xs)

  -- and the others are left
  pub drop_heads : (xs : List Held) → Sorted key_of_held xs → head_key xs ≡ Some k → drop (length (with_key k xs)) xs ≡ without_key k xs
  drop_heads xs s e = ap (drop (length (with_key k xs))) (ahead xs s e) ∙ drop-append_seam (with_key k xs) (without_key k xs)

pub front_taken : FrontTaken
front_taken x xs s = front (key_of_held x) (x ∷ xs) s (never (key_of_held x), s.0)
