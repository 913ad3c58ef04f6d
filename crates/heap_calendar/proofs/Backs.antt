-- Putting what is made of a list in order in again, one by one.
use Rattle.std.proofs.Common.{◌≡◌, ℕ, ◌+◌, ◌<◌, Bool, true, false, List, [], ◌∷◌, ◌++◌, length, get_or, take, map, filter, Some, None, Option, sym, refl, ap, ◌∙◌, append-nil, subst, ⊎_elim}
use Rattle.std.specs.List.{AllByRecursion, filter_map, cons_option}
use Rattle.std.specs.Bool.{then_some}
use Rattle.std.specs.Prelude.{IfSome}
use Rattle.std.proofs.lemmas.Bool.{cases_Bool}
use Rattle.std.proofs.lemmas.List.{take_more}
use Rattle.std.proofs.lemmas.List.Elements.{filter_map-append}
use Rattle.event.specs.Keys.{before}
use Rattle.event.specs.Lists.{insert, Sorted}
use Rattle.calendar.specs.declared.Held.{Held}
use Rattle.calendar.specs.Calls.{key_of_held}
use Rattle.slot.proofs.Holds.{insert_last, sorted_front}
use Rattle.heap_calendar.specs.Changes.{KeepsKeys}

module _ (g : Held → Option Held) (e : KeepsKeys g) where
  -- what is made of x goes behind what is made of those before it
  behind_all : (x y : Held) → key_of_held y ≡ key_of_held x → (l : List Held) → AllByRecursion (λ z. before (key_of_held x) (key_of_held z) ≡ false) l → AllByRecursion (λ z. before (key_of_held y) (key_of_held z) ≡ false) (filter_map g l)
  behind_all x y k [] h = tt
  behind_all x y k (z ∷ l) h = one (g z) (e z) (behind_all x y k l h.1)
    where
      one : (o : Option Held) → IfSome o (λ w. key_of_held w ≡ key_of_held z) → AllByRecursion (λ z. before (key_of_held y) (key_of_held z) ≡ false) (filter_map g l)
          → AllByRecursion (λ z. before (key_of_held y) (key_of_held z) ≡ false) (cons_option o (filter_map g l))
      one None p ih = ih
      one (Some w) p ih = (ap (λ a. before a (key_of_held w)) k ∙ ap (before (key_of_held x)) p ∙ h.0, ih)

  one_more : (l : List Held) (i : ℕ) (d : Held) → i < length l → filter_map g (take (i + 1) l) ≡ filter_map g (take i l) ++ cons_option (g (get_or l i d)) []
  one_more l i d h = ap (filter_map g) (take_more l i d h) ∙ filter_map-append g (take i l) (get_or l i d ∷ [])

  pub given_more : (l : List Held) (i : ℕ) (d y : Held) (acc acc' : List Held) → i < length l → Sorted key_of_held l → g (get_or l i d) ≡ Some y → acc ≡ filter_map g (take i l)
      → acc' ≡ insert key_of_held y acc → acc' ≡ filter_map g (take (i + 1) l)
  given_more l i d y acc acc' h s o a b =
      let k : key_of_held y ≡ key_of_held (get_or l i d) = subst (λ p. IfSome p (λ w. key_of_held w ≡ key_of_held (get_or l i d))) o (e (get_or l i d)) in
      b ∙ ap (insert key_of_held y) a ∙ insert_last y (filter_map g (take i l)) (behind_all (get_or l i d) y k (take i l) (sorted_front l i d h s))
      ∙ ap (λ p. filter_map g (take i l) ++ cons_option p []) (sym o) ∙ sym (one_more l i d h)

  pub none_more : (l : List Held) (i : ℕ) (d : Held) (acc : List Held) → i < length l → g (get_or l i d) ≡ None → acc ≡ filter_map g (take i l) → acc ≡ filter_map g (take (i + 1) l)
  none_more l i d acc h o a = a ∙ sym (append-nil (filter_map g (take i l))) ∙ ap (λ p. filter_map g (take i l) ++ cons_option p []) (sym o) ∙ sym (one_more l i d h)

-- a change that drops none, and one that drops what fails a test
pub all_given : (f : Held → Held) (l : List Held) → filter_map (λ x. Some (f x)) l ≡ map f l
all_given f [] = refl
all_given f (x ∷ l) = ap (λ t. f x ∷ t) (all_given f l)

pub passing_given : (f : Held → Held) (p : Held → Bool) (l : List Held) → filter_map (λ x. then_some (p (f x)) (f x)) l ≡ filter p (map f l)
passing_given f p [] = refl
passing_given f p (x ∷ l) = ⊎_elim (λ (t : p (f x) ≡ true). simp t (ap (λ r. f x ∷ r) (passing_given f p l))) (λ (t : p (f x) ≡ false). simp t (passing_given f p l)) (cases_Bool (p (f x)))
