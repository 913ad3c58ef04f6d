-- The last of a list that passes is the first from its end.
use Rattle.std.proofs.Common.{◌≡◌, ℕ, Bool, List, [], ◌∷◌, if◌then◌else◌, reverse, fold, Option, None, Some, sym, ap, ◌∙◌, refl, Iter, arith}
use Rattle.std.specs.List.{find}
use Rattle.std.specs.Option.{option_map, option_or}
use Rattle.std.specs.Slice.Iter.{iter_rest, iter_steps_back}
use Rattle.std.proofs.lemmas.Grind.{common_steps}
use Rattle.std.proofs.lemmas.Iterator.{YieldsList}
use Rattle.std.proofs.lemmas.Iterator.Consumers.{YieldsList-from_shown}
use Rattle.std.proofs.lemmas.List.{length-reverse, reverse-append}
use Rattle.std.proofs.lemmas.List.Folds.{find-append}
use Rattle.event.specs.declared.Message.{Message}
use Rattle.report.specs.Summary.{is_unloading_message, last_unloading_of}

-- a slice that is read from its end
pub from_end : {A : Type 0} (s : Iter A) → YieldsList iter_steps_back (λ y. y.now) s (reverse (iter_rest s))
from_end s = YieldsList-from_shown iter_steps_back (λ y. y.now) (λ u. reverse (iter_rest u)) (λ u t p. length-reverse _ ∙ p.0) (λ u x t p. ap reverse p ∙ reverse-append (iter_rest t) (x.now ∷ [])) s

module _ {X Y : Type 0} (p : X → Bool) (h : X → Y) where
  later_or : (o : Option Y) (e : Option X) (x : X) → option_or (option_map h e) (if p x then Some (h x) else o) ≡ option_or (option_map h (option_or e (if p x then Some x else None))) o
  later_or o None x = grind (arith, common_steps)
  later_or o (Some y) x = refl

  last_or_first : (o : Option Y) (xs : List X) → fold (λ last x. if p x then Some (h x) else last) o xs ≡ option_or (option_map h (find p (reverse xs))) o
  last_or_first o [] = refl
  last_or_first o (x ∷ xs) =
      last_or_first (if p x then Some (h x) else o) xs ∙ later_or o (find p (reverse xs)) x
      ∙ ap (λ e. option_or (option_map h e) o) (sym (ap (find p) (reverse-append (x ∷ []) xs) ∙ find-append p (reverse xs) (x ∷ [])))

or_none : {Y : Type 0} (o : Option Y) → option_or o None ≡ o
or_none None = refl
or_none (Some y) = refl

-- the last unloading is the first from the end of the journal
pub last_unloading_is : (f t : ℕ) (ms : List Message) → last_unloading_of f t ms ≡ option_map (λ m. m.time) (find (is_unloading_message f t) (reverse ms))
last_unloading_is f t ms = last_or_first (is_unloading_message f t) (λ m. m.time) None ms ∙ or_none _
