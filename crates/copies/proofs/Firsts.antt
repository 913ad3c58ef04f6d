-- The first that passes.
use Rattle.std.proofs.Common.{◌≡◌, Bool, true, false, List, [], ◌∷◌, filter, refl, ⊎_elim}
use Rattle.std.specs.List.{find}
use Rattle.std.proofs.lemmas.Bool.{cases_Bool}
use Rattle.event.specs.Lists.{first}

pub find_first : {X : Type 0} (p : X → Bool) (xs : List X) → find p xs ≡ first (filter p xs)
find_first p [] = refl
find_first p (x ∷ xs) = ⊎_elim (λ (e : p x ≡ true). simp e) (λ (e : p x ≡ false). simp e (find_first p xs)) (cases_Bool (p x))
