-- What holds of each message or place of a list, by places and by elements.
use Rattle.std.proofs.Common.{◌≡◌, ℕ, zero, suc, List, [], ◌∷◌, get_or, sym, subst}
use Rattle.std.specs.List.{AllByRecursion}
use Rattle.std.proofs.ByRecursion.{All-from_get_or}
use Rattle.event.specs.declared.Message.{Message}
use Rattle.event.specs.Keys.{blank, key_of}
use Rattle.event.specs.Lists.{insert}
use Rattle.event.proofs.Insertion.{all_insert}

module _ {X : Type 0} (P : X → Type 0) (d : X) where
  pub all_by_places : (xs : List X) → ((i : ℕ) → P (get_or xs i d)) → AllByRecursion P xs
  all_by_places xs h = All-from_get_or P xs d (λ i _. h i)

  pub places_by_all : (xs : List X) → P d → AllByRecursion P xs → (i : ℕ) → P (get_or xs i d)
  places_by_all [] p h i = p
  places_by_all (x ∷ xs) p h zero = h.0
  places_by_all (x ∷ xs) p h (suc i) = places_by_all xs p h.1 i

-- one message is inserted
pub places_insert : (P : Message → Type 0) (m : Message) (xs xs' : List Message) → xs' ≡ insert key_of m xs → P blank → P m → ((i : ℕ) → P (get_or xs i blank)) → (i : ℕ) → P (get_or xs' i blank)
places_insert P m xs xs' e z p h = places_by_all P blank xs' z (subst (AllByRecursion P) (sym e) (all_insert key_of P m xs p (all_by_places P blank xs h)))
