-- Where a chain is cut.
use Rattle.std.specs.Prelude.{◌≡◌, ℕ, true, false, List, [], ◌∷◌, ◌++◌, Some, None, Option}
use Rattle.std.specs.List.{AllByRecursion}
use Rattle.slot.specs.declared.Slot.{Slot}
use Rattle.slot.specs.Slots.{earlier}
use Rattle.bucket_calendar.specs.Chains.{at}

-- the last of a list
abbrev pub end_of : List ℕ → Option ℕ
end_of [] = None
end_of (p ∷ []) = Some p
end_of (p ∷ q ∷ ps) = end_of (q ∷ ps)

-- the first, if there is one, does not come before s
abbrev pub Stops : List Slot → Slot → List ℕ → Type 0
Stops xs s [] = Unit {0}
Stops xs s (p ∷ ps) = earlier (at xs p) s ≡ false

-- o is the last of the front, whose slots come before s, and what follows it does not
pub record Cut (xs : List Slot) (s : Slot) (ps : List ℕ) (o : Option ℕ) : Type 0 where
  pub front : List ℕ
  pub back : List ℕ
  pub parts : ps ≡ front ++ back
  pub passed : AllByRecursion (λ p. earlier (at xs p) s ≡ true) front
  pub stops : Stops xs s back
  pub ends : end_of front ≡ o

-- among these places q follows k
pub record LeadsTo (k q : ℕ) (ps : List ℕ) : Type 0 where
  pub front : List ℕ
  pub back : List ℕ
  pub parts : ps ≡ front ++ q ∷ back
  pub ends : end_of front ≡ Some k
