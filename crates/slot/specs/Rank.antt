-- Lists in a strict order.
use Rattle.std.specs.Prelude.{◌≡◌, Bool, true, false, if◌then◌else◌, List, [], ◌∷◌}
use Rattle.std.specs.List.{AllByRecursion}

module _ {X : Type 0} (lt : X → X → Bool) where
  -- x goes behind those that it does not come before
  abbrev pub ins : X → List X → List X
  ins x [] = x ∷ []
  ins x (y ∷ ys) = if lt x y then x ∷ y ∷ ys else y ∷ ins x ys

  -- the same elements, in order
  abbrev pub ranked : List X → List X
  ranked [] = []
  ranked (x ∷ xs) = ins x (ranked xs)

-- a strict order that tells any two apart
pub record Strict {X : Type 0} (lt : X → X → Bool) : Type 0 where
  pub one_way : (x y : X) → lt x y ≡ true → lt y x ≡ false
  pub chain : (x y z : X) → lt x y ≡ true → lt y z ≡ true → lt x z ≡ true
  pub apart : (x y : X) → lt x y ≡ false → lt y x ≡ false → x ≡ y

-- no later one comes before an earlier one
abbrev pub Rising : {X : Type 0} → (X → X → Bool) → List X → Type 0
Rising lt [] = Unit {0}
Rising lt (x ∷ xs) = AllByRecursion (λ y. lt y x ≡ false) xs × Rising lt xs
