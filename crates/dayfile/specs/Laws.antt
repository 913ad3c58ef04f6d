-- What holds of every plan that is read.
use Rattle.std.specs.Prelude.{◌≡◌, ℕ, ◌<◌, ◌≤◌, ⊤, List, [], ◌∷◌}
use Rattle.std.specs.List.{AllByRecursion}
use Rattle.event.specs.declared.Start.{Start}
use Rattle.dayfile.specs.declared.plan.Milking.{Milking}
use Rattle.dayfile.specs.declared.plan.Choice.{Choice}
use Rattle.dayfile.specs.Plans.{Sheet}

-- m tells milk to one of so many farms
pub record Farmed (farms : ℕ) (m : Start) : Type 0 where
  pub least : 1 ≤ m.receiver
  pub most : m.receiver ≤ farms
  pub kind : m.kind ≡ 0

module _ {X : Type 0} (line : X → ℕ) where
  -- each on a later line than the one before it, and the first on one later than n
  abbrev pub Later : ℕ → List X → Type 0
  Later n [] = ⊤
  Later n (x ∷ xs) = (n < line x) × Later (line x) xs

-- every milking is at a farm of the plan, and milkings and choices stand in the sequence of their lines, from 1
pub record Sound (s : Sheet) : Type 0 where
  pub farmed : AllByRecursion (λ m. Farmed s.farms m.start) s.milkings
  pub milkings : Later (λ (m : Milking). m.line) 0 s.milkings
  pub choices : Later (λ (c : Choice). c.line) 0 s.choices
