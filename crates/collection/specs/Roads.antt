-- The roads.
use Rattle.std.specs.Prelude.{ℕ, List, [], ◌∷◌, slice_index}

-- the seconds between the dairy and farms 1 to 10
abbrev pub drives : List ℕ
drives = 600 ∷ 900 ∷ 900 ∷ 1200 ∷ 450 ∷ 1500 ∷ 1500 ∷ 750 ∷ 1050 ∷ 600 ∷ []

-- and so between the dairy and a place, the dairy itself being no drive away
abbrev pub drive_of : ℕ → ℕ
drive_of place = slice_index (0 ∷ drives) place
