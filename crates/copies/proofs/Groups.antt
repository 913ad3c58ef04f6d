-- Groups that have both of two variants, or neither.
use Rattle.std.proofs.Common.{◌≡◌, ℕ, Bool, cond, not, ◌&&◌, List, [], ◌∷◌, map, refl, ap}
use Rattle.std.specs.List.{list_all}
use Rattle.group.specs.declared.Group.{Group}
use Rattle.group.specs.Groups.{has}
use Rattle.calendar.specs.declared.Held.{Held}
use Rattle.copies.specs.Sharing.{together}

-- both or neither
abbrev pub alike : ℕ → ℕ → Group → Bool
alike x y g = cond (has g x) (has g y) (not (has g y))

pub together_listed : (heads : List Held) (x y : ℕ) → list_all (λ h. alike x y h.group) heads ≡ together (map (λ h. h.group) heads) x y
together_listed [] x y = refl
together_listed (h ∷ hs) x y = ap (λ b. alike x y h.group && b) (together_listed hs x y)
