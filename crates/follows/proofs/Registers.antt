-- The group of the live, and that of the undecided, as a call changes them.
use Rattle.std.proofs.Common.{◌≡◌, ℕ, ◌<◌, Bool, true, false, not, ◌&&◌, ◌||◌, eqb, refl, ap, ◌∙◌}
use Rattle.std.proofs.lemmas.Bool.{lt-ltb}
use Rattle.group.specs.declared.Group.{Group}
use Rattle.group.specs.Groups.{has, none, only, with, without}
use Rattle.group.proofs.Members.{has_none, has_with, has_without}

pub has_only : (v u : ℕ) → v < 16 → has (only v) u ≡ eqb u v
has_only v u l = has_with none v u ∙ (let a = has_none u in let b = lt-ltb v 16 l in simp (a, b) (last (eqb u v)))
  where
    last : (q : Bool) → (q || false) ≡ q
    last true = refl
    last false = refl

-- what is added to a group, and what has left one
pub has_too : (g : Group) (live : ℕ → Bool) (c : ℕ) → c < 16 → ((u : ℕ) → has g u ≡ live u) → (u : ℕ) → has (with g c) u ≡ (eqb u c || live u)
has_too g live c l same u = has_with g c u ∙ ap (λ b. (b && eqb u c) || has g u) (lt-ltb c 16 l) ∙ ap (λ b. eqb u c || b) (same u)

pub has_but : (g : Group) (live : ℕ → Bool) (v : ℕ) → ((u : ℕ) → has g u ≡ live u) → (u : ℕ) → has (without g v) u ≡ (live u && not (eqb u v))
has_but g live v same u = has_without g v u ∙ ap (λ b. not (eqb u v) && b) (same u) ∙ turned (eqb u v) (live u)
  where
    turned : (a b : Bool) → (not a && b) ≡ (b && not a)
    turned true true = refl
    turned true false = refl
    turned false true = refl
    turned false false = refl
