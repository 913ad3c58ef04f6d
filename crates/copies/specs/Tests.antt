-- What a closure that tests numbers tells.
use Rattle.std.specs.Prelude.{◌≡◌, ℕ, ◌<◌, Bool, true}

-- each call tells of its number what f does
abbrev pub Tells : (ℕ → Bool → Type 0) → (ℕ → Bool) → Type 0
Tells post f = (x : ℕ) (r : Bool) → post x r → r ≡ f x

-- each call tells what f does of a place and two variants
abbrev pub TellsSharing : (ℕ → ℕ → ℕ → Bool → Type 0) → (ℕ → ℕ → ℕ → Bool) → Type 0
TellsSharing post f = (p x y : ℕ) (r : Bool) → post p x y r → r ≡ f p x y

-- all variants share
abbrev pub AllShare : (ℕ → ℕ → Bool) → Type 0
AllShare share = (x y : ℕ) → x < 16 → y < 16 → share x y ≡ true

-- at each place that a call tells to be whole all share
abbrev pub TellsWhole : (ℕ → Bool → Type 0) → (ℕ → ℕ → ℕ → Bool) → Type 0
TellsWhole post f = (p : ℕ) (r : Bool) → post p r → r ≡ true → AllShare (f p)
