-- A starting list grows by its next message.
use Rattle.std.proofs.Common.{◌≡◌, ℕ, ◌+◌, [], ◌∷◌, ◌++◌, ap, refl}
use Rattle.std.proofs.Common.{add-one}
use Rattle.event.specs.declared.Start.{Start}
use Rattle.pace.specs.Starts.{listed}

pub listed_none : (f : ℕ → Start) → listed f 0 ≡ []
unfolding listed
listed_none f = refl

pub listed_more : (f : ℕ → Start) (n : ℕ) → listed f (n + 1) ≡ listed f n ++ f n ∷ []
unfolding listed
listed_more f n = ap (listed f) (add-one n)
