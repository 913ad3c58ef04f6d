-- When an array of slots is a heap whose ages are told apart.
use Rattle.std.specs.Prelude.{◌≡◌, ℕ, Bool, true, false, List}
use Rattle.std.specs.BinaryHeap.{IsHeap}
use Rattle.event.specs.Lists.{rest}
use Rattle.slot.specs.Rank.{ranked}
use Rattle.slot.specs.declared.Slot.{Slot}
use Rattle.slot.specs.Slots.{earlier, turned, steady, Young}

-- all but a root that was taken
abbrev pub standing : {X : Type 0} → Bool → List X → List X
standing true xs = rest xs
standing false xs = xs

-- no slot of the array is later than its parent; of those that stand all ages are below n, and no two have one key and age
pub record Sound (n : ℕ) (taken : Bool) (xs : List Slot) : Type 0 where
  pub young : Young n (standing taken xs)
  pub built : IsHeap turned xs
  pub apart : steady (ranked earlier (standing taken xs)) ≡ true
