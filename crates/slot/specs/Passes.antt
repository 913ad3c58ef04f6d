-- What a closure gives, and which slots a choice means.
use Rattle.std.specs.Prelude.{◌≡◌, Bool, true, ◌&&◌, List, [], ◌∷◌, filter, Some, None, Option}
use Rattle.std.specs.Bool.{then_some}
use Rattle.event.specs.declared.Key.{Key}
use Rattle.event.specs.Keys.{same}
use Rattle.slot.specs.declared.Slot.{Slot}
use Rattle.std.specs.Borrow.{Bor}
use Rattle.std.specs.Fn.{Shared}
use Rattle.slot.specs.Slots.{earlier, key_of_slot}

-- each call of f, at a reference, gives what g makes of the value there
abbrev pub Gives : {F X Y : Type 0} → Shared F (Bor X × Unit {0}) Y → F → (X → Y) → Type 0
Gives {X = X} {Y = Y} s f g = (x : Bor X) (r : Y) → s.post f (x, tt) r → r ≡ g x.now

-- s comes after a, if there is one
abbrev pub beyond : Option Slot → Slot → Bool
beyond None s = true
beyond (Some a) s = earlier a s

-- s passes the test, and comes after a
abbrev pub admits : (Slot → Bool) → Option Slot → Slot → Bool
admits p a s = p s && beyond a s

-- s, if it has the key k
abbrev pub likewise : Key → Option Slot → Option Slot
likewise k None = None
likewise k (Some s) = then_some (same k (key_of_slot s)) s

-- those with the key of the first
abbrev pub leading_slots : List Slot → List Slot
leading_slots [] = []
leading_slots (x ∷ xs) = filter (λ y. same (key_of_slot x) (key_of_slot y)) (x ∷ xs)
