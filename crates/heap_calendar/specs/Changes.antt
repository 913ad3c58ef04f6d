-- What a change of each held message gives.
use Rattle.std.specs.Prelude.{◌≡◌, Option, IfSome}
use Rattle.calendar.specs.declared.Held.{Held}
use Rattle.calendar.specs.Calls.{key_of_held}

-- what is given has the key of what it is made of
abbrev pub KeepsKeys : (Held → Option Held) → Type 0
KeepsKeys g = (x : Held) → IfSome (g x) (λ y. key_of_held y ≡ key_of_held x)
