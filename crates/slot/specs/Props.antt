-- What a view of held messages needs to have a code.
use Rattle.std.specs.Prelude.{List, [], ◌∷◌}
use Rattle.std.specs.Coded.{Coded-set, coded_bool, ×_prop, Unit-prop}
use Rattle.std.specs.List.{AllByRecursion-prop}
use Rattle.event.specs.Lists.{Sorted}
use Rattle.calendar.specs.declared.Held.{Held}
use Rattle.calendar.specs.Calls.{key_of_held}

-- a list is sorted in at most one way, so that views with the same messages and numbers are the same
pub sorted_prop : (xs : List Held) → IsProp (Sorted key_of_held xs)
sorted_prop [] = Unit-prop
sorted_prop (x ∷ xs) = ×_prop (AllByRecursion-prop _ (λ y. Coded-set coded_bool _ _) xs) (sorted_prop xs)
