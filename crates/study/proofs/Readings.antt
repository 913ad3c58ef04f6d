-- What a reading finds in the study's lists.
use Rattle.std.proofs.Common.{◌≡◌, List, [], ◌∷◌, map, Some, None, refl}
use Rattle.std.specs.Prelude.{MatchOption}
use Rattle.std.specs.List.{slice_get}
use Rattle.event.specs.Lists.{first}
use Rattle.calendar.specs.declared.Held.{Held}
use Rattle.calendar.specs.Laws.{message_of}

-- the first that is waited for has the first message
pub first_waiting : (xs : List Held) → MatchOption (slice_get xs 0) (first (map message_of xs) ≡ None) (λ h. first (map message_of xs) ≡ Some h.message)
first_waiting [] = refl
first_waiting (x ∷ xs) = refl
