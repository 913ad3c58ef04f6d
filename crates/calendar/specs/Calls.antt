-- What each call makes of the messages that a calendar holds.
use Rattle.std.specs.Prelude.{ℕ, Bool, not, List, [], ◌∷◌, map, filter, nat_lt, if◌then◌else◌}
use Rattle.event.specs.declared.Key.{Key}
use Rattle.event.specs.Keys.{key_of, same}
use Rattle.group.specs.Groups.{has, with, without, is_empty}
use Rattle.calendar.specs.declared.Held.{Held}

-- a held message goes by the key of its message
abbrev pub key_of_held : Held → Key
key_of_held h = key_of h.message

-- those with the smallest key, which is that of the first
abbrev pub leading : List Held → List Held
leading [] = []
leading (x ∷ xs) = filter (λ y. same (key_of_held x) (key_of_held y)) (x ∷ xs)

-- those that wait for the variant v
abbrev pub waiting : ℕ → List Held → List Held
waiting v xs = filter (λ x. has x.group v) xs

-- c joins the group, if v is in it
abbrev pub joins : ℕ → ℕ → Held → Held
joins v c x = if has x.group v then record { message = x.message; group = with x.group c } else x

-- c joins every group that has v
abbrev pub spread : ℕ → ℕ → List Held → List Held
spread v c xs = map (joins v c) xs

-- v leaves the group
abbrev pub leaves : ℕ → Held → Held
leaves v x = record { message = x.message; group = without x.group v }

-- some variant waits for it
abbrev pub wanted : Held → Bool
wanted x = not (is_empty x.group)

-- v leaves every group, and what no variant waits for is dropped; a v above 15 changes nothing
abbrev pub erase : ℕ → List Held → List Held
erase v xs = if nat_lt v 16 then filter wanted (map (leaves v) xs) else xs
