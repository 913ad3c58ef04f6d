-- A message found by its key.
use Rattle.std.specs.Prelude.{Bool, true, false, if◌then◌else◌, List, [], ◌∷◌, Some, None, Option}
use Rattle.event.specs.declared.Key.{Key}
use Rattle.event.specs.declared.Message.{Message}
use Rattle.event.specs.Keys.{key_of, same}

-- the message with the key k
abbrev pub find : Key → List Message → Option Message
find k [] = None
find k (x ∷ xs) = if same k (key_of x) then Some x else find k xs

abbrev pub some : {X : Type 0} → Option X → Bool
some None = false
some (Some x) = true

-- the first of the two that is there
abbrev pub either : {X : Type 0} → Option X → Option X → Option X
either None o = o
either (Some x) o = Some x
