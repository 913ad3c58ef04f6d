-- The smallest of the keys that wait.
use Rattle.std.specs.Prelude.{if◌then◌else◌, None, Some, Option}
use Rattle.event.specs.Keys.{before, key_of}
use Rattle.event.specs.declared.Key.{Key}
use Rattle.event.specs.declared.Message.{Message}

-- the smallest key so far, and that of one more message, if there is one: the one that comes first
abbrev pub least_of : Option Key → Option Message → Option Key
least_of least None = least
least_of None (Some m) = Some (key_of m)
least_of (Some k) (Some m) = Some (if before (key_of m) k then key_of m else k)
