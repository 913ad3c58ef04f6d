-- What the calls do to the messages of one variant, and to the groups.
use Rattle.std.specs.Prelude.{◌≡◌, ℕ, true, false, List, [], ◌∷◌, map, ◌==◌, nat_lt, if◌then◌else◌}
use Rattle.std.specs.List.{AllByRecursion}
use Rattle.event.specs.declared.Message.{Message}
use Rattle.event.specs.Keys.{key_of}
use Rattle.event.specs.Lists.{insert, Sorted}
use Rattle.group.specs.Groups.{has}
use Rattle.calendar.specs.declared.Held.{Held}
use Rattle.calendar.specs.Calls.{key_of_held, waiting, spread, erase, wanted}

abbrev pub message_of : Held → Message
message_of h = h.message

-- the messages that wait for v, in order
abbrev pub messages_of : ℕ → List Held → List Message
messages_of v xs = map message_of (waiting v xs)

-- a put goes to the messages of each variant of its group, at its place by key, and to no other's
pub record PutLaws (h : Held) (xs : List Held) : Type 0 where
  pub sorted : Sorted key_of_held xs → Sorted key_of_held (insert key_of_held h xs)
  pub messages : Sorted key_of_held xs → (v : ℕ) → messages_of v (insert key_of_held h xs) ≡ (if has h.group v then insert key_of h.message (messages_of v xs) else messages_of v xs)

-- the first is taken from the messages of each variant of its group, and from no other's
pub record TakeLaws (x : Held) (xs : List Held) : Type 0 where
  pub sorted : Sorted key_of_held (x ∷ xs) → Sorted key_of_held xs
  pub messages : (v : ℕ) → messages_of v (x ∷ xs) ≡ (if has x.group v then x.message ∷ messages_of v xs else messages_of v xs)

-- where c had none, it then waits for the messages of v, and every other variant for its own
pub record SpreadLaws (v c : ℕ) (xs : List Held) : Type 0 where
  pub sorted : Sorted key_of_held xs → Sorted key_of_held (spread v c xs)
  pub messages : map message_of (spread v c xs) ≡ map message_of xs
  pub others : (u : ℕ) → (u == c) ≡ false → messages_of u (spread v c xs) ≡ messages_of u xs
  pub above : nat_lt c 16 ≡ false → spread v c xs ≡ xs
  pub child : nat_lt c 16 ≡ true → messages_of c xs ≡ [] → messages_of c (spread v c xs) ≡ messages_of v xs

-- v waits for nothing, every other variant for its own, and each message that is left is waited for
pub record EraseLaws (v : ℕ) (xs : List Held) : Type 0 where
  pub sorted : Sorted key_of_held xs → Sorted key_of_held (erase v xs)
  pub none : messages_of v (erase v xs) ≡ []
  pub others : (u : ℕ) → (u == v) ≡ false → messages_of u (erase v xs) ≡ messages_of u xs
  pub wanted : nat_lt v 16 ≡ true → AllByRecursion (λ x. wanted x ≡ true) (erase v xs)
