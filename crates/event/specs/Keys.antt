-- The key of a message, and the order of keys.
use Rattle.std.specs.Prelude.{◌≡◌, ℕ, Bool, true, false, ◌&&◌, ◌||◌, ◌==◌, nat_lt}
use Rattle.std.specs.declared.cmp.Ordering.{Ordering}
use Rattle.std.specs.Ordering.{nat_cmp, on, then_cmp}
use Rattle.event.specs.declared.Key.{Key}
use Rattle.event.specs.declared.Message.{Message}

abbrev pub key_of : Message → Key
key_of m = record { time = m.time; receiver = m.receiver; sender = m.sender; number = m.number }

-- what stands past the end of a list of messages
abbrev pub blank : Message
blank = record { time = 0; receiver = 0; sender = 0; number = 0; kind = 0; «data» = 0 }

-- by a and b, and where they are equal by what follows
abbrev pub then : ℕ → ℕ → Bool → Bool
then a b next = nat_lt a b || (a == b && next)

-- a comes before b: by time, receiver, sender and number, smaller first
unfoldable pub before : Key → Key → Bool
before a b = then a.time b.time (then a.receiver b.receiver (then a.sender b.sender (nat_lt a.number b.number)))

unfoldable pub same : Key → Key → Bool
same a b = a.time == b.time && (a.receiver == b.receiver && (a.sender == b.sender && a.number == b.number))

-- no key comes before itself, what comes before goes on, and any two keys are in order or equal
pub record StrictOrder : Type 0 where
  pub never : (a : Key) → before a a ≡ false
  pub chain : (a b c : Key) → before a b ≡ true → before b c ≡ true → before a c ≡ true
  pub apart : (a b : Key) → before a b ≡ false → before b a ≡ false → a ≡ b

-- what a comparison of keys answers, part by part
abbrev pub key_cmp : Key → Key → Ordering
key_cmp = then_cmp (on (λ k. k.time) nat_cmp) (then_cmp (on (λ k. k.receiver) nat_cmp) (then_cmp (on (λ k. k.sender) nat_cmp) (on (λ k. k.number) nat_cmp)))
