-- Messages that one sender numbers in sequence.
use Rattle.std.proofs.Common.{◌≡◌, ℕ, suc, ◌+◌, ◌<◌, ◌≤◌, List, [], ◌∷◌, length, refl, ap, arith}
use Rattle.std.specs.List.{AllByRecursion}
use Rattle.std.proofs.ByRecursion.{All-weaker}
use Rattle.event.specs.declared.Key.{Key}
use Rattle.event.specs.declared.Message.{Message}
use Rattle.event.specs.declared.Start.{Start}
use Rattle.event.specs.Keys.{key_of}
use Rattle.event.specs.Lists.{Distinct}
use Rattle.event.specs.Starts.{message_of, numbered}
use Rattle.model.specs.declared.Sent.{Sent}
use Rattle.day.specs.Day.{stamped}

-- all are of the sender s, numbered n, n + 1 ..
abbrev pub InSequence : ℕ → ℕ → List Message → Type 0
InSequence s n [] = Unit {0}
InSequence s n (m ∷ ms) = (m.sender ≡ s) × (m.number ≡ n) × InSequence s (suc n) ms

pub stamped_sequence : (now s n : ℕ) (ss : List Sent) → InSequence s n (stamped now s n ss)
stamped_sequence now s n [] = tt
stamped_sequence now s n (x ∷ ss) = (refl, refl, stamped_sequence now s (suc n) ss)

pub length_stamped : (now s n : ℕ) (ss : List Sent) → length (stamped now s n ss) ≡ length ss
length_stamped now s n [] = refl
length_stamped now s n (x ∷ ss) = ap suc (length_stamped now s (suc n) ss)

pub starts_sequence : (n : ℕ) (ss : List Start) → InSequence 255 n (numbered n ss)
starts_sequence n [] = tt
starts_sequence n (s ∷ ss) = (refl, refl, starts_sequence (suc n) ss)

-- what holds of each start holds of its message
pub numbered_all : (Q : Start → Type 0) (P : Message → Type 0) → ((n : ℕ) (s : Start) → Q s → P (message_of n s)) → (n : ℕ) (ss : List Start) → AllByRecursion Q ss → AllByRecursion P (numbered n ss)
numbered_all Q P f n [] h = tt
numbered_all Q P f n (s ∷ ss) h = (f n s h.0, numbered_all Q P f (suc n) ss h.1)

-- each is numbered from n on, below n and how many there are
pub record Between (s low high : ℕ) (m : Message) : Type 0 where
  pub sender : m.sender ≡ s
  pub least : low ≤ m.number
  pub most : m.number < high

pub sequence_between : (s n : ℕ) (ms : List Message) → InSequence s n ms → AllByRecursion (Between s n (n + length ms)) ms
sequence_between s n [] h = tt
sequence_between s n (m ∷ ms) h =
    let e = h.1 in (
      record { sender = h.0; least = omega arith; most = omega arith },
      All-weaker (Between s (suc n) (suc n + length ms)) (Between s n (n + suc (length ms)))
          (λ x b. let l = b.least in let u = b.most in record { sender = b.sender; least = omega arith; most = omega arith }) ms (sequence_between s (suc n) ms h.2),
    )

-- so no two have one key
pub sequence_distinct : (s n : ℕ) (ms : List Message) → InSequence s n ms → Distinct key_of ms
sequence_distinct s n [] h = tt
sequence_distinct s n (m ∷ ms) h = (
  All-weaker (Between s (suc n) (suc n + length ms)) (λ x. key_of m ≡ key_of x → ⊥)
      (λ x b k. let l = b.least in let e = h.1 in let q : m.number ≡ x.number = ap (λ (j : Key). j.number) k in omega arith) ms (sequence_between s (suc n) ms h.2),
  sequence_distinct s (suc n) ms h.2,
)
