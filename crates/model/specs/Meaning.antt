-- What a model means.
use Rattle.std.specs.Prelude.{◌≡◌, ℕ, ◌<◌, ◌≤◌, List, [], ◌∷◌, length}
use Rattle.std.specs.List.{AllByRecursion}
use Rattle.event.specs.declared.Message.{Message}
use Rattle.model.specs.declared.Arrival.{Arrival}
use Rattle.model.specs.declared.Sent.{Sent}
use Rattle.model.specs.declared.Sends.{Sends}
use Rattle.model.specs.declared.Sends.TheVariants.{Nothing, One, Two}

-- the words of the place afterwards, and at most two messages
pub record Reaction : Type 0 where
  pub words : List ℕ
  pub sends : Sends

pub record Meaning : Type 0 where
  -- how many places there are, numbered from 0
  pub places : ℕ
  -- the words that a place begins with
  pub start : ℕ → List ℕ
  -- what a place does, by its number, its order, its words and what arrives
  pub react : ℕ → ℕ → List ℕ → Arrival → Reaction

-- what a place is told of a message
abbrev pub arrival_of : Message → Arrival
arrival_of m = record { time = m.time; sender = m.sender; kind = m.kind; «data» = m.«data» }

-- the messages sent, in their sequence
abbrev pub listed : Sends → List Sent
listed Nothing = []
listed (One a) = a ∷ []
listed (Two a b) = a ∷ b ∷ []

-- the receiver is one of n places, and the delay lies between a second and a day
pub record Within (n : ℕ) (s : Sent) : Type 0 where
  pub receiver : s.receiver < n
  pub least : 1 ≤ s.delay
  pub most : s.delay ≤ 86400

abbrev pub Lawful : ℕ → Sends → Type 0
Lawful n s = AllByRecursion (Within n) (listed s)

-- what every model shows by law, of its meaning
pub record Law (M : Meaning) : Type 0 where
  pub least : 1 ≤ M.places
  pub most : M.places ≤ 32
  pub begun : (place : ℕ) → length (M.start place) ≡ 8
  pub lawful : (place order : ℕ) (words : List ℕ) (a : Arrival) → Lawful M.places (M.react place order words a).sends
