-- Ten cases worked on paper, as equations of the rules that the contracts state.
use Rattle.std.specs.Prelude.{ℕ, ◌+◌, ◌^◌, ◌≡◌, List, [], ◌∷◌}
use Rattle.event.specs.declared.Message.{Message}
use Rattle.model.specs.declared.Arrival.{Arrival}
use Rattle.model.specs.declared.Sends.TheVariants.{One, Two}
use Rattle.model.specs.Meaning.{Reaction}
use Rattle.streams.specs.Draws.{draw_of}
use Rattle.phold.specs.Rules as phold
use Rattle.collection.specs.Kinds.{ready, free, go, pump, loaded, unload, emptied}
use Rattle.collection.specs.Replies.{message}
use Rattle.collection.specs.Rules as collection
use Rattle.day.specs.Day.{within}

-- eight words, of which the first three are given
abbrev eight : ℕ → ℕ → ℕ → List ℕ
eight a b c = a ∷ b ∷ c ∷ 0 ∷ 0 ∷ 0 ∷ 0 ∷ 0 ∷ []

-- of three farms and two tankers, what a place under an order does with its words as a message arrives
abbrev does : ℕ → ℕ → List ℕ → Arrival → Reaction
does place order ws a = (collection.meaning_of 3 2).react place order ws a

-- a message as it arrives, by its time, sender, kind and data
abbrev arriving : ℕ → ℕ → ℕ → ℕ → Arrival
arriving time sender kind litres = record { time = time; sender = sender; kind = kind; «data» = litres }

-- a tanker becomes free while these farms wait, and is sent to this one
abbrev takes : ℕ → ℕ → ℕ → Type 0
takes order waiting farm = (does 0 order (eight waiting 0 0) (arriving 1903 5 free 0)).sends ≡ One (message 5 1 go farm)

-- m, but for this time
abbrev timed : ℕ → Message → Message
timed time m = record { time = time; receiver = m.receiver; sender = m.sender; number = m.number; kind = m.kind; «data» = m.«data» }

pub record Worked : Type 0 where
  -- a draw from 1 is 16807
  pub first : draw_of 1 ≡ 16807
  -- and the next 282475249
  pub second : draw_of (draw_of 1) ≡ 282475249
  -- PHOLD with 4 places, word 0 equal to 1 and order 0 sends to 3 with delay 50
  pub passing : (seed replication : ℕ) (a : Arrival) → ((phold.meaning_of 4 seed replication).react 2 0 (eight 1 0 0) a).sends ≡ One (message 3 50 0 a.«data»)
  -- farms 1 and 3 wait: order 0 takes 1
  pub nearest : takes 0 (2 ^ 1 + 2 ^ 3) 1
  -- order 1 takes 3
  pub farthest : takes 1 (2 ^ 1 + 2 ^ 3) 3
  -- farms 2 and 3 wait: orders 0 and 1 take 2
  pub tie : takes 0 (2 ^ 2 + 2 ^ 3) 2 × takes 1 (2 ^ 2 + 2 ^ 3) 2
  -- pumping 25,000 litres loads 20,000 with delay 2,001, leaves 5,000 and announces
  pub pumping : does 2 0 (eight 25000 1 0) (arriving 1203 4 pump 0)
      ≡ record { words = eight 5000 1 0; sends = Two (message 4 2001 loaded 20000) (message 0 1 ready 0) }
  -- unloading 1,000 at 1903 with word 2 equal to 0 has delay 110
  pub unloading : (does 0 0 (eight 0 0 0) (arriving 1903 4 unload 1000)).sends ≡ One (message 4 110 emptied 0)
  -- with 2000, 207
  pub queueing : (does 0 0 (eight 0 0 2000) (arriving 1903 4 unload 1000)).sends ≡ One (message 4 207 emptied 0)
  -- with end 3000 a message for 3000 waits and one for 3001 is lost
  pub ending : (m : Message) → (within 3000 (timed 3000 m ∷ []) ≡ timed 3000 m ∷ []) × (within 3000 (timed 3001 m ∷ []) ≡ [])
