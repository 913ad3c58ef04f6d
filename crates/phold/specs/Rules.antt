-- What PHOLD with p places means. A place's words: 0 the number last drawn, 1 how often it passed a message on.
use Rattle.std.specs.Prelude.{ℕ, ◌+◌, ◌-◌, ◌*◌, ◌%◌, ◌^◌, min, Bool, if◌then◌else◌, ◌&&◌, List, [], ◌∷◌, nat_le, nat_lt, slice_index, slice_set}
use Rattle.model.specs.declared.Arrival.{Arrival}
use Rattle.model.specs.declared.Sent.{Sent}
use Rattle.model.specs.declared.Sends.TheVariants.{Nothing, One}
use Rattle.model.specs.Meaning.{Meaning, Reaction}
use Rattle.streams.specs.Draws.{modulus, times_of, draw_of}
use Rattle.streams.specs.Multipliers.{multiplier_of}

-- 1 to 32 places, a seed from 1 to 2,147,483,646 and a replication from 0 to 7
abbrev pub allowed : ℕ → ℕ → ℕ → Bool
allowed p seed r = (nat_le 1 p && nat_le p 32) && ((nat_le 1 seed && nat_le seed 2147483646) && nat_le r 7)

-- the stream of a place: each replication has 32 to itself
abbrev pub stream_of : ℕ → ℕ → ℕ
stream_of r place = 32 * r + place

-- a place begins where its stream does, from the seed; what is none of the places begins at 0
abbrev pub start_of : ℕ → ℕ → ℕ → ℕ → List ℕ
start_of p seed r place = (if nat_lt place p then times_of seed (multiplier_of (stream_of r place)) else 0) ∷ 0 ∷ 0 ∷ 0 ∷ 0 ∷ 0 ∷ 0 ∷ 0 ∷ []

-- the first draw at a place, from its word 0
abbrev pub first_draw : List ℕ → ℕ
first_draw ws = draw_of (slice_index ws 0 % modulus)

-- and the second
abbrev pub second_draw : List ℕ → ℕ
second_draw ws = draw_of (first_draw ws)

-- the place that a draw tells
abbrev pub receiver_of : ℕ → ℕ → ℕ
receiver_of p drawn = drawn % p

-- the delay that a draw tells: 1 to 100 seconds, and up to 100 more for each step of the order
abbrev pub delay_of : ℕ → ℕ → ℕ
delay_of order drawn = 1 + drawn % (100 * (1 + order % 256))

-- the second draw is kept for the next message, and one more is counted, up to 2^32 − 1
abbrev pub words_after : List ℕ → List ℕ
words_after ws = slice_set (slice_set ws 0 (second_draw ws)) 1 (min (slice_index ws 1 + 1) (2 ^ 32 - 1))

-- a message of kind 0 with the same data: the first draw tells its receiver, and the second its delay
abbrev pub passed_on : ℕ → ℕ → List ℕ → ℕ → Sent
passed_on p order ws load = record {
  receiver = receiver_of p (first_draw ws);
  delay = delay_of order (second_draw ws);
  kind = 0;
  «data» = load;
}

-- every place passes on whatever reaches it; what is none of the places does nothing
abbrev pub react_of : ℕ → ℕ → ℕ → List ℕ → Arrival → Reaction
react_of p place order ws a =
    if nat_lt place p then record { words = words_after ws; sends = One (passed_on p order ws a.«data») }
    else record { words = ws; sends = Nothing }

-- the whole of it
abbrev pub meaning_of : ℕ → ℕ → ℕ → Meaning
meaning_of p seed r = record { places = p; start = start_of p seed r; react = react_of p }
