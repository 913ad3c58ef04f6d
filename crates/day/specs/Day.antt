-- The day run alone: one event after the other, the waiting message with the smallest key first.
use Rattle.std.specs.Prelude.{ℕ, suc, ◌+◌, if◌then◌else◌, List, [], ◌∷◌, ◌++◌, length, Some, None, filter, Option, ◌==◌, nat_le}
use Rattle.event.specs.declared.Message.{Message}
use Rattle.event.specs.declared.Start.{Start}
use Rattle.event.specs.Keys.{key_of}
use Rattle.event.specs.Lists.{insert_all, first, rest}
use Rattle.event.specs.Starts.{numbered}
use Rattle.model.specs.declared.Sent.{Sent}
use Rattle.model.specs.Meaning.{Meaning, Reaction, arrival_of, listed}
use Rattle.day.specs.declared.place.Place.{Place}

pub record Day : Type 0 where
  -- by its number
  pub place : ℕ → Place
  -- in the order of their keys
  pub waiting : List Message
  -- what has run, oldest first
  pub journal : List Message

-- what a place does with a message, under the order that stands there
abbrev pub reaction : Meaning → Place → Message → Reaction
reaction M p m = M.react m.receiver p.order p.words (arrival_of m)

-- a message sent now, as its sender's message number n
abbrev pub stamp : ℕ → ℕ → ℕ → Sent → Message
stamp now sender n s = record { time = now + s.delay; receiver = s.receiver; sender = sender; number = n; kind = s.kind; «data» = s.«data» }

-- several, numbered from n on
abbrev pub stamped : ℕ → ℕ → ℕ → List Sent → List Message
stamped now sender n [] = []
stamped now sender n (s ∷ ss) = stamp now sender n s ∷ stamped now sender (suc n) ss

-- those not later than the end of day; the others are lost
abbrev pub within : ℕ → List Message → List Message
within end ms = filter (λ m. nat_le m.time end) ms

-- what a place sends when it runs a message: each has its number and a time
abbrev pub sent_by : Meaning → Place → Message → List Message
sent_by M p m = stamped m.time m.receiver p.sent (listed (reaction M p m).sends)

-- those of them that go on to wait
abbrev pub posted_by : Meaning → ℕ → Place → Message → List Message
posted_by M end p m = within end (sent_by M p m)

-- its words are the reaction's, and its send count grows by one for each message, lost ones too
abbrev pub place_after : Meaning → Place → Message → Place
place_after M p m = record { words = (reaction M p m).words; order = p.order; sent = p.sent + length (listed (reaction M p m).sends) }

abbrev pub event_at : Meaning → ℕ → Day → Option Message → Day
event_at M end d None = d
event_at M end d (Some m) = record {
  place = λ p. if p == m.receiver then place_after M (d.place m.receiver) m else d.place p;
  waiting = insert_all key_of (posted_by M end (d.place m.receiver) m) (rest d.waiting);
  journal = d.journal ++ m ∷ [];
}

-- the waiting message with the smallest key is run; where none waits, nothing happens
abbrev pub event : Meaning → ℕ → Day → Day
event M end d = event_at M end d (first d.waiting)

abbrev pub ordered_place : Place → ℕ → Place
ordered_place p value = record { words = p.words; order = value; sent = p.sent }

-- an order stands at a place from now on
abbrev pub ordered : Day → ℕ → ℕ → Day
ordered d at value = record {
  place = λ p. if p == at then ordered_place (d.place at) value else d.place p;
  waiting = d.waiting;
  journal = d.journal;
}

-- a place as the day begins
abbrev pub starting_place : Meaning → ℕ → Place
starting_place M p = record { words = M.start p; order = 0; sent = 0 }

-- the starting list waits, and nothing has run
abbrev pub starting : Meaning → List Start → Day
starting M starts = record { place = starting_place M; waiting = insert_all key_of (numbered 0 starts) []; journal = [] }
