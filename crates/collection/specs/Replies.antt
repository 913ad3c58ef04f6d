-- The words of a place, and what a reaction leaves and sends.
use Rattle.std.specs.Prelude.{ℕ, ◌+◌, ◌-◌, ◌^◌, min, if◌then◌else◌, ◌||◌, List, ◌==◌, slice_index, slice_set}
use Rattle.model.specs.declared.Arrival.{Arrival}
use Rattle.model.specs.declared.Sent.{Sent}
use Rattle.model.specs.declared.Sends.{Sends}
use Rattle.model.specs.declared.Sends.TheVariants.{Nothing, One}
use Rattle.model.specs.Meaning.{Reaction}
use Rattle.collection.specs.Kinds.{milked, loaded, unload}

-- word i of a place
abbrev pub word : List ℕ → ℕ → ℕ
word ws i = slice_index ws i

-- a word or an end that would pass 2^32 − 1 stands there
abbrev pub grown : ℕ → ℕ → ℕ
grown a b = min (a + b) (2 ^ 32 - 1)

-- a message by its receiver, delay, kind and data
abbrev pub message : ℕ → ℕ → ℕ → ℕ → Sent
message receiver delay kind litres = record { receiver = receiver; delay = delay; kind = kind; «data» = litres }

-- a place has these words after its reaction, and sends this
abbrev pub reacted : List ℕ → Sends → Reaction
reacted ws sends = record { words = ws; sends = sends }

-- nothing is sent
abbrev pub silent : List ℕ → Reaction
silent ws = record { words = ws; sends = Nothing }

-- one message is sent
abbrev pub sending : List ℕ → Sent → Reaction
sending ws s = record { words = ws; sends = One s }

-- any other message is ignored: nothing is sent, and only word 7 changes, by the data if the kind is milked, loaded or unload
abbrev pub ignored : List ℕ → Arrival → Reaction
ignored ws a =
    silent (if a.kind == milked || (a.kind == loaded || a.kind == unload) then slice_set ws 7 (grown (word ws 7) a.«data») else ws)
