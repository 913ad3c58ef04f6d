-- Starting messages.
use Rattle.std.specs.Prelude.{ℕ, suc, List, [], ◌∷◌}
use Rattle.event.specs.declared.Message.{Message}
use Rattle.event.specs.declared.Start.{Start}

-- a starting message has the sender 255 and as number its position in the starting list
abbrev pub message_of : ℕ → Start → Message
message_of position s = record { time = s.time; receiver = s.receiver; sender = 255; number = position; kind = s.kind; «data» = s.«data» }

-- what stands past the end of a starting list
abbrev pub blank_start : Start
blank_start = record { time = 0; receiver = 0; kind = 0; «data» = 0 }

-- the messages of a starting list, the first of which has the position n
abbrev pub numbered : ℕ → List Start → List Message
numbered n [] = []
numbered n (s ∷ ss) = message_of n s ∷ numbered (suc n) ss
