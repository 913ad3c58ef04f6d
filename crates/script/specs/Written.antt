-- A command written out as a line.
use Rattle.std.specs.Prelude.{ℕ, ◌≤◌, ⊤, List, [], ◌∷◌, codes, decimal}
use Rattle.event.specs.declared.Start.{Start as Starting}
use Rattle.text.specs.Written.{spaced}
use Rattle.script.specs.declared.command.CalendarKind.{CalendarKind}
use Rattle.script.specs.declared.command.CalendarKind.TheVariants.{Heap, Buckets}
use Rattle.script.specs.declared.command.ModelSize.{ModelSize}
use Rattle.script.specs.declared.command.ModelSize.TheVariants.{Collection, Phold}
use Rattle.script.specs.declared.command.Command.{Command}
use Rattle.script.specs.declared.command.Command.TheVariants.{Calendar, Model, Start, Load, Step, Branch, Decide, Waive, Retire, Events, Entry, Journal, Place, Next, Shares, Group, Totals}

-- the name of a calendar
abbrev pub calendar_word : CalendarKind → List ℕ
calendar_word Heap = codes "heap"
calendar_word Buckets = codes "buckets"

-- the name of a model, and its numbers
abbrev pub model_words : ModelSize → List (List ℕ)
model_words (Collection f t) = codes "collection" ∷ decimal f ∷ decimal t ∷ []
model_words (Phold p seed r) = codes "phold" ∷ decimal p ∷ decimal seed ∷ decimal r ∷ []

-- the words of a command, with its numbers in decimal
abbrev pub command_words : Command → List (List ℕ)
command_words (Calendar k) = codes "calendar" ∷ calendar_word k ∷ []
command_words (Model m) = codes "model" ∷ model_words m
command_words (Start s) = codes "start" ∷ decimal s.time ∷ decimal s.receiver ∷ decimal s.kind ∷ decimal s.«data» ∷ []
command_words (Load end) = codes "load" ∷ decimal end ∷ []
command_words (Step n) = codes "step" ∷ decimal n ∷ []
command_words (Branch v) = codes "branch" ∷ decimal v ∷ []
command_words (Decide v p order) = codes "decide" ∷ decimal v ∷ decimal p ∷ decimal order ∷ []
command_words (Waive v) = codes "waive" ∷ decimal v ∷ []
command_words (Retire v) = codes "retire" ∷ decimal v ∷ []
command_words (Events v) = codes "events" ∷ decimal v ∷ []
command_words (Entry v i) = codes "entry" ∷ decimal v ∷ decimal i ∷ []
command_words (Journal v) = codes "journal" ∷ decimal v ∷ []
command_words (Place v p) = codes "place" ∷ decimal v ∷ decimal p ∷ []
command_words (Next v) = codes "next" ∷ decimal v ∷ []
command_words (Shares v w p) = codes "shares" ∷ decimal v ∷ decimal w ∷ decimal p ∷ []
command_words (Group v p) = codes "group" ∷ decimal v ∷ decimal p ∷ []
command_words Totals = codes "totals" ∷ []

-- the line
unfoldable pub written : Command → List ℕ
written c = spaced (command_words c)

-- a number of 8 bits
abbrev pub Byte : ℕ → Type 0
Byte n = n ≤ 255

-- a number of 32 bits
abbrev pub Long : ℕ → Type 0
Long n = n ≤ 4294967295

-- a model of numbers that fit
abbrev pub FitsModel : ModelSize → Type 0
FitsModel (Collection f t) = Byte f × Byte t
FitsModel (Phold p seed r) = Byte p × Long seed × Byte r

-- a starting message of numbers that fit
abbrev pub FitsStart : Starting → Type 0
FitsStart s = Long s.time × Byte s.receiver × Byte s.kind × Long s.«data»

-- every number fits its field
abbrev pub Fits : Command → Type 0
Fits (Calendar k) = ⊤
Fits (Model m) = FitsModel m
Fits (Start s) = FitsStart s
Fits (Load end) = Long end
Fits (Step n) = Long n
Fits (Branch v) = Byte v
Fits (Decide v p order) = Byte v × Byte p × Long order
Fits (Waive v) = Byte v
Fits (Retire v) = Byte v
Fits (Events v) = Byte v
Fits (Entry v i) = Byte v × Long i
Fits (Journal v) = Byte v
Fits (Place v p) = Byte v × Byte p
Fits (Next v) = Byte v
Fits (Shares v w p) = Byte v × Byte w × Byte p
Fits (Group v p) = Byte v × Byte p
Fits Totals = ⊤
