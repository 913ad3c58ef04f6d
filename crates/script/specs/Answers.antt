-- The line that is printed in answer to a command, word by word.
use Rattle.std.specs.Prelude.{ℕ, true, false, List, [], ◌∷◌, Some, None, codes, decimal, Option, slice_index}
use Rattle.event.specs.declared.Message.{Message}
use Rattle.refusal.specs.declared.Layer.{Layer}
use Rattle.refusal.specs.declared.Layer.TheVariants as layer
use Rattle.day.specs.declared.place.Place.{Place as Standing}
use Rattle.text.specs.Written.{spaced}
use Rattle.script.specs.declared.answer.Answer.{Answer}
use Rattle.script.specs.declared.answer.Answer.TheVariants.{Model, Loaded, Ran, Branched, Decided, Waived, Retired, Events, Entry, Place, Next, Shares, Group, Totals, NoPermit, NoStudy, Refused}
use Rattle.script.specs.Written.{model_words}

-- the word for a layer
abbrev pub word_of_layer : Layer → List ℕ
word_of_layer layer.Calendar = codes "calendar"
word_of_layer layer.Model = codes "model"
word_of_layer layer.Study = codes "study"

-- time, receiver, sender, number, kind and data
abbrev pub message_words : Message → List (List ℕ)
message_words m = decimal m.time ∷ decimal m.receiver ∷ decimal m.sender ∷ decimal m.number ∷ decimal m.kind ∷ decimal m.«data» ∷ []

-- word i of a place
abbrev pub word_at : Standing → ℕ → List ℕ
word_at p i = decimal (slice_index p.words i)

-- the eight words, the order that stands there, and how many messages were sent
abbrev pub place_words : Standing → List (List ℕ)
place_words p =
    word_at p 0 ∷ word_at p 1 ∷ word_at p 2 ∷ word_at p 3 ∷ word_at p 4 ∷ word_at p 5 ∷ word_at p 6 ∷ word_at p 7
    ∷ codes "order" ∷ decimal p.order ∷ codes "sent" ∷ decimal p.sent ∷ []

-- a message that waits, if any
abbrev pub next_words : Option Message → List (List ℕ)
next_words None = codes "nothing" ∷ []
next_words (Some m) = message_words m

-- the words for each answer
abbrev pub answer_words : Answer → List (List ℕ)
answer_words (Model m) = codes "model" ∷ model_words m
answer_words (Loaded v) = codes "loaded" ∷ decimal v ∷ []
answer_words (Ran n) = codes "ran" ∷ decimal n ∷ []
answer_words (Branched v) = codes "branched" ∷ decimal v ∷ []
answer_words (Decided v) = codes "decided" ∷ decimal v ∷ []
answer_words (Waived v) = codes "waived" ∷ decimal v ∷ []
answer_words (Retired v) = codes "retired" ∷ decimal v ∷ []
answer_words (Events n) = codes "events" ∷ decimal n ∷ []
answer_words (Entry m) = codes "entry" ∷ message_words m
answer_words (Place p) = codes "place" ∷ place_words p
answer_words (Next o) = codes "next" ∷ next_words o
answer_words (Shares true) = codes "shares" ∷ codes "yes" ∷ []
answer_words (Shares false) = codes "shares" ∷ codes "no" ∷ []
answer_words (Group n) = codes "group" ∷ decimal n ∷ []
answer_words (Totals x c e) = codes "totals" ∷ decimal x ∷ decimal c ∷ decimal e ∷ []
answer_words (NoPermit v) = codes "no" ∷ codes "permit" ∷ decimal v ∷ []
answer_words NoStudy = codes "no" ∷ codes "study" ∷ []
answer_words (Refused r) = codes "refused" ∷ decimal r.number ∷ word_of_layer r.layer ∷ decimal r.position ∷ []

-- the line, with a space between each two words
abbrev pub answer_line : Answer → List ℕ
answer_line a = spaced (answer_words a)
