-- The figures of a collection day with f farms and t tankers.
use Rattle.std.specs.Prelude.{ℕ, ◌+◌, ◌-◌, Bool, if◌then◌else◌, not, ◌&&◌, List, [], ◌∷◌, ◌++◌, map, length, Some, None, fold, sum_by, count_by, filter, Option, ◌==◌}
use Rattle.std.specs.List.{list_any, range_with_len}
use Rattle.event.specs.declared.Message.{Message}
use Rattle.collection.specs.Kinds.{milked, pump, unload}
use Rattle.collection.specs.Places.{dairy, is_tanker_place}
use Rattle.collection.specs.Replies.{word}
use Rattle.day.specs.Day.{Day}
use Rattle.report.specs.declared.figures.Fact.{Fact}
use Rattle.report.specs.declared.figures.Fact.TheVariants.{Received, Left, NotVisited, LastUnloading, Events, Lost}

-- some message of the list is of this kind
abbrev pub some : (Message → Bool) → List Message → Bool
some is ms = list_any is ms

-- milk is announced at the farm
abbrev pub is_milking_message : ℕ → Message → Bool
is_milking_message farm m = m.receiver == farm && m.kind == milked

-- a message of this kind reaches the place from a tanker
abbrev pub comes_from_tanker_to : ℕ → ℕ → ℕ → ℕ → Message → Bool
comes_from_tanker_to f t place kind m = (m.receiver == place && m.kind == kind) && is_tanker_place f t m.sender

-- a tanker pumps at the farm
abbrev pub is_pumping_message : ℕ → ℕ → ℕ → Message → Bool
is_pumping_message f t farm m = comes_from_tanker_to f t farm pump m

-- a tanker unloads at the dairy
abbrev pub is_unloading_message : ℕ → ℕ → Message → Bool
is_unloading_message f t m = comes_from_tanker_to f t dairy unload m

-- a place has sent it: no starting message
abbrev pub is_sent : Message → Bool
is_sent m = not (m.sender == 255)

-- the farm has milked, and no tanker has pumped there
abbrev pub not_visited : ℕ → ℕ → List Message → ℕ → Bool
not_visited f t journal farm = some (is_milking_message farm) journal && not (some (is_pumping_message f t farm) journal)

abbrev pub later_unloading_of : ℕ → ℕ → Option ℕ → Message → Option ℕ
later_unloading_of f t last m = if is_unloading_message f t m then Some m.time else last

-- when a tanker last began to unload
abbrev pub last_unloading_of : ℕ → ℕ → List Message → Option ℕ
last_unloading_of f t journal = fold (later_unloading_of f t) None journal

-- the messages that the places have sent
abbrev pub all_sent_of : ℕ → Day → ℕ
all_sent_of places d = sum_by (λ p. (d.place p).sent) (range_with_len 0 places)

-- those of them that have run or wait; the others were later than the end of day
abbrev pub lost : ℕ → Day → ℕ
lost places d = all_sent_of places d - (count_by is_sent d.journal + count_by is_sent d.waiting)

-- what is left at each farm
abbrev pub left_facts : ℕ → Day → List Fact
left_facts f d = map (λ i. Left i (word (d.place i).words 0)) (range_with_len 1 f)

-- those of the first n farms that were not visited
abbrev pub unvisited_up_to : ℕ → ℕ → ℕ → List Message → List Fact
unvisited_up_to n f t journal = map (λ i. NotVisited i) (filter (not_visited f t journal) (range_with_len 1 n))

-- the summary of a day
abbrev pub facts_of : ℕ → ℕ → Day → List Fact
facts_of f t d =
    Received (word (d.place dairy).words 3) ∷ (left_facts f d ++ (unvisited_up_to f f t d.journal
    ++ (LastUnloading (last_unloading_of f t d.journal) ∷ Events (length d.journal) ∷ Lost (lost (1 + f + t) d) ∷ [])))
