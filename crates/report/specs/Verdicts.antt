-- When a day that has ended agrees with the day run alone.
use Rattle.std.specs.Prelude.{◌≡◌, ◌≢◌, ◌<◌, ◌≤◌, ℕ, ◌+◌, List, [], length, Ok}
use Rattle.std.specs.List.{slice_get}
use Rattle.event.specs.declared.Message.{Message}
use Rattle.collection.specs.declared.Collection.{Collection}
use Rattle.collection.specs.Rules.{meaning_of}
use Rattle.day.specs.Answers.{place_answer}
use Rattle.day.specs.Day.{Day}
use Rattle.day.specs.Held.{day_of}
use Rattle.day.specs.declared.lone.LoneDay.{LoneDay}
use Rattle.report.specs.Days.{the_day}
use Rattle.report.specs.declared.ended.Ended.{Ended}

abbrev pub lone_day : LoneDay Collection → Day
lone_day a = day_of (meaning_of a.model.farms a.model.tankers) a

-- the same events have run, and none waits
abbrev pub SameEvents : Ended → LoneDay Collection → Type 0
SameEvents d a = ((the_day d).journal ≡ (lone_day a).journal) × ((lone_day a).waiting ≡ [])

-- n events are the same in both, and then they part, if the first goes on
pub record PartAfter (ran alone : List Message) (n : ℕ) : Type 0 where
  pub within : n ≤ length ran
  pub before : (i : ℕ) → i < n → slice_get ran i ≡ slice_get alone i
  pub there : n < length ran → slice_get ran n ≢ slice_get alone n

-- the place stands the same in both: its words, its order and its send count
abbrev pub SamePlace : Ended → LoneDay Collection → ℕ → Type 0
SamePlace d a p = place_answer (meaning_of a.model.farms a.model.tankers) (lone_day a) p ≡ Ok ((the_day d).place p)

-- the first place that does not stand the same in both
pub record FirstUnlike (d : Ended) (a : LoneDay Collection) (p : ℕ) : Type 0 where
  pub within : p ≤ d.model.farms + d.model.tankers
  pub unlike : place_answer (meaning_of a.model.farms a.model.tankers) (lone_day a) p ≢ Ok ((the_day d).place p)
  pub before : (q : ℕ) → q < p → SamePlace d a q

-- the same events have run, and every place stands the same
pub record Agrees (d : Ended) (a : LoneDay Collection) : Type 0 where
  pub events : SameEvents d a
  pub places : (p : ℕ) → p ≤ d.model.farms + d.model.tankers → SamePlace d a p
