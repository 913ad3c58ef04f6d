-- What is read of a variant v of a collection day on a study.
use Rattle.std.specs.Prelude.{◌≡◌, ◌+◌, ◌<◌, ℕ, Bool, true, false, List, length, None, Some, Ok, slice_index_or, vec_items}
use Rattle.account.specs.Account.{reading, place_of, entry_of, events_of, next_of, sharing}
use Rattle.account.specs.Answers.{stands, message, number, waits, shared}
use Rattle.collection.specs.declared.Collection.{Collection}
use Rattle.collection.specs.Rules.{meaning_of}
use Rattle.day.specs.Blank.{blank_place}
use Rattle.day.specs.Day.{reaction}
use Rattle.day.specs.declared.place.Place.{Place}
use Rattle.day.specs.declared.place.Ran.{Ran}
use Rattle.event.specs.Keys.{blank}
use Rattle.event.specs.declared.Message.{Message}
use Rattle.heap_calendar.specs.Laws.{contents_of}
use Rattle.heap_calendar.specs.declared.store.HeapCalendar.{HeapCalendar}
use Rattle.report.specs.declared.ended.Ended.{Ended}
use Rattle.sheet.specs.Standings.{cause_in}
use Rattle.sheet.specs.declared.standing.Cause.TheVariants.{Plan}
use Rattle.sheet.specs.declared.standing.Parting.{Parting}
use Rattle.sheet.specs.declared.standing.Standing.{Standing}
use Rattle.sheet.specs.declared.standing.Standing.TheVariants.{TakenOver, Own}
use Rattle.study.specs.Promises.{Tells}
use Rattle.study.specs.declared.Study.{Study}

-- the place p is told to stand so
abbrev pub StandsAs : Study HeapCalendar Collection → ℕ → ℕ → Place → Type 0
StandsAs s v p x = Tells contents_of (λ m. meaning_of m.farms m.tankers) s (reading (place_of v p)) stands (Ok x)

-- entry i is told to be m
abbrev pub RanAs : Study HeapCalendar Collection → ℕ → ℕ → Message → Type 0
RanAs s v i m = Tells contents_of (λ m. meaning_of m.farms m.tankers) s (reading (entry_of v i)) message (Ok m)

-- the first n places, as they are told
pub record ReadsPlaces (s : Study HeapCalendar Collection) (v n : ℕ) (xs : List Place) : Type 0 where
  pub count : length xs ≡ n
  pub each : (p : ℕ) → p < n → StandsAs s v p (slice_index_or xs p blank_place)

-- the first n entries, as they are told
pub record ReadsEntries (s : Study HeapCalendar Collection) (v n : ℕ) (ms : List Message) : Type 0 where
  pub count : length ms ≡ n
  pub each : (i : ℕ) → i < n → RanAs s v i (slice_index_or ms i blank)

-- how many events have run
abbrev pub HasRun : Study HeapCalendar Collection → ℕ → ℕ → Type 0
HasRun s v n = Tells contents_of (λ m. meaning_of m.farms m.tankers) s (reading (events_of v)) number (Ok n)

-- all places and the whole journal, as they are told
pub record Reads (s : Study HeapCalendar Collection) (v : ℕ) (d : Ended) : Type 0 where
  pub places : ReadsPlaces s v (1 + d.model.farms + d.model.tankers) (vec_items d.places)
  pub events : HasRun s v (length (vec_items d.journal))
  pub journal : ReadsEntries s v (length (vec_items d.journal)) (vec_items d.journal)

-- nothing is told to wait
abbrev pub NothingNext : Study HeapCalendar Collection → ℕ → Type 0
NothingNext s v = Tells contents_of (λ m. meaning_of m.farms m.tankers) s (reading (next_of v)) waits (Ok None)

-- the message of the event is told to be next, and its receiver sends this, as it is told to stand
pub record RunsNext (s : Study HeapCalendar Collection) (model : Collection) (v : ℕ) (ran : Ran) : Type 0 where
  pub next : Tells contents_of (λ m. meaning_of m.farms m.tankers) s (reading (next_of v)) waits (Ok (Some ran.message))
  pub place : Place
  pub stands : StandsAs s v ran.message.receiver place
  pub sends : ran.sends ≡ (reaction (meaning_of model.farms model.tankers) place ran.message).sends

-- v and w are told to share the place p, or not to
abbrev pub SharesAs : Study HeapCalendar Collection → ℕ → ℕ → ℕ → Bool → Type 0
SharesAs s v w p b = Tells contents_of (λ m. meaning_of m.farms m.tankers) s (reading (sharing v w p)) shared (Ok b)

-- v shares the place p with no smaller variant
abbrev pub IsOwn : Study HeapCalendar Collection → ℕ → ℕ → Type 0
IsOwn s v p = (w : ℕ) → w < v → SharesAs s v w p false

-- w is the smallest variant with which v shares the place p
pub record IsTakenOver (s : Study HeapCalendar Collection) (v p w : ℕ) : Type 0 where
  pub smaller : w < v
  pub shared : SharesAs s v w p true
  pub first : (u : ℕ) → u < w → SharesAs s v u p false

-- the place p of v stands so, and if it is its own, for what is listed
abbrev pub StandsBy : Study HeapCalendar Collection → List Parting → ℕ → ℕ → Standing → Type 0
StandsBy s partings v p (TakenOver w) = IsTakenOver s v p w
StandsBy s partings v p (Own cause) = IsOwn s v p × (cause ≡ cause_in partings v p)

-- the first n places stand so
pub record ReadsStandings (s : Study HeapCalendar Collection) (partings : List Parting) (v n : ℕ) (xs : List Standing) : Type 0 where
  pub count : length xs ≡ n
  pub each : (p : ℕ) → p < n → StandsBy s partings v p (slice_index_or xs p (Own Plan))
