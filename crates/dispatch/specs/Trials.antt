-- How a variant is tried, on a study and alone.
use Rattle.std.specs.Prelude.{◌≡◌, ℕ, List, [], map, None, Some, Option, Ok, Result, vec_items}
use Rattle.account.specs.Account.{branch, decide}
use Rattle.account.specs.Answers.{variant, done}
use Rattle.collection.specs.Choice.{order_of}
use Rattle.collection.specs.Places.{dairy}
use Rattle.collection.specs.declared.Collection.{Collection}
use Rattle.collection.specs.Rules.{meaning_of}
use Rattle.day.specs.Day.{Day, ordered, starting}
use Rattle.day.specs.Held.{day_of}
use Rattle.day.specs.Runs.{Later, events}
use Rattle.day.specs.declared.lone.LoneDay.{LoneDay}
use Rattle.dayfile.specs.declared.plan.Plan.{Plan}
use Rattle.event.specs.declared.Start.{Start}
use Rattle.heap_calendar.specs.Laws.{contents_of}
use Rattle.heap_calendar.specs.declared.store.HeapCalendar.{HeapCalendar}
use Rattle.model.specs.Meaning.{Meaning}
use Rattle.sheet.specs.declared.trial.Trial.{Trial}
use Rattle.study.specs.Promises.{Keeps, Tells}
use Rattle.study.specs.declared.Study.{Study}
use Rattle.study.specs.declared.fault.StudyFault.{StudyFault}

-- the call was carried out, and has nothing to tell
abbrev pub carried_out : Result (Unit {0}) StudyFault
carried_out = Ok tt

-- variant 0 was branched, and its child v was given the order at the dairy
pub record BranchedFor (s t : Study HeapCalendar Collection) (order v : ℕ) : Type 0 where
  pub between : Study HeapCalendar Collection
  pub branched : Tells contents_of (λ m. meaning_of m.farms m.tankers) s (branch 0) variant (Ok v)
  pub child : Keeps contents_of (λ m. meaning_of m.farms m.tankers) s (branch 0) between
  pub ordered : Tells contents_of (λ m. meaning_of m.farms m.tankers) between (decide v dairy order) (λ _. done) carried_out
  pub kept : Keeps contents_of (λ m. meaning_of m.farms m.tankers) between (decide v dairy order) t

-- the day of these starts as a trial begins: so many events have run, and the order is given
abbrev pub tried_day : Meaning → ℕ → List Start → Option Trial → Day
tried_day M end starts None = starting M starts
tried_day M end starts (Some t) = ordered (events M end t.events (starting M starts)) dairy (order_of t.preference)

-- a trial of the plan's day, run alone to its end
pub record RanAlone (m : Collection) (plan : Plan) (trial : Option Trial) (d : LoneDay Collection) : Type 0 where
  pub model : d.model ≡ m
  pub later : Later (meaning_of m.farms m.tankers) plan.«end» (tried_day (meaning_of m.farms m.tankers) plan.«end» (map (λ x. x.start) (vec_items plan.milkings)) trial) (day_of (meaning_of m.farms m.tankers) d)
  pub over : (day_of (meaning_of m.farms m.tankers) d).waiting ≡ []
