-- Events one after the other, and a closure that is told of each.
use Rattle.std.specs.Borrow.{Bor}
use Rattle.std.specs.List.{FoldsTo}
use Rattle.std.specs.Prelude.{◌≡◌, ℕ, zero, suc, ◌<◌, List, [], ◌∷◌, ◌++◌, true, is_ok, Some, None, Option, Ok, Err, Result}
use Rattle.event.specs.declared.Message.{Message}
use Rattle.event.specs.Lists.{first}
use Rattle.model.specs.Meaning.{Meaning}
use Rattle.day.specs.declared.fault.DayFault.{DayFault}
use Rattle.day.specs.declared.fault.Stop.{Stop}
use Rattle.day.specs.declared.fault.Stop.TheVariants.{Refused, Untold}
use Rattle.day.specs.declared.lone.LoneDay.{LoneDay}
use Rattle.day.specs.declared.place.Ran.{Ran}
use Rattle.day.specs.Answers.{event_answer, ran_of}
use Rattle.day.specs.Day.{Day, event}
use Rattle.day.specs.Held.{day_of}

-- the day d after n events
abbrev pub events : Meaning → ℕ → ℕ → Day → Day
events M end zero d = d
events M end (suc n) d = event M end (events M end n d)

-- e is the day d after some events
pub record Later (M : Meaning) (end : ℕ) (d e : Day) : Type 0 where
  pub count : ℕ
  pub day : e ≡ events M end count d

-- the next event of d, if a message waits
abbrev pub next_ran : Meaning → Day → Option Message → List Ran
next_ran M d None = []
next_ran M d (Some m) = ran_of M d m ∷ []

-- those n events, or as many as there are
abbrev pub rans : Meaning → ℕ → ℕ → Day → List Ran
rans M end zero d = []
rans M end (suc n) d = rans M end n d ++ next_ran M (events M end n d) (first (events M end n d).waiting)

-- a call was given references to the model and to the event
pub record Tells {X : Type 0} (call : Bor X → Bor Ran → Type 0) (model : X) (ran : Ran) : Type 0 where
  pub first : Bor X
  pub second : Bor Ran
  pub shows : (first.now ≡ model) × (second.now ≡ ran)
  pub called : call first second

-- a run of the day that `old` holds, which tells the closure `tell` of its events; `step` is what a call of it may answer, and what the call leaves of it
module _ {X F E : Type 0} (step : F → Bor X → Bor Ran → Result (Unit {0}) E → F → Type 0) (M : Meaning) (old : LoneDay X) (tell : F) where
  abbrev pub after : ℕ → Day
  after n = events M old.waiting.end n (day_of M old)

  -- some events ran, none of them refused, and led to the day d; the closure was told of each, in sequence, with the model, answered Ok each time, and is now f
  pub record Told (d : Day) (f : F) : Type 0 where
    pub count : ℕ
    pub day : d ≡ after count
    pub room : (n : ℕ) → n < count → is_ok (event_answer M old.waiting.capacity (after n)) ≡ true
    pub calls : FoldsTo (λ g ran h. Tells (λ x y. step g x y (Ok tt) h) old.model ran) tell (rans M old.waiting.end count (day_of M old)) f

  -- all events were told, and nothing waits
  pub record Ended (d : Day) : Type 0 where
    pub last : F
    pub told : Told d last
    pub waiting : d.waiting ≡ []

  -- all events that ran were told, and the next is refused
  pub record RefusedBy (fault : DayFault) (d : Day) : Type 0 where
    pub last : F
    pub told : Told d last
    pub next : event_answer M old.waiting.capacity d ≡ Err fault

  -- all events before the last were told, and telling of the last failed
  pub record UntoldBy (error : E) (d : Day) : Type 0 where
    pub before : Day
    pub asked : F
    pub told : Told before asked
    pub ran : Ran
    pub next : event_answer M old.waiting.capacity before ≡ Ok (Some ran)
    pub day : d ≡ event M old.waiting.end before
    pub last : F
    pub failed : Tells (λ x y. step asked x y (Err error) last) old.model ran

  -- what a run has done that answers thus and leaves the day d
  abbrev pub Outcome : Result (Unit {0}) (Stop E) → Day → Type 0
  Outcome (Ok _) d = Ended d
  Outcome (Err (Refused fault)) d = RefusedBy fault d
  Outcome (Err (Untold error)) d = UntoldBy error d
