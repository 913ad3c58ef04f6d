-- What a study holds, as plain values, and what every call promises of it.
use Rattle.std.specs.Prelude.{◌≡◌, ℕ, Ok, Err, Result, List}
use Rattle.calendar.specs.Contents.{Contents}
use Rattle.calendar.specs.declared.Held.{Held}
use Rattle.day.specs.declared.place.Place.{Place}
use Rattle.model.specs.Meaning.{Meaning}
use Rattle.study.specs.declared.register.Register.{Register}
use Rattle.account.specs.Account.{Account, Call}
use Rattle.account.specs.Answers.{Answer, refused, counted, after, answer}
use Rattle.copies.specs.Cells.{cell_of, content_of}
use Rattle.follows.specs.View.{View}
use Rattle.follows.specs.Accounted.{Accounted}
use Rattle.follows.specs.Answering.{answer_of}
use Rattle.study.specs.declared.Study.{Study}
use Rattle.study.specs.declared.fault.StudyFault.{StudyFault}
use Rattle.study.specs.Faults.{refusal_of}

abbrev pub view_from : Contents → Register → (ℕ → ℕ → ℕ) → (ℕ → Place) → List Held → View
view_from contents register cell content entries = record {
  loaded = register.loaded;
  end = register.end;
  held = contents.held;
  cell = cell;
  content = content;
  entries = entries;
  live = register.live;
  undecided = register.undecided;
  made = register.made;
  executions = register.executions;
  puts = contents.puts;
}

-- what waits is in the calendar, what each variant has at each place in the copies, and what has run in the journal
abbrev pub view_of : {C M : Type 0} → (C → Contents) → Study C M → View
view_of contents s = view_from (contents s.calendar) s.register (cell_of s.copies) (content_of s.copies) s.journal

-- a result as an answer
abbrev pub answered : {X : Type 0} → (X → Answer) → Result X StudyFault → Answer
answered f (Ok x) = f x
answered f (Err e) = refused (refusal_of e)

abbrev pub totals_answer : ℕ × ℕ × ℕ → Answer
totals_answer t = counted t.0 t.1 t.2

-- what a call tells follows from what the study holds
abbrev pub Tells : {C M X : Type 0} → (C → Contents) → (M → Meaning) → Study C M → Call → (X → Answer) → Result X StudyFault → Type 0
Tells contents meaning s call f r = answered f r ≡ answer_of (meaning s.model) (contents s.calendar).room (view_of contents s) call

-- accepted calls have led to the account, and the study follows it
abbrev pub Serves : {C M : Type 0} → (C → Contents) → (M → Meaning) → Study C M → Account → Type 0
Serves contents meaning s A = Accounted (meaning s.model) (contents s.calendar).room (view_of contents s) A

-- a call answers as every account that the study follows
abbrev pub Answers : {C M X : Type 0} → (C → Contents) → (M → Meaning) → Study C M → Call → (X → Answer) → Result X StudyFault → Type 0
Answers contents meaning s call f r = (A : Account) → Serves contents meaning s A → answered f r ≡ answer (meaning s.model) (contents s.calendar).room A call

-- and it goes on following the account that is told of the call
abbrev pub Keeps : {C M : Type 0} → (C → Contents) → (M → Meaning) → Study C M → Call → Study C M → Type 0
Keeps contents meaning s call t = (A : Account) → Serves contents meaning s A → Serves contents meaning t (after (meaning s.model) (contents s.calendar).room A call)

-- the same model, and a calendar of the same capacity
pub record SameParts {C M : Type 0} (contents : C → Contents) (s t : Study C M) : Type 0 where
  pub model : t.model ≡ s.model
  pub room : (contents t.calendar).room ≡ (contents s.calendar).room

-- all that it holds is the same; which messages a step would run is of no matter
pub record SameHeld {C M : Type 0} (s t : Study C M) : Type 0 where
  pub calendar : t.calendar ≡ s.calendar
  pub model : t.model ≡ s.model
  pub register : t.register ≡ s.register
  pub copies : t.copies ≡ s.copies
  pub journal : t.journal ≡ s.journal
