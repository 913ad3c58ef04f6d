-- The day of a plan on a study in all its variants.
use Rattle.std.specs.Prelude.{◌≡◌, ◌≢◌, ◌⊎◌, ℕ, zero, suc, List, [], ◌∷◌, ◌++◌, ◌<◌, map, length, false, None, Some, Ok, MatchOption, slice_get, slice_index_or, vec_items}
use Rattle.account.specs.Account.{step, reading, next_of}
use Rattle.account.specs.Answers.{waits}
use Rattle.collection.specs.declared.Collection.{Collection}
use Rattle.collection.specs.Rules.{meaning_of}
use Rattle.dayfile.specs.declared.plan.Plan.{Plan}
use Rattle.dispatch.specs.declared.course.Course.{Course}
use Rattle.dispatch.specs.declared.course.Event.{Event}
use Rattle.dispatch.specs.declared.course.Poised.{Poised}
use Rattle.dispatch.specs.declared.course.Step.{Step}
use Rattle.dispatch.specs.declared.course.Step.TheVariants.{Over, Planned, Tried}
use Rattle.dispatch.specs.Readings.{HasRun, IsOwn, IsTakenOver, NothingNext, RunsNext}
use Rattle.dispatch.specs.declared.course.Variant.{Variant}
use Rattle.event.specs.Keys.{before, key_of}
use Rattle.event.specs.declared.Key.{Key}
use Rattle.event.specs.declared.Message.{Message}
use Rattle.heap_calendar.specs.Laws.{contents_of}
use Rattle.heap_calendar.specs.declared.store.HeapCalendar.{HeapCalendar}
use Rattle.report.specs.Deeds.{deed_of}
use Rattle.sheet.specs.declared.standing.Cause.{Cause}
use Rattle.sheet.specs.declared.standing.Cause.TheVariants.{Event as of_event}
use Rattle.sheet.specs.declared.standing.Parting.{Parting}
use Rattle.study.specs.Plain.{NeverBranched}
use Rattle.study.specs.Promises.{Keeps, Tells}
use Rattle.study.specs.declared.Study.{Study}

-- the plan's day has been loaded, and variant 0 is its one variant
pub record Loaded (m : Collection) (plan : Plan) (c : Course) : Type 0 where
  pub model : c.model ≡ m
  pub study : NeverBranched contents_of (λ x. meaning_of x.farms x.tankers) (map (λ x. x.start) (vec_items plan.milkings)) plan.«end» c.study
  pub variants : vec_items c.variants ≡ record { number = 0; trial = None } ∷ []
  pub partings : vec_items c.partings ≡ []

-- the same study, model and variants
pub record SameDay (c d : Course) : Type 0 where
  pub study : d.study ≡ c.study
  pub model : d.model ≡ c.model
  pub variants : d.variants ≡ c.variants

-- so v is told to stand before a step that works the place p
pub record IsPoised (s : Study HeapCalendar Collection) (m : Collection) (v p : ℕ) (before : Poised) : Type 0 where
  pub number : before.number ≡ v
  pub events : HasRun s v before.events
  pub next : MatchOption before.next (NothingNext s v) (RunsNext s m v)
  pub giver : MatchOption before.giver (IsOwn s v p) (IsTakenOver s v p)

abbrev pub blank_variant : Variant
blank_variant = record { number = 0; trial = None }

-- the number of variant i in the list
abbrev pub number_at : List Variant → ℕ → ℕ
number_at xs i = (slice_index_or xs i blank_variant).number

-- before a step
abbrev pub blank_poised : Poised
blank_poised = record { number = 0; events = 0; next = None; giver = None }

-- the first n variants stand so before a step that works the place p
pub record PoisesFirst (s : Study HeapCalendar Collection) (m : Collection) (xs : List Variant) (p n : ℕ) (all : List Poised) : Type 0 where
  pub count : length all ≡ n
  pub each : (i : ℕ) → i < n → IsPoised s m (number_at xs i) p (slice_index_or all i blank_poised)

-- the message with this key is told to be v's next
pub record WaitsFor (s : Study HeapCalendar Collection) (v : ℕ) (k : Key) : Type 0 where
  pub message : Message
  pub next : Tells contents_of (λ m. meaning_of m.farms m.tankers) s (reading (next_of v)) waits (Ok (Some message))
  pub key : key_of message ≡ k

-- v is told to wait for nothing that comes before this key
abbrev pub NoneBefore : Study HeapCalendar Collection → Key → ℕ → Type 0
NoneBefore s k v = NothingNext s v ⊎ ((j : Key) × WaitsFor s v j × (before j k ≡ false))

-- the key k waits in one of the first n variants, and none of these waits for one before it
pub record IsLeast (s : Study HeapCalendar Collection) (xs : List Variant) (n : ℕ) (k : Key) : Type 0 where
  pub index : ℕ
  pub within : index < n
  pub waiting : WaitsFor s (number_at xs index) k
  pub least : (i : ℕ) → i < n → NoneBefore s k (number_at xs i)

-- nothing waits in the first n variants
abbrev pub NothingWaits : Study HeapCalendar Collection → List Variant → ℕ → Type 0
NothingWaits s xs n = (i : ℕ) → i < n → NothingNext s (number_at xs i)

-- p is the receiver of the smallest key
pub record WorksNext (s : Study HeapCalendar Collection) (xs : List Variant) (p : ℕ) : Type 0 where
  pub key : Key
  pub least : IsLeast s xs (length xs) key
  pub place : p ≡ key.receiver

-- the variant has run this many events by now, which is more or less than before, and what it was to run
pub record IsEventOf (s : Study HeapCalendar Collection) (before : Poised) (e : Event) : Type 0 where
  pub number : HasRun s before.number e.number
  pub other : e.number ≢ before.events
  pub ran : before.next ≡ Some e.ran

-- the variant has run as many events as before, or was to run nothing
abbrev pub RanNothing : Study HeapCalendar Collection → Poised → Type 0
RanNothing s before = HasRun s before.number before.events ⊎ (before.next ≡ None)

-- the event of a variant as a cause
pub record PartsBy (s : Study HeapCalendar Collection) (m : Collection) (before : Poised) (c : Cause) : Type 0 where
  pub event : Event
  pub of : IsEventOf s before event
  pub cause : c ≡ of_event before.number event.number (record { time = event.ran.message.time; deed = deed_of m.farms m.tankers event.ran })

-- the event of the variant itself, or, if it ran nothing, of the one that it shared the place with
abbrev pub CausedBy : Study HeapCalendar Collection → Collection → List Poised → Poised → ℕ → Cause → Type 0
CausedBy s m all before giver c = PartsBy s m before c ⊎ (RanNothing s before × (other : Poised) × (slice_get all giver ≡ Some other) × PartsBy s m other c)

-- neither of them ran anything
pub record NeitherRan (s : Study HeapCalendar Collection) (all : List Poised) (before : Poised) (giver : ℕ) : Type 0 where
  pub own : RanNothing s before
  pub other : (x : Poised) → slice_get all giver ≡ Some x → RanNothing s x

-- the place that the variant shared with a smaller one is shared with none now, and the reason is listed
pub record AddsParting (s : Study HeapCalendar Collection) (m : Collection) (all : List Poised) (before : Poised) (p : ℕ) (old new : List Parting) : Type 0 where
  pub giver : ℕ
  pub shared : before.giver ≡ Some giver
  pub own : IsOwn s before.number p
  pub cause : Cause
  pub because : CausedBy s m all before giver cause
  pub added : new ≡ old ++ record { variant = before.number; place = p; cause = cause } ∷ []

-- no reason is to be listed: the place was the variant's own before, or it is shared with a smaller one still, or nothing ran that could be the reason
abbrev pub NothingParts : Study HeapCalendar Collection → List Poised → Poised → ℕ → Type 0
NothingParts s all before p = (before.giver ≡ None) ⊎ (((w : ℕ) × IsTakenOver s before.number p w) ⊎ ((giver : ℕ) × (before.giver ≡ Some giver) × NeitherRan s all before giver))

-- the reason is listed, if there is one
abbrev pub Noted : Study HeapCalendar Collection → Collection → List Poised → Poised → ℕ → List Parting → List Parting → Type 0
Noted s m all before p old new = ((new ≡ old) × NothingParts s all before p) ⊎ AddsParting s m all before p old new

-- those of the first n variants are, one after the other
unfoldable pub NotedFirst : Study HeapCalendar Collection → Collection → List Poised → ℕ → ℕ → List Parting → List Parting → Type 0
NotedFirst s m all p zero old new = new ≡ old
NotedFirst s m all p (suc n) old new = (mid : List Parting) × NotedFirst s m all p n old mid × Noted s m all (slice_index_or all n blank_poised) p mid new

-- a step has worked a place, and what has parted it is noted
pub record Worked (c d : Course) : Type 0 where
  pub place : ℕ
  pub all : List Poised
  pub next : WorksNext c.study (vec_items c.variants) place
  pub stood : PoisesFirst c.study c.model (vec_items c.variants) place (length (vec_items c.variants)) all
  pub noted : NotedFirst d.study c.model all place (length all) (vec_items c.partings) (vec_items d.partings)

-- what a step was: nothing waited, or the first variant ran its event, or it ran nothing
abbrev pub Was : Course → Course → Step → Type 0
Was c d Over = NothingWaits c.study (vec_items c.variants) (length (vec_items c.variants))
Was c d (Planned e) = (x : Worked c d) × (planned : Poised) × (slice_get x.all 0 ≡ Some planned) × IsEventOf d.study planned e
Was c d Tried = (x : Worked c d) × ((planned : Poised) → slice_get x.all 0 ≡ Some planned → RanNothing d.study planned)

-- the study has been told of a step, or is as it was
abbrev pub Stepped : Study HeapCalendar Collection → Study HeapCalendar Collection → Type 0
Stepped s t = Keeps contents_of (λ m. meaning_of m.farms m.tankers) s step t ⊎ (t ≡ s)
