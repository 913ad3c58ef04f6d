-- What is told of a plan that was run.
use Rattle.std.specs.Prelude.{◌≡◌, ◌≤◌, Ok, Bool, true, false, List, min}
use Rattle.account.specs.Account.{Account, reading, totals}
use Rattle.bucket_calendar.specs.Laws as buckets
use Rattle.calendar.specs.Contents.{Contents}
use Rattle.collection.specs.Rules as collection
use Rattle.collection.specs.declared.Collection.{Collection}
use Rattle.event.specs.declared.Start.{Start}
use Rattle.heap_calendar.specs.Laws as heap
use Rattle.model.specs.Meaning.{Meaning}
use Rattle.pace.specs.Checksums.{AllSummed}
use Rattle.pace.specs.Starts.{listed, passed_at, milked_at}
use Rattle.pace.specs.declared.plan.Plan.{Plan}
use Rattle.pace.specs.declared.plan.Figures.{Figures}
use Rattle.phold.specs.Rules as phold
use Rattle.phold.specs.declared.Phold.{Phold}
use Rattle.study.specs.Plain.{NeverBranched}
use Rattle.study.specs.Promises.{Serves, Tells, totals_answer}
use Rattle.study.specs.declared.Study.{Study}

-- some account is followed, to which accepted calls led
pub record InService {C M : Type 0} (contents : C → Contents) (meaning : M → Meaning) (s : Study C M) : Type 0 where
  pub account : Account
  pub serves : Serves contents meaning s account

-- the figures are what the study tells
pub record Told {C M : Type 0} (contents : C → Contents) (meaning : M → Meaning) (s : Study C M) (plan : Plan) (f : Figures) : Type 0 where
  pub counted : Tells contents meaning s (reading totals) totals_answer (Ok (f.executions, f.copies, f.entries))
  pub summed : plan.summed ≡ true → AllSummed contents meaning s (min plan.variants 16) f.checksum

-- a study of this model that follows an account tells the figures; with one variant it was loaded with these starting messages, and runs alone
pub record Paced {C M : Type 0} (contents : C → Contents) (meaning : M → Meaning) (M' : Meaning) (starts : List Start) (plan : Plan) (f : Figures) : Type 0 where
  pub study : Study C M
  pub model : meaning study.model ≡ M'
  pub served : InService contents meaning study
  pub alone : plan.variants ≤ 1 → NeverBranched contents meaning starts 1000000 study
  pub told : Told contents meaning study plan f

-- over the buckets, or else the heap
abbrev pub PacedOver : Bool → {M : Type 0} → (M → Meaning) → Meaning → List Start → Plan → Figures → Type 0
PacedOver true meaning M starts plan f = Paced buckets.contents_of meaning M starts plan f
PacedOver false meaning M starts plan f = Paced heap.contents_of meaning M starts plan f

abbrev pub phold_of : Phold → Meaning
phold_of m = phold.meaning_of m.places m.seed m.replication

abbrev pub collection_of : Collection → Meaning
collection_of m = collection.meaning_of m.farms m.tankers

abbrev pub PholdPaced : Plan → Figures → Type 0
PholdPaced plan f = PacedOver plan.buckets phold_of (phold.meaning_of plan.farms_or_places 271828 0) (listed (passed_at plan.farms_or_places) plan.starts) plan f

abbrev pub CollectionPaced : Plan → Figures → Type 0
CollectionPaced plan f = PacedOver plan.buckets collection_of (collection.meaning_of plan.farms_or_places plan.tankers) (listed (milked_at plan.farms_or_places) plan.starts) plan f
