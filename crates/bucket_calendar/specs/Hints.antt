-- Where a walk along a chain may begin.
use Rattle.std.specs.Prelude.{◌≡◌, ◌≢◌, ◌⊎◌, ℕ, ◌<◌, true, List, length, Some, None, Option, slice_index_or}
use Rattle.slot.specs.declared.Slot.{Slot}
use Rattle.slot.specs.Slots.{earlier}
use Rattle.bucket_calendar.specs.Buckets.{bucket_of}
use Rattle.bucket_calendar.specs.Chains.{at}

-- at p stands a slot of the bucket of s that comes before s
pub record Near (xs : List Slot) (s : Slot) (p : ℕ) : Type 0 where
  pub within : p < length xs
  pub alike : bucket_of (at xs p) ≡ bucket_of s
  pub sooner : earlier (at xs p) s ≡ true

-- o is the head of the bucket of s, or a place other than `but` of a slot that comes before s there
abbrev pub Begins : List (Option ℕ) → List Slot → Slot → ℕ → Option ℕ → Type 0
Begins heads xs s but o = (o ≡ slice_index_or heads (bucket_of s) None) ⊎ ((p : ℕ) × (o ≡ Some p) × (p ≢ but) × Near xs s p)
