-- The bucket of a slot.
use Rattle.std.specs.Prelude.{ℕ, ◌/◌, ◌%◌, Bool, List, ◌==◌, filter}
use Rattle.slot.specs.Rank.{ranked}
use Rattle.slot.specs.declared.Slot.{Slot}
use Rattle.slot.specs.Slots.{earlier}

abbrev pub bucket_of : Slot → ℕ
bucket_of s = s.held.message.time / 64 % 64

-- s is of the bucket b
abbrev pub of_bucket : ℕ → Slot → Bool
of_bucket b s = bucket_of s == b

-- the slots of the bucket b, in order
abbrev pub row_of : ℕ → List Slot → List Slot
row_of b xs = filter (of_bucket b) (ranked earlier xs)
