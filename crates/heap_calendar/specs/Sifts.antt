-- What a slot on its way leaves of a heap.
use Rattle.std.specs.Prelude.{◌≡◌, ℕ, ◌+◌, ◌*◌, ◌<◌, ◌≤◌, false, List, length, slice_index_or}
use Rattle.std.specs.BinaryHeap.Sift.{SiftsUp, RestoresHeap}
use Rattle.slot.specs.declared.Slot.{Slot}
use Rattle.slot.specs.Slots.{earlier, turned}

-- no child of j comes before the slot at c
abbrev pub IsEarlierChild : List Slot → ℕ → ℕ → Type 0
IsEarlierChild xs j c = (k : ℕ) (d : Slot) → j * 2 + 1 ≤ k → k ≤ j * 2 + 2 → k < length xs → earlier (slice_index_or xs k d) (slice_index_or xs c d) ≡ false

abbrev pub Lifts : List Slot → ℕ → List Slot → Type 0
Lifts xs j ys = SiftsUp turned xs j ys

abbrev pub Mends : List Slot → List Slot → Type 0
Mends xs ys = RestoresHeap turned xs 1 (length xs) ys
