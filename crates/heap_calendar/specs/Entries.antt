-- Slots in a pool, and the entries that name them.
use Rattle.std.specs.Prelude.{◌≡◌, ℕ, ◌+◌, ◌-◌, ◌<◌, ◌≤◌, List, [], ◌∷◌, ◌++◌, length, map, replicate, slice_index_or, ◌==◌, if◌then◌else◌}
use Rattle.std.specs.List.{AllByRecursion, range_with_len}
use Rattle.slot.specs.declared.Slot.{Slot}
use Rattle.heap_calendar.specs.declared.entry.Entry.{Entry}

-- what stands in the filled pool where nothing was put, and what is read past the end of a pool
abbrev pub blank : Slot
blank = record { held = record { message = record { time = 0; receiver = 0; sender = 0; number = 0; kind = 0; «data» = 0 }; group = record { mask = 0 } }; age = 0 }

abbrev pub slot_of : List Slot → Entry → Slot
slot_of pool e = slice_index_or pool e.at blank

-- the slots in the order of their entries
abbrev pub slots : List Slot → List Entry → List Slot
slots pool es = map (slot_of pool) es

abbrev pub entry_of : Slot → ℕ → Entry
entry_of x n = record { time = x.held.message.time; receiver = x.held.message.receiver; sender = x.held.message.sender; at = n }

-- the entry names a slot of the pool, and tells its time, receiver and sender
pub record Fits (pool : List Slot) (e : Entry) : Type 0 where
  pub within : e.at < length pool
  pub is : entry_of (slot_of pool e) e.at ≡ e

-- what is read past the end of a list of entries
abbrev pub no_entry : Entry
no_entry = record { time = 0; receiver = 0; sender = 0; at = 0 }

abbrev pub same_number : ℕ → ℕ → ℕ
same_number n k = if n == k then 1 else 0

-- how many entries name the slot k, and how often it is among the free ones
abbrev pub named : ℕ → List Entry → ℕ
named k [] = 0
named k (e ∷ es) = same_number e.at k + named k es

abbrev pub listed : ℕ → List ℕ → ℕ
listed k [] = 0
listed k (n ∷ ns) = same_number n k + listed k ns

-- of 512 slots each is named by one entry or is free
pub record Kept (pool : List Slot) (es : List Entry) (free : List ℕ) : Type 0 where
  pub wide : length pool ≡ 512
  pub fit : AllByRecursion (Fits pool) es
  pub below : AllByRecursion (λ n. n < 512) free
  pub count : length es + length free ≡ 512
  pub once : (k : ℕ) → named k es + listed k free ≤ 1

-- each slot of a pool that grows to 512 is named by one entry or is free
pub record KeptSoFar (pool : List Slot) (es : List Entry) (free : List ℕ) : Type 0 where
  pub few : length pool ≤ 512
  pub fit : AllByRecursion (Fits pool) es
  pub below : AllByRecursion (λ n. n < length pool) free
  pub count : length es + length free ≡ length pool
  pub once : (k : ℕ) → named k es + listed k free ≤ 1

-- the pool filled up to 512 with blank slots
abbrev pub filled : List Slot → List Slot
filled pool = pool ++ replicate (512 - length pool) blank

-- the free slots of the filled pool: those of the pool, and the blank ones
abbrev pub filled_free : List Slot → List ℕ → List ℕ
filled_free pool free = free ++ range_with_len (length pool) (512 - length pool)
