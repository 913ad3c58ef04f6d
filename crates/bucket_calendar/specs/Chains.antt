-- The links from slot to slot of each bucket.
use Rattle.std.specs.Prelude.{◌≡◌, ◌≢◌, ◌⊎◌, ℕ, ◌<◌, true, List, [], ◌∷◌, length, map, Some, None, Option, slice_index_or}
use Rattle.std.specs.List.{AllByRecursion, slice_get}
use Rattle.event.specs.Lists.{first}
use Rattle.slot.specs.declared.Slot.{Slot}
use Rattle.slot.specs.Slots.{earlier, steady, Young}
use Rattle.slot.specs.Rank.{ranked}
use Rattle.bucket_calendar.specs.Buckets.{bucket_of, row_of}

-- the links lead from o through these places, each once, and end
abbrev pub Runs : List (Option ℕ) → Option ℕ → List ℕ → Type 0
Runs next o [] = o ≡ None
Runs next o (p ∷ ps) = (o ≡ Some p) × AllByRecursion (λ q. q ≢ p) ps × Runs next (slice_index_or next p None) ps

-- never read, since every place of a chain lies in the pool
abbrev pub blank : Slot
blank = record { held = record { message = record { time = 0; receiver = 0; sender = 0; number = 0; kind = 0; «data» = 0 }; group = record { mask = 0 } }; age = 0 }

-- what stands at p
abbrev pub at : List Slot → ℕ → Slot
at xs p = slice_index_or xs p blank

-- the links lead from o through places below n
pub record Chain (n : ℕ) (next : List (Option ℕ)) (o : Option ℕ) : Type 0 where
  pub places : List ℕ
  pub runs : Runs next o places
  pub within : AllByRecursion (λ p. p < n) places

-- p is one of these places
abbrev pub Among : ℕ → List ℕ → Type 0
Among p [] = ⊥
Among p (q ∷ ps) = (p ≡ q) ⊎ Among p ps

-- the chain of each of the 64 buckets leads through its slots, in order, and each place of the pool stands in the chain of its bucket
pub record Linked (heads next : List (Option ℕ)) (xs : List Slot) : Type 0 where
  pub wide : length heads ≡ 64
  pub long : length next ≡ 512
  pub row : ℕ → List ℕ
  pub runs : (b : ℕ) → b < 64 → Runs next (slice_index_or heads b None) (row b)
  pub within : (b : ℕ) → b < 64 → AllByRecursion (λ p. p < length xs) (row b)
  pub listed : (b : ℕ) → b < 64 → map (at xs) (row b) ≡ row_of b xs
  pub placed : (p : ℕ) → p < length xs → Among p (row (bucket_of (at xs p)))

-- what stands at the place o, if that is one
abbrev pub slot_at : List Slot → Option ℕ → Option Slot
slot_at xs None = None
slot_at xs (Some p) = slice_get xs p

-- all ages are below n, no two have one key and age, the first is known, and each bucket is linked
pub record Sound (n : ℕ) (earliest : Option Slot) (heads next : List (Option ℕ)) (xs : List Slot) : Type 0 where
  pub young : Young n xs
  pub apart : steady (ranked earlier xs) ≡ true
  pub known : earliest ≡ first (ranked earlier xs)
  pub linked : Linked heads next xs
