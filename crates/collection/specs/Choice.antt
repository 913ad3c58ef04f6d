-- Which farm is chosen of those that wait, and which tanker of those that are free.
use Rattle.std.specs.Prelude.{◌≡◌, ℕ, zero, suc, ◌≤◌, Bool, true, if◌then◌else◌, ◌||◌, Some, None, Option, MatchOption, ◌==◌, nat_lt}
use Rattle.collection.specs.declared.preference.Preference.{Preference}
use Rattle.collection.specs.declared.preference.Preference.TheVariants as prefers
use Rattle.collection.specs.Bits.{has}
use Rattle.collection.specs.Roads.{drive_of}

-- order 1 prefers the farthest farm, order 2 the smallest-numbered, and any other the nearest
abbrev pub preference_of : ℕ → Preference
preference_of order = if order == 1 then prefers.Farthest else if order == 2 then prefers.Smallest else prefers.Nearest

-- the order that asks for each
abbrev pub order_of : Preference → ℕ
order_of prefers.Nearest = 0
order_of prefers.Farthest = 1
order_of prefers.Smallest = 2

-- of i and the choice before it, the one that goes ahead
abbrev pub rather : (ℕ → ℕ → Bool) → ℕ → Option ℕ → Option ℕ
rather ahead i None = Some i
rather ahead i (Some k) = if ahead i k then Some i else Some k

-- of the numbers 1 to n whose bit is set in w, the one that goes ahead of the others
abbrev pub pick : (ℕ → ℕ → Bool) → ℕ → ℕ → Option ℕ
pick ahead w zero = None
pick ahead w (suc n) = if has w (suc n) then rather ahead (suc n) (pick ahead w n) else pick ahead w n

-- farm i goes ahead of farm k: under order 2 by number, under order 1 by the longer drive, under any other by the shorter,
-- and equal drives go to the smaller number
abbrev pub preferred : ℕ → ℕ → ℕ → Bool
preferred order i k =
    if order == 2 || drive_of i == drive_of k then nat_lt i k
    else if order == 1 then nat_lt (drive_of k) (drive_of i)
    else nat_lt (drive_of i) (drive_of k)

-- the farm of 1 to f that is chosen, where the bits of w are the waiting farms
abbrev pub chosen_farm_of : ℕ → ℕ → ℕ → Option ℕ
chosen_farm_of order w f = pick (preferred order) w f

-- the smallest-numbered tanker of 1 to t, where the bits of w are the free tankers
abbrev pub free_tanker_of : ℕ → ℕ → Option ℕ
free_tanker_of w t = pick nat_lt w t

-- i is one of 1 to n, and its bit is set in w: farm i waits, or tanker i is free
pub record Noted (w n i : ℕ) : Type 0 where
  pub least : 1 ≤ i
  pub most : i ≤ n
  pub bit : has w i ≡ true

-- no noted farm has a shorter drive than i, nor an equal one and a smaller number
pub record Nearest (w n i : ℕ) : Type 0 where
  pub noted : Noted w n i
  pub near : (k : ℕ) → Noted w n k → drive_of i ≤ drive_of k
  pub tie : (k : ℕ) → Noted w n k → drive_of i ≡ drive_of k → i ≤ k

-- no noted farm has a longer drive than i, nor an equal one and a smaller number
pub record Farthest (w n i : ℕ) : Type 0 where
  pub noted : Noted w n i
  pub far : (k : ℕ) → Noted w n k → drive_of k ≤ drive_of i
  pub tie : (k : ℕ) → Noted w n k → drive_of i ≡ drive_of k → i ≤ k

-- no noted one has a smaller number than i
pub record Smallest (w n i : ℕ) : Type 0 where
  pub noted : Noted w n i
  pub small : (k : ℕ) → Noted w n k → i ≤ k

-- the choice is one that is right, or nothing where none is noted
abbrev pub Chosen : (ℕ → ℕ → ℕ → Type 0) → ℕ → ℕ → Option ℕ → Type 0
Chosen Right w n r = MatchOption r ((k : ℕ) → Noted w n k → ⊥) (Right w n)
