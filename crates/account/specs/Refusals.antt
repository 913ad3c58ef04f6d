-- When each call is denied, and with what.
use Rattle.std.specs.Prelude.{◌≡◌, ℕ, suc, ◌+◌, ◌*◌, Bool, true, false, if◌then◌else◌, not, ◌&&◌, ◌||◌, ◌⊎◌, List, [], ◌∷◌, length, Some, None, Option, nat_le, nat_lt}
use Rattle.std.specs.List.{AllByRecursion}
use Rattle.event.specs.declared.Start.{Start}
use Rattle.event.specs.declared.Key.{Key}
use Rattle.refusal.specs.declared.Layer.TheVariants as layer
use Rattle.refusal.specs.declared.Refusal.{Refusal}
use Rattle.model.specs.Meaning.{Meaning}
use Rattle.account.specs.Account.{Account, ind, sum_below, least, fed_decide, fed_step, Call, load, branch, decide, waive, step, retire, reading, Reading, events_of, entry_of, place_of, next_of, sharing, group_of, totals}
use Rattle.account.specs.Groups.{copies, held, taken, worked, entries}

-- a refusal, and whether what it stands for is so
pub record Case : Type 0 where
  pub met : Bool
  pub refusal : Refusal

-- a refusal of the study's own, of nothing that has a position
abbrev pub by_study : ℕ → Bool → Case
by_study n met = record { met = met; refusal = record { number = n; layer = layer.Study; position = 0 } }

-- a call other than load meets a study that is not loaded
abbrev pub not_loaded : Account → Case
not_loaded A = by_study 2 (not A.loaded)

-- load meets a loaded study
abbrev pub already_loaded : Account → Case
already_loaded A = by_study 3 A.loaded

-- the end of day is above 1,000,000
abbrev pub late_end : ℕ → Case
late_end end = by_study 4 (nat_lt 1000000 end)

-- the starting message at position i names no place
abbrev pub lost_start : Meaning → ℕ → Start → Case
lost_start M i s = record { met = nat_le M.places s.receiver; refusal = record { number = 5; layer = layer.Study; position = i } }

-- it is later than the end of day
abbrev pub late_start : ℕ → ℕ → Start → Case
late_start end i s = record { met = nat_lt end s.time; refusal = record { number = 6; layer = layer.Study; position = i } }

-- the calendar would deny it, since it holds as many as it can
abbrev pub full_start : ℕ → ℕ → Case
full_start capacity i = record { met = nat_le capacity i; refusal = record { number = 7; layer = layer.Calendar; position = i } }

-- a step leaves no room in the calendar for two messages of each execution
abbrev pub crowded : ℕ → Account → Option Key → Bool
crowded capacity A None = false
crowded capacity A (Some k) = nat_lt (capacity + taken A k) (held A + 2 * worked A k)

abbrev pub full_calendar : ℕ → Account → Case
full_calendar capacity A = by_study 7 (crowded capacity A (least A 16))

-- no live variant has the number v
abbrev pub no_variant : Account → ℕ → Case
no_variant A v = by_study 8 (not (A.live v))

-- v is undecided
abbrev pub not_decided : Account → ℕ → Case
not_decided A v = by_study 9 (A.undecided v)

-- the permit's number is that of no undecided variant
abbrev pub no_permit : Account → ℕ → Case
no_permit A v = by_study 10 (not (A.undecided v))

abbrev pub no_place : Meaning → ℕ → Case
no_place M p = by_study 11 (nat_le M.places p)

-- sixteen variants were made
abbrev pub all_made : Account → Case
all_made A = by_study 12 (nat_le 16 A.made)

-- one variant is live
abbrev pub last_one : Account → Case
last_one A = by_study 13 (nat_le (sum_below (λ w. ind (A.live w)) 16) 1)

-- so many entries would be left
abbrev pub many_entries : ℕ → Case
many_entries n = by_study 14 (nat_lt 2048 n)

-- so many groups would be left
abbrev pub many_groups : ℕ → Case
many_groups n = by_study 15 (nat_lt 128 n)

-- v has run no event with the number i
abbrev pub no_entry : Account → ℕ → ℕ → Case
no_entry A v i = by_study 16 (nat_le (length (A.day v).journal) i)

-- each message in sequence, from position i on
abbrev pub start_cases : Meaning → ℕ → ℕ → ℕ → List Start → List Case
start_cases M capacity end i [] = []
start_cases M capacity end i (s ∷ ss) = lost_start M i s ∷ late_start end i s ∷ full_start capacity i ∷ start_cases M capacity end (suc i) ss

abbrev pub reading_cases : Meaning → Account → Reading → List Case
reading_cases M A (events_of v) = no_variant A v ∷ []
reading_cases M A (entry_of v i) = no_variant A v ∷ no_entry A v i ∷ []
reading_cases M A (place_of v p) = no_variant A v ∷ no_place M p ∷ []
reading_cases M A (next_of v) = no_variant A v ∷ []
reading_cases M A (sharing v w p) = by_study 8 (not (A.live v) || not (A.live w)) ∷ no_place M p ∷ []
reading_cases M A (group_of v p) = no_variant A v ∷ no_place M p ∷ []
reading_cases M A totals = []

-- all that a call can be denied for, over a calendar of this capacity, in the sequence in which it is looked at
abbrev pub cases : Meaning → ℕ → Account → Call → List Case
cases M capacity A (load l end) = already_loaded A ∷ late_end end ∷ start_cases M capacity end 0 l
cases M capacity A (branch v) = not_loaded A ∷ no_variant A v ∷ not_decided A v ∷ all_made A ∷ []
cases M capacity A (decide v place value) = not_loaded A ∷ no_permit A v ∷ no_place M place ∷ many_groups (copies M (fed_decide A v place value)) ∷ []
cases M capacity A (waive v) = not_loaded A ∷ no_permit A v ∷ []
cases M capacity A step = not_loaded A ∷ full_calendar capacity A ∷ many_entries (entries (fed_step M A)) ∷ many_groups (copies M (fed_step M A)) ∷ []
cases M capacity A (retire v) = not_loaded A ∷ no_variant A v ∷ not_decided A v ∷ last_one A ∷ []
cases M capacity A (reading r) = not_loaded A ∷ reading_cases M A r

-- the first that is met
abbrev pub first_met : List Case → Option Refusal
first_met [] = None
first_met (c ∷ cs) = if c.met then Some c.refusal else first_met cs

-- with what a call is denied, if it is
abbrev pub refusal : Meaning → ℕ → Account → Call → Option Refusal
refusal M capacity A c = first_met (cases M capacity A c)

-- a stands before b: at an earlier position of the starting list, or with a smaller number
abbrev pub sooner : Refusal → Refusal → Bool
sooner a b = nat_lt a.position b.position || (nat_le a.position b.position && nat_lt a.number b.number)

-- none is met
abbrev pub NoneMet : List Case → Type 0
NoneMet cs = AllByRecursion (λ c. c.met ≡ false) cs

-- the case of r is met
abbrev pub Met : Refusal → List Case → Type 0
Met r [] = ⊥
Met r (c ∷ cs) = ((c.refusal ≡ r) × (c.met ≡ true)) ⊎ Met r cs

-- the case of r is met, and no case that is met stands before it
pub record Smallest (r : Refusal) (cs : List Case) : Type 0 where
  pub met : Met r cs
  pub least : AllByRecursion (λ c. c.met ≡ true → sooner c.refusal r ≡ false) cs
