-- A plan written out as a day file.
use Rattle.std.specs.Prelude.{ℕ, ◌+◌, ◌≤◌, List, [], ◌∷◌, ◌++◌, codes, decimal}
use Rattle.std.specs.List.{flat_map, AllByRecursion}
use Rattle.collection.specs.declared.preference.Preference.{Preference}
use Rattle.collection.specs.declared.preference.Preference.TheVariants.{Nearest, Farthest, Smallest}
use Rattle.event.specs.declared.Start.{Start}
use Rattle.text.specs.Written.{spaced}
use Rattle.dayfile.specs.declared.plan.Milking.{Milking}
use Rattle.dayfile.specs.declared.plan.Choice.{Choice}
use Rattle.dayfile.specs.Plans.{Sheet}
use Rattle.dayfile.specs.Laws.{Farmed}

-- a milking
abbrev pub milked_words : Start → List (List ℕ)
milked_words m = codes "milked" ∷ decimal m.receiver ∷ decimal m.«data» ∷ codes "at" ∷ decimal m.time ∷ []

-- the word of a preference
abbrev pub preference_word : Preference → List ℕ
preference_word Nearest = codes "nearest"
preference_word Farthest = codes "farthest"
preference_word Smallest = codes "smallest"

-- a preference that is tried after n events
abbrev pub after_words : ℕ → Preference → List (List ℕ)
after_words n p = codes "after" ∷ decimal n ∷ codes "events" ∷ codes "try" ∷ preference_word p ∷ []

-- from line n on, a line for each milking and each choice, on the line that it says; ls are the words of these lines
pub data Lined : ℕ → List Milking → List Choice → List (List (List ℕ)) → Type 0 where
  none : {n : ℕ} → Lined n [] [] []
  milked : {n : ℕ} {ms : List Milking} {cs : List Choice} {ls : List (List (List ℕ))} (m : Start) → Lined (n + 1) ms cs ls → Lined n (record { line = n; start = m } ∷ ms) cs (milked_words m ∷ ls)
  after : {n : ℕ} {ms : List Milking} {cs : List Choice} {ls : List (List (List ℕ))} (e : ℕ) (p : Preference) → Lined (n + 1) ms cs ls → Lined n ms (record { line = n; events = e; preference = p } ∷ cs) (after_words e p ∷ ls)

-- the words of each line: the three settings, and then the lines ls
abbrev pub written_words : Sheet → List (List (List ℕ)) → List (List (List ℕ))
written_words s ls = (codes "farms" ∷ decimal s.farms ∷ []) ∷ (codes "tankers" ∷ decimal s.tankers ∷ []) ∷ (codes "end" ∷ decimal s.end ∷ []) ∷ ls

-- the text
unfoldable pub written : Sheet → List (List (List ℕ)) → List ℕ
written s ls = flat_map (λ ws. spaced ws ++ (10 ∷ [])) (written_words s ls)

-- every number fits, and ls are the lines of the milkings and the choices, from line 4 on
pub record Writable (s : Sheet) (ls : List (List (List ℕ))) : Type 0 where
  pub farms : s.farms ≤ 255
  pub tankers : s.tankers ≤ 255
  pub end : s.end ≤ 4294967295
  pub farmed : AllByRecursion (λ m. Farmed s.farms m.start) s.milkings
  pub times : AllByRecursion (λ m. m.start.time ≤ 4294967295) s.milkings
  pub litres : AllByRecursion (λ m. m.start.«data» ≤ 4294967295) s.milkings
  pub events : AllByRecursion (λ c. c.events ≤ 4294967295) s.choices
  pub lines : Lined 4 s.milkings s.choices ls
