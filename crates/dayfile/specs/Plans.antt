-- The plan that a day file tells, line by line.
--
-- A day file is a text for people:
--
--     # Tuesday
--     farms 3
--     tankers 1
--     end 3000
--     milked 2 1000 at 0        # farm, litres, second of the day
--     milked 1 500 at 5
--     after 7 events try farthest
--
-- Text: a line ends at a newline, which the last may lack. '#' begins a comment that goes on to the end of the line.
-- Words stand between blanks, which are spaces, tabs and carriage returns.
-- Words: a number is one or more decimal digits and nothing else. It goes up to 255 (8 bits) for farms and tankers, up to
-- 4294967295 (32 bits) for the end, litres, times and events, and from 1 to the file's farms for a farm.
-- Lines: a line with no word says nothing. Any other is `farms N`, `tankers N`, `end N`, `milked FARM LITRES at TIME` or
-- `after N events try WORD`, where the word is nearest, farthest or smallest.
-- Plans: farms, tankers and end are given once each, in any sequence, and farms before the first milking. Milkings and
-- choices are any number, and a choice stands anywhere. A flaw is the first in the sequence of the text and is told with
-- its line, from 1; what is missing is told at the line after the last, farms first, then tankers, then end.
use Rattle.std.specs.Prelude.{ℕ, ◌+◌, List, [], ◌∷◌, ◌++◌, Some, None, Ok, Err, Option, Result}
use Rattle.dayfile.specs.declared.flaw.Flaw.{Flaw}
use Rattle.dayfile.specs.declared.flaw.FlawKind.{FlawKind}
use Rattle.dayfile.specs.declared.flaw.FlawKind.TheVariants.{FarmsMissing, TankersMissing, EndMissing}
use Rattle.dayfile.specs.declared.line.Settings.{Settings}
use Rattle.dayfile.specs.declared.line.Entry.{Entry}
use Rattle.dayfile.specs.declared.line.Entry.TheVariants.{Set, Milked, After}
use Rattle.dayfile.specs.declared.plan.Milking.{Milking}
use Rattle.dayfile.specs.declared.plan.Choice.{Choice}
use Rattle.text.specs.Text.{lines_of, said, words_of}
use Rattle.text.specs.Reading.{and_then}
use Rattle.dayfile.specs.Lines.{entry_of}

-- what the lines so far have told
pub record Told : Type 0 where
  -- the line that comes next
  pub line : ℕ
  pub settings : Settings
  pub milkings : List Milking
  pub choices : List Choice

-- what a plan says
pub record Sheet : Type 0 where
  pub farms : ℕ
  pub tankers : ℕ
  pub end : ℕ
  pub milkings : List Milking
  pub choices : List Choice

-- before the first line
abbrev pub nothing_told : Told
nothing_told = record { line = 1; settings = record { farms = None; tankers = None; end = None }; milkings = []; choices = [] }

-- with what the next line says, if anything: a milking goes behind those before it, and so does a choice
abbrev pub noted : Told → Option Entry → Told
noted t None = record { line = t.line + 1; settings = t.settings; milkings = t.milkings; choices = t.choices }
noted t (Some (Set s)) = record { line = t.line + 1; settings = s; milkings = t.milkings; choices = t.choices }
noted t (Some (Milked m)) = record { line = t.line + 1; settings = t.settings; milkings = t.milkings ++ record { line = t.line; start = m } ∷ []; choices = t.choices }
noted t (Some (After n p)) = record { line = t.line + 1; settings = t.settings; milkings = t.milkings; choices = t.choices ++ record { line = t.line; events = n; preference = p } ∷ [] }

-- a flaw is told with its line
abbrev pub at_line : {X : Type 0} → ℕ → Result X FlawKind → Result X Flaw
at_line n (Ok x) = Ok x
at_line n (Err k) = Err (record { line = n; kind = k })

-- the next line, without its comment
abbrev pub step : Told → List ℕ → Result Told Flaw
step t line = and_then (at_line t.line (entry_of t.settings (words_of (said line)))) (λ e. Ok (noted t e))

-- what has to be given
abbrev pub needed : FlawKind → Option ℕ → Result ℕ FlawKind
needed k None = Err k
needed k (Some n) = Ok n

-- the end of the file
abbrev pub finished : Told → Result Sheet Flaw
finished t =
    at_line t.line
    (and_then (needed FarmsMissing t.settings.farms) (λ farms.
    and_then (needed TankersMissing t.settings.tankers) (λ tankers.
    and_then (needed EndMissing t.settings.end) (λ end.
    Ok (record { farms = farms; tankers = tankers; end = end; milkings = t.milkings; choices = t.choices })))))

-- the lines from the next on, after what was told before
abbrev pub read_on : Told → List (List ℕ) → Result Sheet Flaw
read_on t [] = finished t
read_on t (l ∷ ls) = and_then (step t l) (λ t. read_on t ls)

-- the plan of a day file, or its first flaw
abbrev pub read_text : List ℕ → Result Sheet Flaw
read_text text = read_on nothing_told (lines_of text)
