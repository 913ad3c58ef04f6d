-- The words of the sheet.
use Rattle.std.specs.Prelude.{ℕ, List, [], ◌++◌, Some, None, codes, decimal, Option}
use Rattle.collection.specs.declared.preference.Preference.{Preference}
use Rattle.collection.specs.declared.preference.Preference.TheVariants.{Nearest, Farthest, Smallest}
use Rattle.report.specs.Words.{fact_words, in_column, line_words, moment_words}
use Rattle.report.specs.declared.deed.Who.{Who}
use Rattle.report.specs.declared.deed.Who.TheVariants.{Dairy, Farm, Tanker, Nobody}
use Rattle.sheet.specs.declared.difference.Difference.{Difference}
use Rattle.sheet.specs.declared.row.Row.{Row}
use Rattle.sheet.specs.declared.standing.Cause.{Cause}
use Rattle.sheet.specs.declared.standing.Cause.TheVariants.{Plan, Order, Event}
use Rattle.sheet.specs.declared.standing.Standing.{Standing}
use Rattle.sheet.specs.declared.standing.Standing.TheVariants.{TakenOver, Own}
use Rattle.sheet.specs.declared.trial.Trial.{Trial}

abbrev pub preference_words : Preference → List ℕ
preference_words Nearest = codes "the nearest farm first"
preference_words Farthest = codes "the farthest farm first"
preference_words Smallest = codes "the smallest farm number first"

-- a variant begins to try something
abbrev pub attempt_words : ℕ → Trial → List ℕ
attempt_words v t = codes "after " ++ (decimal t.events ++ (codes " events: variant " ++ (decimal v ++ (codes " tries " ++ preference_words t.preference))))

abbrev pub trial_words : Option Trial → List ℕ
trial_words None = codes "as planned"
trial_words (Some t) = preference_words t.preference ++ (codes ", after " ++ (decimal t.events ++ codes " events"))

-- the heading of a variant
abbrev pub title_words : ℕ → Option Trial → List ℕ
title_words v t = codes "variant " ++ (decimal v ++ (codes ": " ++ trial_words t))

-- whether a figure is taken over
abbrev pub giver_words : Option ℕ → List ℕ
giver_words None = []
giver_words (Some w) = codes ", taken over from variant " ++ decimal w

abbrev pub row_words : Row → List ℕ
row_words r = fact_words r.fact ++ giver_words r.giver

-- where the journal first differs from variant 0's
abbrev pub difference_words : Option Difference → List ℕ
difference_words None = codes "journal             the same as variant 0's"
difference_words (Some d) = codes "journal             other than variant 0's from event " ++ (decimal d.number ++ (codes " on, " ++ moment_words d.time))

-- a place's name, in twenty characters
abbrev pub label_words : Who → List ℕ
label_words Dairy = codes "dairy               "
label_words (Farm i) = codes "farm " ++ in_column 15 i
label_words (Tanker j) = codes "tanker " ++ in_column 13 j
label_words Nobody = codes "nobody              "

abbrev pub cause_words : Cause → List ℕ
cause_words Plan = codes "as planned"
cause_words Order = codes "its own, by the order"
cause_words (Event v n l) = codes "its own, by event " ++ (decimal n ++ (codes " of variant " ++ (decimal v ++ (codes ": " ++ line_words l.time l.deed))))

abbrev pub standing_words : Standing → List ℕ
standing_words (TakenOver w) = codes "taken over from variant " ++ (decimal w ++ codes ": reached by no chain of messages from an order of only one of the two")
standing_words (Own cause) = cause_words cause

abbrev pub place_words : Who → Standing → List ℕ
place_words who s = label_words who ++ standing_words s

-- what the study has worked, and what separate runs would have
abbrev pub cost_words : ℕ → ℕ → List ℕ
cost_words executions events = codes "executions: " ++ (decimal executions ++ (codes ", events that separate runs would have worked: " ++ decimal events))

-- a choice whose moment never comes
abbrev pub untried_words : ℕ → ℕ → List ℕ
untried_words line events = codes "line " ++ (decimal line ++ (codes ": not tried, the day has " ++ (decimal events ++ codes " events")))
