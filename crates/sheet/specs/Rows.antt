-- The figures of a variant, with what they rest on.
use Rattle.std.specs.Prelude.{ℕ, List, Some, None, Option, slice_get}
use Rattle.std.specs.Option.{option_and_then}
use Rattle.collection.specs.Places.{dairy}
use Rattle.report.specs.declared.figures.Fact.{Fact}
use Rattle.report.specs.declared.figures.Fact.TheVariants.{Received, Left, NotVisited, LastUnloading, Events, Lost}
use Rattle.sheet.specs.Standings.{giver_of}
use Rattle.sheet.specs.declared.row.Row.{Row}
use Rattle.sheet.specs.declared.standing.Standing.{Standing}

-- the place that a figure rests on, if it rests on one
abbrev pub place_under : Fact → Option ℕ
place_under (Received l) = Some dairy
place_under (Left farm l) = Some farm
place_under (NotVisited farm) = None
place_under (LastUnloading time) = None
place_under (Events n) = None
place_under (Lost n) = None

-- the variant from which a place is taken over, by the standings of all places
abbrev pub giver_at : List Standing → Option ℕ → Option ℕ
giver_at standings None = None
giver_at standings (Some p) = option_and_then giver_of (slice_get standings p)

abbrev pub row_of : List Standing → Fact → Row
row_of standings fact = record { fact = fact; giver = giver_at standings (place_under fact) }
