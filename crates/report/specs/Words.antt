-- The words for what happened.
use Rattle.std.specs.Prelude.{ℕ, ◌-◌, ◌/◌, ◌%◌, List, ◌++◌, length, Some, None, codes, decimal, Option}
use Rattle.std.specs.List.{repeat}
use Rattle.report.specs.declared.deed.Deed.{Deed}
use Rattle.report.specs.declared.deed.Deed.TheVariants.{Milked, Waits, SentOut, Free, Drives, Pumps, Leaves, Unloads, Emptied, Ignores}
use Rattle.report.specs.declared.figures.Fact.{Fact}
use Rattle.report.specs.declared.figures.Fact.TheVariants.{Received, Left, NotVisited, LastUnloading, Events, Lost}
use Rattle.report.specs.declared.deed.Who.{Who}
use Rattle.report.specs.declared.verdict.Verdict.{Verdict}
use Rattle.report.specs.declared.verdict.Verdict.TheVariants.{Agrees, DiffersAfter, DiffersAt}
use Rattle.report.specs.declared.deed.Who.TheVariants.{Dairy, Farm, Tanker, Nobody}

-- a number below 100 in two digits
abbrev pub two_digits : ℕ → List ℕ
two_digits n = decimal (n / 10) ++ decimal (n % 10)

-- seconds of the day as h:mm:ss
abbrev pub clock_words : ℕ → List ℕ
clock_words s = decimal (s / 3600) ++ (codes ":" ++ (two_digits (s / 60 % 60) ++ (codes ":" ++ two_digits (s % 60))))

abbrev pub who_words : Who → List ℕ
who_words Dairy = codes "dairy"
who_words (Farm i) = codes "farm " ++ decimal i
who_words (Tanker j) = codes "tanker " ++ decimal j
who_words Nobody = codes "nobody"

abbrev pub deed_words : Deed → List ℕ
deed_words (Milked i l) = codes "farm " ++ (decimal i ++ (codes " milked " ++ (decimal l ++ codes " l")))
deed_words (Waits i) = codes "farm " ++ (decimal i ++ codes " waits for a tanker")
deed_words (SentOut j i) = codes "dairy sends tanker " ++ (decimal j ++ (codes " to farm " ++ decimal i))
deed_words (Free j) = codes "tanker " ++ (decimal j ++ codes " is free")
deed_words (Drives j i) = codes "tanker " ++ (decimal j ++ (codes " drives to farm " ++ decimal i))
deed_words (Pumps j i l) = codes "tanker " ++ (decimal j ++ (codes " pumps at farm " ++ (decimal i ++ (codes ", " ++ (decimal l ++ codes " l")))))
deed_words (Leaves j i l) = codes "tanker " ++ (decimal j ++ (codes " leaves farm " ++ (decimal i ++ (codes " with " ++ (decimal l ++ codes " l")))))
deed_words (Unloads j l) = codes "tanker " ++ (decimal j ++ (codes " unloads " ++ (decimal l ++ codes " l at the dairy")))
deed_words (Emptied j) = codes "tanker " ++ (decimal j ++ codes " is empty")
deed_words (Ignores who k sender) = who_words who ++ (codes " ignores kind " ++ (decimal k ++ (codes " from " ++ who_words sender)))

-- a moment as the clock shows it, and in seconds
abbrev pub moment_words : ℕ → List ℕ
moment_words time = clock_words time ++ (codes " (" ++ (decimal time ++ codes " s)"))

-- when and what
abbrev pub line_words : ℕ → Deed → List ℕ
line_words time d = moment_words time ++ (codes " " ++ deed_words d)

abbrev pub unloading_words : Option ℕ → List ℕ
unloading_words None = codes "none"
unloading_words (Some time) = moment_words time

-- a number, and spaces up to so many characters
abbrev pub in_column : ℕ → ℕ → List ℕ
in_column width n = decimal n ++ repeat (width - length (decimal n)) (codes " ")

-- what it is, in twenty characters, and the figure
abbrev pub fact_words : Fact → List ℕ
fact_words (Received l) = codes "litres received     " ++ decimal l
fact_words (Left i l) = codes "left at farm " ++ (in_column 7 i ++ decimal l)
fact_words (NotVisited i) = codes "not visited         farm " ++ decimal i
fact_words (LastUnloading o) = codes "last unloading      " ++ unloading_words o
fact_words (Events n) = codes "events run          " ++ decimal n
fact_words (Lost n) = codes "lost after the end  " ++ decimal n

-- the day at a glance
abbrev pub heading_words : ℕ → ℕ → ℕ → List ℕ
heading_words f t end = codes "farms: " ++ (decimal f ++ (codes ", tankers: " ++ (decimal t ++ (codes ", end of day: " ++ moment_words end))))

-- whether the day run alone agrees
abbrev pub verdict_words : Verdict → List ℕ
verdict_words Agrees = codes "run alone: agrees"
verdict_words (DiffersAfter n) = codes "run alone: differs after " ++ (decimal n ++ codes " events")
verdict_words (DiffersAt p) = codes "run alone: differs at place " ++ decimal p
