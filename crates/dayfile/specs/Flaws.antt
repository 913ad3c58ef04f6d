-- How a flaw is told to people.
use Rattle.std.specs.Prelude.{ℕ, List, ◌++◌, codes, decimal}
use Rattle.text.specs.Flaws as text
use Rattle.dayfile.specs.declared.flaw.Flaw.{Flaw}
use Rattle.dayfile.specs.declared.flaw.FlawKind.{FlawKind}
use Rattle.dayfile.specs.declared.flaw.FlawKind.TheVariants.{UnknownWord, Word, AtMissing, EventsMissing, TryMissing, UnknownPreference, GivenTwice, MilkedBeforeFarms, FarmsMissing, TankersMissing, EndMissing, NoMemory}

-- each kind in plain words
abbrev pub wording : FlawKind → List ℕ
wording UnknownWord = codes "the first word is none of farms, tankers, end, milked and after"
wording (Word flaw) = text.wording flaw
wording AtMissing = codes "\"at\" is missing between litres and time"
wording EventsMissing = codes "\"events\" is missing behind the number"
wording TryMissing = codes "\"try\" is missing behind events"
wording UnknownPreference = codes "the farm to try is none of nearest, farthest and smallest"
wording GivenTwice = codes "this was given on an earlier line"
wording MilkedBeforeFarms = codes "farms has to be given before the first milked"
wording FarmsMissing = codes "farms is missing"
wording TankersMissing = codes "tankers is missing"
wording EndMissing = codes "end is missing"
wording NoMemory = codes "out of memory"

-- the line, and what is wrong there
abbrev pub message : Flaw → List ℕ
message f = codes "line " ++ (decimal f.line ++ (codes ": " ++ wording f.kind))
