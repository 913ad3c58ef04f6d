-- The keyword that begins a line, and the word that names the farm to try.
use Rattle.std.specs.Prelude.{ℕ, if◌then◌else◌, List, Ok, Err, codes, Result}
use Rattle.std.specs.Str.{bytes_eq}
use Rattle.collection.specs.declared.preference.Preference.{Preference}
use Rattle.collection.specs.declared.preference.Preference.TheVariants.{Nearest, Farthest, Smallest}
use Rattle.dayfile.specs.declared.flaw.FlawKind.{FlawKind}
use Rattle.dayfile.specs.declared.flaw.FlawKind.TheVariants.{UnknownWord, UnknownPreference}
use Rattle.dayfile.specs.declared.word.Keyword.{Keyword}
use Rattle.dayfile.specs.declared.word.Keyword.TheVariants.{Farms, Tankers, End, Milked, After}

-- the word is one of five, letter by letter
abbrev pub keyword_of : List ℕ → Result Keyword FlawKind
keyword_of word =
    if bytes_eq word (codes "farms") then Ok Farms
    else if bytes_eq word (codes "tankers") then Ok Tankers
    else if bytes_eq word (codes "end") then Ok End
    else if bytes_eq word (codes "milked") then Ok Milked
    else if bytes_eq word (codes "after") then Ok After
    else Err UnknownWord

-- the farm that is preferred, letter by letter
abbrev pub preference_of : List ℕ → Result Preference FlawKind
preference_of word =
    if bytes_eq word (codes "nearest") then Ok Nearest
    else if bytes_eq word (codes "farthest") then Ok Farthest
    else if bytes_eq word (codes "smallest") then Ok Smallest
    else Err UnknownPreference
