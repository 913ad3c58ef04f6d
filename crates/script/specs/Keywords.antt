-- The words that name commands, calendars and models.
use Rattle.std.specs.Prelude.{ℕ, if◌then◌else◌, List, Ok, Err, codes, Result}
use Rattle.std.specs.Str.{bytes_eq}
use Rattle.script.specs.declared.command.CalendarKind.{CalendarKind}
use Rattle.script.specs.declared.command.CalendarKind.TheVariants.{Heap, Buckets}
use Rattle.script.specs.declared.flaw.Flaw.{Flaw}
use Rattle.script.specs.declared.flaw.Flaw.TheVariants.{UnknownWord}
use Rattle.script.specs.declared.keyword.Keyword.{Keyword}
use Rattle.script.specs.declared.keyword.Keyword.TheVariants.{Calendar, Model, Start, Load, Step, Branch, Decide, Waive, Retire, Events, Entry, Journal, Place, Next, Shares, Group, Totals}
use Rattle.script.specs.declared.keyword.ModelKind.{ModelKind}
use Rattle.script.specs.declared.keyword.ModelKind.TheVariants.{Collection, Phold}

-- the command that a word names, letter by letter
abbrev pub keyword_of : List ℕ → Result Keyword Flaw
keyword_of word =
    if bytes_eq word (codes "calendar") then Ok Calendar
    else if bytes_eq word (codes "model") then Ok Model
    else if bytes_eq word (codes "start") then Ok Start
    else if bytes_eq word (codes "load") then Ok Load
    else if bytes_eq word (codes "step") then Ok Step
    else if bytes_eq word (codes "branch") then Ok Branch
    else if bytes_eq word (codes "decide") then Ok Decide
    else if bytes_eq word (codes "waive") then Ok Waive
    else if bytes_eq word (codes "retire") then Ok Retire
    else if bytes_eq word (codes "events") then Ok Events
    else if bytes_eq word (codes "entry") then Ok Entry
    else if bytes_eq word (codes "journal") then Ok Journal
    else if bytes_eq word (codes "place") then Ok Place
    else if bytes_eq word (codes "next") then Ok Next
    else if bytes_eq word (codes "shares") then Ok Shares
    else if bytes_eq word (codes "group") then Ok Group
    else if bytes_eq word (codes "totals") then Ok Totals
    else Err UnknownWord

-- the calendar that a word names
abbrev pub calendar_of : List ℕ → Result CalendarKind Flaw
calendar_of word =
    if bytes_eq word (codes "heap") then Ok Heap
    else if bytes_eq word (codes "buckets") then Ok Buckets
    else Err UnknownWord

-- the model that a word names
abbrev pub model_of : List ℕ → Result ModelKind Flaw
model_of word =
    if bytes_eq word (codes "collection") then Ok Collection
    else if bytes_eq word (codes "phold") then Ok Phold
    else Err UnknownWord
