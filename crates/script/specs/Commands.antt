-- The form of a line of a replay script.
--
-- A script is a text, one command a line. '#' begins a comment that goes on to the end of the line. Words stand between
-- blanks. A line with no word says nothing. A number is one or more decimal digits and nothing else, and fits its field:
-- 8 bits (up to 255) or 32 bits (up to 4294967295). Any other line is one of these, with nothing more:
--
--     calendar heap                       calendar buckets
--     model collection FARMS TANKERS      8 bits each
--     model phold PLACES SEED REPLICATION 8, 32 and 8 bits
--     start TIME PLACE KIND DATA          32, 8, 8 and 32 bits
--     load END                            32 bits
--     step COUNT                          32 bits; 1 where it is left out
--     branch V    waive V    retire V     8 bits
--     decide V PLACE ORDER                8, 8 and 32 bits
--     events V    journal V    next V     8 bits
--     entry V POSITION                    8 and 32 bits
--     place V PLACE    group V PLACE      8 bits each
--     shares V W PLACE                    8 bits each
--     totals
--
-- A flaw is the first in the sequence of the words.
use Rattle.std.specs.Prelude.{ℕ, List, [], ◌∷◌, Some, None, Ok, Err, Option, Result}
use Rattle.event.specs.declared.Start.{Start as Starting}
use Rattle.text.specs.declared.flaw.WordFlaw.{WordFlaw}
use Rattle.text.specs.declared.flaw.WordFlaw.TheVariants.{TooFewWords, TooManyWords}
use Rattle.text.specs.Text.{said, words_of}
use Rattle.text.specs.Numbers.{number_of}
use Rattle.text.specs.Reading.{and_then, next, ended}
use Rattle.script.specs.declared.command.CalendarKind.{CalendarKind}
use Rattle.script.specs.declared.command.ModelSize.{ModelSize}
use Rattle.script.specs.declared.command.ModelSize.TheVariants as size
use Rattle.script.specs.declared.command.Command.{Command}
use Rattle.script.specs.declared.command.Command.TheVariants.{Calendar, Model, Start, Load, Step, Branch, Decide, Waive, Retire, Events, Entry, Journal, Place, Next, Shares, Group, Totals}
use Rattle.script.specs.declared.flaw.Flaw.{Flaw}
use Rattle.script.specs.declared.flaw.Flaw.TheVariants.{Word}
use Rattle.script.specs.declared.keyword.Keyword.{Keyword}
use Rattle.script.specs.declared.keyword.Keyword.TheVariants as key
use Rattle.script.specs.declared.keyword.ModelKind.{ModelKind}
use Rattle.script.specs.declared.keyword.ModelKind.TheVariants as kind
use Rattle.script.specs.Keywords.{keyword_of, calendar_of, model_of}

-- a flaw of a word is one of the line
abbrev pub worded : {X : Type 0} → Result X WordFlaw → Result X Flaw
worded (Ok x) = Ok x
worded (Err flaw) = Err (Word flaw)

-- a number of 8 bits
abbrev pub byte_of : List ℕ → Result ℕ WordFlaw
byte_of word = number_of 0 255 word

-- a number of 32 bits
abbrev pub long_of : List ℕ → Result ℕ WordFlaw
long_of word = number_of 0 4294967295 word

-- a number, and more by it and the words after it
abbrev pub byte_then : {Y : Type 0} → List (List ℕ) → (ℕ → List (List ℕ) → Result Y WordFlaw) → Result Y WordFlaw
byte_then ws more = next TooFewWords byte_of ws more

abbrev pub long_then : {Y : Type 0} → List (List ℕ) → (ℕ → List (List ℕ) → Result Y WordFlaw) → Result Y WordFlaw
long_then ws more = next TooFewWords long_of ws more

-- and nothing more
abbrev pub done : {X : Type 0} → X → List (List ℕ) → Result X WordFlaw
done x ws = ended TooManyWords x ws

-- one number of 8 bits
abbrev pub only_byte_of : List (List ℕ) → Result ℕ WordFlaw
only_byte_of ws = byte_then ws done

-- one number of 32 bits
abbrev pub only_long_of : List (List ℕ) → Result ℕ WordFlaw
only_long_of ws = long_then ws done

-- two numbers of 8 bits
abbrev pub two_bytes_of : List (List ℕ) → Result (ℕ × ℕ) WordFlaw
two_bytes_of ws = byte_then ws (λ a ws. byte_then ws (λ b ws. done (a, b) ws))

-- a count of steps, 1 where it is left out
abbrev pub count_of : List (List ℕ) → Result ℕ WordFlaw
count_of [] = Ok 1
count_of (w ∷ ws) = and_then (long_of w) (λ n. done n ws)

-- TIME PLACE KIND DATA
abbrev pub start_of : List (List ℕ) → Result Starting WordFlaw
start_of ws =
    long_then ws (λ time ws. byte_then ws (λ place ws. byte_then ws (λ kind ws. long_then ws (λ d ws.
    done (record { time = time; receiver = place; kind = kind; «data» = d }) ws))))

-- V PLACE ORDER
abbrev pub decide_of : List (List ℕ) → Result Command WordFlaw
decide_of ws = byte_then ws (λ v ws. byte_then ws (λ place ws. long_then ws (λ order ws. done (Decide v place order) ws)))

-- V POSITION
abbrev pub entry_of : List (List ℕ) → Result Command WordFlaw
entry_of ws = byte_then ws (λ v ws. long_then ws (λ i ws. done (Entry v i) ws))

-- V W PLACE
abbrev pub shares_of : List (List ℕ) → Result Command WordFlaw
shares_of ws = byte_then ws (λ v ws. byte_then ws (λ w ws. byte_then ws (λ place ws. done (Shares v w place) ws)))

-- PLACES SEED REPLICATION
abbrev pub phold_of : List (List ℕ) → Result ModelSize WordFlaw
phold_of ws = byte_then ws (λ places ws. long_then ws (λ seed ws. byte_then ws (λ r ws. done (size.Phold places seed r) ws)))

-- the numbers of a model, by its name
abbrev pub size_for : ModelKind → List (List ℕ) → Result ModelSize WordFlaw
size_for kind.Collection ws = and_then (two_bytes_of ws) (λ p. Ok (size.Collection p.0 p.1))
size_for kind.Phold ws = phold_of ws

-- the name of a calendar
abbrev pub calendar_for : List (List ℕ) → Result CalendarKind Flaw
calendar_for ws = next (Word TooFewWords) calendar_of ws (ended (Word TooManyWords))

-- the name of a model and its numbers
abbrev pub model_for : List (List ℕ) → Result ModelSize Flaw
model_for ws = next (Word TooFewWords) model_of ws (λ k ws. worded (size_for k ws))

-- a command of one variant
abbrev pub of_variant : (ℕ → Command) → List (List ℕ) → Result Command Flaw
of_variant command ws = worded (and_then (only_byte_of ws) (λ v. Ok (command v)))

-- a command of a variant and a place
abbrev pub of_place : (ℕ → ℕ → Command) → List (List ℕ) → Result Command Flaw
of_place command ws = worded (and_then (two_bytes_of ws) (λ p. Ok (command p.0 p.1)))

-- the words after a keyword
abbrev pub command_for : Keyword → List (List ℕ) → Result Command Flaw
command_for key.Calendar ws = and_then (calendar_for ws) (λ k. Ok (Calendar k))
command_for key.Model ws = and_then (model_for ws) (λ m. Ok (Model m))
command_for key.Start ws = worded (and_then (start_of ws) (λ s. Ok (Start s)))
command_for key.Load ws = worded (and_then (only_long_of ws) (λ end. Ok (Load end)))
command_for key.Step ws = worded (and_then (count_of ws) (λ n. Ok (Step n)))
command_for key.Branch ws = of_variant Branch ws
command_for key.Decide ws = worded (decide_of ws)
command_for key.Waive ws = of_variant Waive ws
command_for key.Retire ws = of_variant Retire ws
command_for key.Events ws = of_variant Events ws
command_for key.Entry ws = worded (entry_of ws)
command_for key.Journal ws = of_variant Journal ws
command_for key.Place ws = of_place Place ws
command_for key.Next ws = of_variant Next ws
command_for key.Shares ws = worded (shares_of ws)
command_for key.Group ws = of_place Group ws
command_for key.Totals ws = worded (done Totals ws)

-- what the words of a line ask for, if anything
abbrev pub command_of : List (List ℕ) → Result (Option Command) Flaw
command_of [] = Ok None
command_of (w ∷ ws) = and_then (keyword_of w) (λ k. and_then (command_for k ws) (λ c. Ok (Some c)))

-- what a line asks for, without its comment
abbrev pub command_in : List ℕ → Result (Option Command) Flaw
command_in line = command_of (words_of (said line))
