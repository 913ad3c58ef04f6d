-- What a line says: nothing, a setting of the day, a milking, or a choice.
use Rattle.std.specs.Prelude.{ℕ, if◌then◌else◌, List, [], ◌∷◌, Some, None, Ok, Err, codes, Option, Result}
use Rattle.std.specs.Str.{bytes_eq}
use Rattle.event.specs.declared.Start.{Start}
use Rattle.text.specs.declared.flaw.WordFlaw.{WordFlaw}
use Rattle.text.specs.declared.flaw.WordFlaw.TheVariants.{TooFewWords, TooManyWords}
use Rattle.text.specs.Numbers.{number_of}
use Rattle.text.specs.Reading.{and_then, next, ended}
use Rattle.dayfile.specs.declared.flaw.FlawKind.{FlawKind}
use Rattle.dayfile.specs.declared.flaw.FlawKind.TheVariants.{Word, AtMissing, EventsMissing, TryMissing, GivenTwice, MilkedBeforeFarms}
use Rattle.dayfile.specs.declared.line.Settings.{Settings}
use Rattle.dayfile.specs.declared.line.Entry.{Entry}
use Rattle.dayfile.specs.declared.line.Entry.TheVariants as entry
use Rattle.dayfile.specs.declared.word.Keyword.{Keyword}
use Rattle.dayfile.specs.declared.word.Keyword.TheVariants as key
use Rattle.dayfile.specs.Words.{keyword_of, preference_of}

-- a flaw of a word is one of the file
abbrev pub worded : {X : Type 0} → Result X WordFlaw → Result X FlawKind
worded (Ok x) = Ok x
worded (Err flaw) = Err (Word flaw)

-- a number, and more by it and the words after it
abbrev pub numbered : {Y : Type 0} → ℕ → ℕ → List (List ℕ) → (ℕ → List (List ℕ) → Result Y FlawKind) → Result Y FlawKind
numbered low high ws more = next (Word TooFewWords) (λ w. worded (number_of low high w)) ws more

-- a word that has to be the wanted one
abbrev pub the_word : List ℕ → FlawKind → List ℕ → Result Unit FlawKind
the_word wanted missing w = if bytes_eq w wanted then Ok tt else Err missing

-- the wanted word, and more by the words after it
abbrev pub behind_word : {Y : Type 0} → List ℕ → FlawKind → List (List ℕ) → (List (List ℕ) → Result Y FlawKind) → Result Y FlawKind
behind_word wanted missing ws more = next (Word TooFewWords) (the_word wanted missing) ws (λ _ ws. more ws)

-- one number up to high, and nothing more
abbrev pub only_number_of : ℕ → List (List ℕ) → Result ℕ FlawKind
only_number_of high ws = numbered 0 high ws (ended (Word TooManyWords))

-- at TIME
abbrev pub moment_of : List (List ℕ) → Result ℕ FlawKind
moment_of ws = behind_word (codes "at") AtMissing ws (only_number_of 4294967295)

-- FARM LITRES at TIME
abbrev pub milking_of : ℕ → List (List ℕ) → Result Start FlawKind
milking_of farms ws =
    numbered 1 farms ws (λ farm ws.
    numbered 0 4294967295 ws (λ litres ws.
    and_then (moment_of ws) (λ time. Ok (record { time = time; receiver = farm; kind = 0; «data» = litres }))))

-- N events try WORD
abbrev pub choice_of : List (List ℕ) → Result Entry FlawKind
choice_of ws =
    numbered 0 4294967295 ws (λ events ws.
    behind_word (codes "events") EventsMissing ws (λ ws.
    behind_word (codes "try") TryMissing ws (λ ws.
    next (Word TooFewWords) preference_of ws (λ preference ws.
    ended (Word TooManyWords) (entry.After events preference) ws))))

-- what was given before is given twice
abbrev pub once : {T X : Type 0} → Option T → Result X FlawKind → Result X FlawKind
once None given = given
once (Some n) given = Err GivenTwice

-- farms N
abbrev pub farms_set : Settings → List (List ℕ) → Result Settings FlawKind
farms_set s ws = and_then (once s.farms (only_number_of 255 ws)) (λ n. Ok (record { farms = Some n; tankers = s.tankers; end = s.end }))

-- tankers N
abbrev pub tankers_set : Settings → List (List ℕ) → Result Settings FlawKind
tankers_set s ws = and_then (once s.tankers (only_number_of 255 ws)) (λ n. Ok (record { farms = s.farms; tankers = Some n; end = s.end }))

-- end N
abbrev pub end_set : Settings → List (List ℕ) → Result Settings FlawKind
end_set s ws = and_then (once s.end (only_number_of 4294967295 ws)) (λ n. Ok (record { farms = s.farms; tankers = s.tankers; end = Some n }))

-- milked FARM LITRES at TIME, after farms
abbrev pub milked_by : Option ℕ → List (List ℕ) → Result Start FlawKind
milked_by None ws = Err MilkedBeforeFarms
milked_by (Some farms) ws = milking_of farms ws

-- the words after a keyword
abbrev pub entry_for : Settings → Keyword → List (List ℕ) → Result Entry FlawKind
entry_for s key.Farms ws = and_then (farms_set s ws) (λ t. Ok (entry.Set t))
entry_for s key.Tankers ws = and_then (tankers_set s ws) (λ t. Ok (entry.Set t))
entry_for s key.End ws = and_then (end_set s ws) (λ t. Ok (entry.Set t))
entry_for s key.Milked ws = and_then (milked_by s.farms ws) (λ m. Ok (entry.Milked m))
entry_for s key.After ws = choice_of ws

-- what the words of a line say, if anything, where the lines before it have set s
abbrev pub entry_of : Settings → List (List ℕ) → Result (Option Entry) FlawKind
entry_of s [] = Ok None
entry_of s (w ∷ ws) = and_then (keyword_of w) (λ k. and_then (entry_for s k ws) (λ e. Ok (Some e)))
