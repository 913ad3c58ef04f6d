-- What is no text is none of the words that name commands, calendars and models.
use Rattle.std.proofs.Common.{◌≡◌, ℕ, List, codes, Err, rules}
use Rattle.std.specs.Str.{IsUtf8}
use Rattle.std.proofs.lemmas.Str.{IsUtf8-from_ascii}
use Rattle.text.proofs.Numbers.{not_word}
use Rattle.script.specs.declared.flaw.Flaw.TheVariants.{UnknownWord}
use Rattle.script.specs.Keywords.{keyword_of, calendar_of, model_of}

pub unknown_keyword : (word : List ℕ) → ¬ (IsUtf8 word) → Err UnknownWord ≡ keyword_of word
unknown_keyword word h =
    let calendar = not_word word (codes "calendar") h (IsUtf8-from_ascii _ (search rules)) in
    let model = not_word word (codes "model") h (IsUtf8-from_ascii _ (search rules)) in
    let start = not_word word (codes "start") h (IsUtf8-from_ascii _ (search rules)) in
    let load = not_word word (codes "load") h (IsUtf8-from_ascii _ (search rules)) in
    let step = not_word word (codes "step") h (IsUtf8-from_ascii _ (search rules)) in
    let branch = not_word word (codes "branch") h (IsUtf8-from_ascii _ (search rules)) in
    let decide = not_word word (codes "decide") h (IsUtf8-from_ascii _ (search rules)) in
    let waive = not_word word (codes "waive") h (IsUtf8-from_ascii _ (search rules)) in
    let retire = not_word word (codes "retire") h (IsUtf8-from_ascii _ (search rules)) in
    let events = not_word word (codes "events") h (IsUtf8-from_ascii _ (search rules)) in
    let entry = not_word word (codes "entry") h (IsUtf8-from_ascii _ (search rules)) in
    let journal = not_word word (codes "journal") h (IsUtf8-from_ascii _ (search rules)) in
    let place = not_word word (codes "place") h (IsUtf8-from_ascii _ (search rules)) in
    let next = not_word word (codes "next") h (IsUtf8-from_ascii _ (search rules)) in
    let shares = not_word word (codes "shares") h (IsUtf8-from_ascii _ (search rules)) in
    let group = not_word word (codes "group") h (IsUtf8-from_ascii _ (search rules)) in
    let totals = not_word word (codes "totals") h (IsUtf8-from_ascii _ (search rules)) in
    simp (calendar, model, start, load, step, branch, decide, waive, retire, events, entry, journal, place, next, shares, group, totals)

pub unknown_calendar : (word : List ℕ) → ¬ (IsUtf8 word) → Err UnknownWord ≡ calendar_of word
unknown_calendar word h =
    let heap = not_word word (codes "heap") h (IsUtf8-from_ascii _ (search rules)) in
    let buckets = not_word word (codes "buckets") h (IsUtf8-from_ascii _ (search rules)) in
    simp (heap, buckets)

pub unknown_model : (word : List ℕ) → ¬ (IsUtf8 word) → Err UnknownWord ≡ model_of word
unknown_model word h =
    let collection = not_word word (codes "collection") h (IsUtf8-from_ascii _ (search rules)) in
    let phold = not_word word (codes "phold") h (IsUtf8-from_ascii _ (search rules)) in
    simp (collection, phold)
