-- What is no text is none of the keywords, and names no farm to try.
use Rattle.std.proofs.Common.{◌≡◌, ℕ, List, codes, Err, rules}
use Rattle.std.specs.Str.{IsUtf8}
use Rattle.std.proofs.lemmas.Str.{IsUtf8-from_ascii}
use Rattle.text.proofs.Numbers.{not_word}
use Rattle.dayfile.specs.declared.flaw.FlawKind.TheVariants.{UnknownWord, UnknownPreference}
use Rattle.dayfile.specs.Words.{keyword_of, preference_of}

pub unknown : (word : List ℕ) → ¬ (IsUtf8 word) → Err UnknownWord ≡ keyword_of word
unknown word h =
    let farms = not_word word (codes "farms") h (IsUtf8-from_ascii _ (search rules)) in
    let tankers = not_word word (codes "tankers") h (IsUtf8-from_ascii _ (search rules)) in
    let end = not_word word (codes "end") h (IsUtf8-from_ascii _ (search rules)) in
    let milked = not_word word (codes "milked") h (IsUtf8-from_ascii _ (search rules)) in
    let after = not_word word (codes "after") h (IsUtf8-from_ascii _ (search rules)) in
    simp (farms, tankers, end, milked, after)

pub unknown_preference : (word : List ℕ) → ¬ (IsUtf8 word) → Err UnknownPreference ≡ preference_of word
unknown_preference word h =
    let nearest = not_word word (codes "nearest") h (IsUtf8-from_ascii _ (search rules)) in
    let farthest = not_word word (codes "farthest") h (IsUtf8-from_ascii _ (search rules)) in
    let smallest = not_word word (codes "smallest") h (IsUtf8-from_ascii _ (search rules)) in
    simp (nearest, farthest, smallest)
