-- A plan that is written out is read back.
use Rattle.std.proofs.Common.{◌≡◌, ℕ, ◌≤◌, ◌⊎◌, List, [], ◌∷◌, ◌++◌, map, Some, None, Ok, codes, decimal, Option, Result, sym, refl, ap, ◌∙◌, inl, inr, append_assoc, append-nil, arith}
use Rattle.std.specs.List.{AllByRecursion}
use Rattle.collection.specs.declared.preference.Preference.{Preference}
use Rattle.collection.specs.declared.preference.Preference.TheVariants.{Nearest, Farthest, Smallest}
use Rattle.event.specs.declared.Start.{Start}
use Rattle.dayfile.specs.declared.flaw.Flaw.{Flaw}
use Rattle.dayfile.specs.declared.line.Settings.{Settings}
use Rattle.dayfile.specs.declared.line.Entry.{Entry}
use Rattle.dayfile.specs.declared.line.Entry.TheVariants.{Set, Milked, After}
use Rattle.dayfile.specs.declared.plan.Milking.{Milking}
use Rattle.dayfile.specs.declared.plan.Choice.{Choice}
use Rattle.dayfile.specs.declared.plan.Plan.{Plan}
use Rattle.text.specs.Reading.{and_then}
use Rattle.text.specs.Written.{spaced}
use Rattle.text.proofs.Written.{Word, words_said, lines_written, word_decimal, number_decimal, word_by}
use Rattle.dayfile.specs.Lines.{entry_of}
use Rattle.dayfile.specs.Plans.{Told, Sheet, nothing_told, noted, at_line, read_on, read_text}
use Rattle.dayfile.specs.Held.{answer, OutOfMemory}
use Rattle.dayfile.specs.Laws.{Farmed}
use Rattle.dayfile.specs.Written.{milked_words, preference_word, after_words, Lined, none, milked, after, written_words, written, Writable}

-- one line
read_line : (t : Told) (ws : List (List ℕ)) (e : Entry) (ls : List (List ℕ)) → AllByRecursion Word ws → entry_of t.settings ws ≡ Ok (Some e) → read_on t (spaced ws ∷ ls) ≡ read_on (noted t (Some e)) ls
read_line t ws e ls h k = ap (λ r. and_then (and_then (at_line t.line r) (λ e. Ok (noted t e))) (λ t. read_on t ls)) (ap (entry_of t.settings) (words_said ws h) ∙ k)

entry_milked : (s : Settings) (f : ℕ) (m : Start) → s.farms ≡ Some f → f ≤ 255 → Farmed f m → m.time ≤ 4294967295 → m.«data» ≤ 4294967295 → entry_of s (milked_words m) ≡ Ok (Some (Milked m))
entry_milked s f m e b k t d =
    let farm = number_decimal 1 f m.receiver k.least k.most (omega arith) in
    let litres = number_decimal 0 4294967295 m.«data» (omega arith) d (omega arith) in
    let time = number_decimal 0 4294967295 m.time (omega arith) t (omega arith) in
    let kind = k.kind in
    simp (e, farm, litres, time) (ap (λ x. Ok (Some (Milked (record { time = m.time; receiver = m.receiver; kind = x; «data» = m.«data» })))) (sym kind))

entry_after : (s : Settings) (n : ℕ) (p : Preference) → n ≤ 4294967295 → entry_of s (after_words n p) ≡ Ok (Some (After n p))
entry_after s n Nearest h = let a = number_decimal 0 4294967295 n (omega arith) h (omega arith) in simp a
entry_after s n Farthest h = let a = number_decimal 0 4294967295 n (omega arith) h (omega arith) in simp a
entry_after s n Smallest h = let a = number_decimal 0 4294967295 n (omega arith) h (omega arith) in simp a

abbrev set : Option ℕ → Option ℕ → Option ℕ → Settings
set f k e = record { farms = f; tankers = k; end = e }

entry_farms : (f : ℕ) → f ≤ 255 → entry_of (set None None None) (codes "farms" ∷ decimal f ∷ []) ≡ Ok (Some (Set (set (Some f) None None)))
entry_farms f h = let n = number_decimal 0 255 f (omega arith) h (omega arith) in simp n

entry_tankers : (f k : ℕ) → k ≤ 255 → entry_of (set (Some f) None None) (codes "tankers" ∷ decimal k ∷ []) ≡ Ok (Some (Set (set (Some f) (Some k) None)))
entry_tankers f k h = let n = number_decimal 0 255 k (omega arith) h (omega arith) in simp n

entry_end : (f k e : ℕ) → e ≤ 4294967295 → entry_of (set (Some f) (Some k) None) (codes "end" ∷ decimal e ∷ []) ≡ Ok (Some (Set (set (Some f) (Some k) (Some e))))
entry_end f k e h = let n = number_decimal 0 4294967295 e (omega arith) h (omega arith) in simp n

words_setting : (w : List ℕ) (n : ℕ) → Word w → n ≤ 4294967295 → AllByRecursion Word (w ∷ decimal n ∷ [])
words_setting w n h b = (h, (word_decimal n b, tt))

words_milked : (m : Start) → m.receiver ≤ 255 → m.time ≤ 4294967295 → m.«data» ≤ 4294967295 → AllByRecursion Word (milked_words m)
words_milked m b t d =
    (word_by (codes "milked") refl refl, (word_decimal m.receiver (omega arith), (word_decimal m.«data» d, (word_by (codes "at") refl refl, (word_decimal m.time t, tt)))))

word_preference : (p : Preference) → Word (preference_word p)
word_preference Nearest = word_by (codes "nearest") refl refl
word_preference Farthest = word_by (codes "farthest") refl refl
word_preference Smallest = word_by (codes "smallest") refl refl

words_after : (n : ℕ) (p : Preference) → n ≤ 4294967295 → AllByRecursion Word (after_words n p)
words_after n p h = (word_by (codes "after") refl refl, (word_decimal n h, (word_by (codes "events") refl refl, (word_by (codes "try") refl refl, (word_preference p, tt)))))

-- a milking at one of f farms, of numbers that fit
record MilkingFits (f : ℕ) (m : Start) : Type 0 where
  farmed : Farmed f m
  time : m.time ≤ 4294967295
  litres : m.«data» ≤ 4294967295

abbrev MilkingsFit : ℕ → List Milking → Type 0
MilkingsFit f ms = AllByRecursion (λ (m : Milking). MilkingFits f m.start) ms

abbrev ChoicesFit : List Choice → Type 0
ChoicesFit cs = AllByRecursion (λ (c : Choice). c.events ≤ 4294967295) cs

milkings_fit : (f : ℕ) (ms : List Milking) → AllByRecursion (λ m. Farmed f m.start) ms → AllByRecursion (λ m. m.start.time ≤ 4294967295) ms → AllByRecursion (λ m. m.start.«data» ≤ 4294967295) ms → MilkingsFit f ms
milkings_fit f [] h u v = tt
milkings_fit f (m ∷ ms) h u v = (record { farmed = h.0; time = u.0; litres = v.0 }, milkings_fit f ms h.1 u.1 v.1)

-- the milkings and the choices, after the settings
module _ (f k e : ℕ) (small : f ≤ 255) where
  words_fit : (m : Start) → MilkingFits f m → AllByRecursion Word (milked_words m)
  words_fit m h = words_milked m (omega (arith, h.farmed.most)) h.time h.litres

  words_all : {n : ℕ} {ms : List Milking} {cs : List Choice} {ls : List (List (List ℕ))} → Lined n ms cs ls → MilkingsFit f ms → ChoicesFit cs → AllByRecursion (AllByRecursion Word) ls
  words_all none h u = tt
  words_all (milked m l) h u = (words_fit m h.0, words_all l h.1 u)
  words_all (after n p l) h u = (words_after n p u.0, words_all l h u.1)

  -- after the settings, with what was told before line n
  abbrev told_by : ℕ → List Milking → List Choice → Told
  told_by n ms cs = record { line = n; settings = set (Some f) (Some k) (Some e); milkings = ms; choices = cs }

  abbrev sheet_by : List Milking → List Choice → Sheet
  sheet_by ms cs = record { farms = f; tankers = k; end = e; milkings = ms; choices = cs }

  read_lined : {n : ℕ} {ms : List Milking} {cs : List Choice} {ls : List (List (List ℕ))} → Lined n ms cs ls → (a : List Milking) (b : List Choice) → MilkingsFit f ms → ChoicesFit cs
      → read_on (told_by n a b) (map spaced ls) ≡ Ok (sheet_by (a ++ ms) (b ++ cs))
  read_lined none a b h u = λ i. Ok (sheet_by (sym (append-nil a) i) (sym (append-nil b) i))
  read_lined (milked {n} {ms} {cs} {ls} m l) a b h u =
      let new : Milking = record { line = n; start = m } in
      read_line (told_by n a b) (milked_words m) (Milked m) (map spaced ls) (words_fit m h.0) (entry_milked (set (Some f) (Some k) (Some e)) f m refl small h.0.farmed h.0.time h.0.litres)
      ∙ read_lined l (a ++ new ∷ []) b h.1 u
      ∙ (λ i. Ok (sheet_by (append_assoc a (new ∷ []) ms i) (b ++ cs)))
  read_lined (after {n} {ms} {cs} {ls} j p l) a b h u =
      let new : Choice = record { line = n; events = j; preference = p } in
      read_line (told_by n a b) (after_words j p) (After j p) (map spaced ls) (words_after j p u.0) (entry_after (set (Some f) (Some k) (Some e)) j p u.0)
      ∙ read_lined l a (b ++ new ∷ []) h u.1
      ∙ (λ i. Ok (sheet_by (a ++ ms) (append_assoc b (new ∷ []) cs i)))

-- the lines of the text, by their words
read_words : (s : Sheet) (ls : List (List (List ℕ))) → Writable s ls → read_on nothing_told (map spaced (written_words s ls)) ≡ Ok s
read_words s ls w =
    let f = s.farms in
    let k = s.tankers in
    let e = s.end in
    let told : ℕ → Option ℕ → Option ℕ → Option ℕ → Told = λ n f k e. record { line = n; settings = set f k e; milkings = []; choices = [] } in
    let rest = map spaced ls in
    read_line (told 1 None None None) (codes "farms" ∷ decimal f ∷ []) (Set (set (Some f) None None)) (spaced (codes "tankers" ∷ decimal k ∷ []) ∷ spaced (codes "end" ∷ decimal e ∷ []) ∷ rest)
    (words_setting (codes "farms") f (word_by (codes "farms") refl refl) (omega (arith, w.farms))) (entry_farms f w.farms)
    ∙ read_line (told 2 (Some f) None None) (codes "tankers" ∷ decimal k ∷ []) (Set (set (Some f) (Some k) None)) (spaced (codes "end" ∷ decimal e ∷ []) ∷ rest)
    (words_setting (codes "tankers") k (word_by (codes "tankers") refl refl) (omega (arith, w.tankers))) (entry_tankers f k w.tankers)
    ∙ read_line (told 3 (Some f) (Some k) None) (codes "end" ∷ decimal e ∷ []) (Set (set (Some f) (Some k) (Some e))) rest
    (words_setting (codes "end") e (word_by (codes "end") refl refl) w.end) (entry_end f k e w.end)
    ∙ read_lined f k e w.farms w.lines [] [] (milkings_fit f s.milkings w.farmed w.times w.litres) w.events

pub read_back : (s : Sheet) (ls : List (List (List ℕ))) → Writable s ls → read_text (written s ls) ≡ Ok s
unfolding written
read_back s ls w =
    let words : AllByRecursion (AllByRecursion Word) (written_words s ls) = (
      words_setting (codes "farms") s.farms (word_by (codes "farms") refl refl) (omega (arith, w.farms)),
      (
        words_setting (codes "tankers") s.tankers (word_by (codes "tankers") refl refl) (omega (arith, w.tankers)),
        (words_setting (codes "end") s.end (word_by (codes "end") refl refl) w.end, words_all s.farms s.tankers s.end w.farms w.lines (milkings_fit s.farms s.milkings w.farmed w.times w.litres) w.events),
      ),
    ) in
    ap (read_on nothing_told) (lines_written (written_words s ls) words) ∙ read_words s ls w

-- whatever answer a text that is so written gets
pub answered : (text : List ℕ) (r : Result Plan Flaw) → OutOfMemory r ⊎ (answer r ≡ read_text text) → (s : Sheet) (ls : List (List (List ℕ))) → Writable s ls → text ≡ written s ls
    → OutOfMemory r ⊎ (answer r ≡ Ok s)
answered text r (inl m) s ls w e = inl m
answered text r (inr h) s ls w e = inr (h ∙ ap read_text e ∙ read_back s ls w)
