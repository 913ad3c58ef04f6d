-- Every milking of a plan is at one of its farms, and milkings and choices stand in the sequence of their lines.
use Rattle.std.proofs.Common.{◌≡◌, ℕ, ◌+◌, ◌<◌, ◌≤◌, cond, ◌&&◌, leb, ◌⊎◌, List, [], ◌∷◌, ◌++◌, IfOk, IfSome, Some, None, Ok, Err, codes, Option, Result, sym, refl, subst, inl, inr, MatchOption, arith}
use Rattle.std.specs.List.{AllByRecursion}
use Rattle.std.proofs.ByRecursion.{All-push}
use Rattle.std.proofs.lemmas.Bool.{cond_both, and_parts, leb-true}
use Rattle.dayfile.specs.declared.flaw.Flaw.{Flaw}
use Rattle.dayfile.specs.declared.flaw.FlawKind.{FlawKind}
use Rattle.dayfile.specs.declared.flaw.FlawKind.TheVariants.{Word, EventsMissing, TryMissing, FarmsMissing, TankersMissing, EndMissing}
use Rattle.dayfile.specs.declared.line.Settings.{Settings}
use Rattle.dayfile.specs.declared.line.Entry.{Entry}
use Rattle.dayfile.specs.declared.line.Entry.TheVariants.{Set, Milked, After}
use Rattle.dayfile.specs.declared.plan.Milking.{Milking}
use Rattle.dayfile.specs.declared.plan.Choice.{Choice}
use Rattle.dayfile.specs.declared.plan.Plan.{Plan}
use Rattle.dayfile.specs.declared.word.Keyword.{Keyword}
use Rattle.dayfile.specs.declared.word.Keyword.TheVariants as key
use Rattle.text.specs.declared.flaw.WordFlaw.{WordFlaw}
use Rattle.text.specs.declared.flaw.WordFlaw.TheVariants.{NotANumber, OutOfRange, TooFewWords, TooManyWords}
use Rattle.text.specs.Text.{lines_of, said, words_of}
use Rattle.text.specs.Numbers.{is_number, value_of, number_of}
use Rattle.text.specs.Reading.{and_then, next, ended}
use Rattle.dayfile.specs.Words.{keyword_of, preference_of}
use Rattle.dayfile.specs.Lines.{worded, the_word, only_number_of, once, moment_of, milking_of, milked_by, choice_of, entry_for, entry_of}
use Rattle.dayfile.specs.Plans.{Told, Sheet, nothing_told, noted, at_line, step, needed, finished, read_on, read_text}
use Rattle.dayfile.specs.Held.{sheet_of, answer, OutOfMemory}
use Rattle.dayfile.specs.Laws.{Farmed, Later, Sound}

-- what holds of a value that is read on holds at the end
made_then : {X Y E : Type 0} (P : X → Type 0) (Q : Y → Type 0) (r : Result X E) (more : X → Result Y E) → IfOk r P → ((x : X) → P x → IfOk (more x) Q) → IfOk (and_then r more) Q
made_then P Q (Ok x) more p f = f x p
made_then P Q (Err e) more p f = tt

made_next : {X Y : Type 0} (P : X → Type 0) (Q : Y → Type 0) (none : FlawKind) (read : List ℕ → Result X FlawKind) (ws : List (List ℕ)) (more : X → List (List ℕ) → Result Y FlawKind)
    → ((w : List ℕ) → IfOk (read w) P) → ((x : X) (ws : List (List ℕ)) → P x → IfOk (more x ws) Q) → IfOk (next none read ws more) Q
made_next P Q none read [] more p f = tt
made_next P Q none read (w ∷ ws) more p f = made_then P Q (read w) (λ x. more x ws) (p w) (λ x h. f x ws h)

made_any : {X E : Type 0} (r : Result X E) → IfOk r (λ _. Unit {0})
made_any (Ok x) = tt
made_any (Err e) = tt

made_ended : {X E : Type 0} (P : X → Type 0) (over : E) (x : X) (ws : List (List ℕ)) → P x → IfOk (ended over x ws) P
made_ended P over x [] p = p
made_ended P over x (w ∷ ws) p = tt

made_once : {T X : Type 0} (o : Option T) (r : Result X FlawKind) → IfOk (once o r) (λ _. o ≡ None)
made_once None (Ok x) = refl
made_once None (Err k) = tt
made_once (Some n) r = tt

made_number : (low high : ℕ) (w : List ℕ) → IfOk (worded (number_of low high w)) (λ n. (low ≤ n) × (n ≤ high))
made_number low high w =
    let Within : Result ℕ WordFlaw → Type 0 = λ r. IfOk (worded r) (λ n. (low ≤ n) × (n ≤ high)) in
    cond_both (is_number w) (cond (leb low (value_of w) && leb (value_of w) high) (Ok (value_of w)) (Err OutOfRange)) (Err NotANumber) Within
    (λ _. cond_both (leb low (value_of w) && leb (value_of w) high) (Ok (value_of w)) (Err OutOfRange) Within
    (λ e. let b = and_parts _ _ e in (leb-true _ _ b.0, leb-true _ _ b.1)) (λ _. tt))
    (λ _. tt)

made_milking : (farms : ℕ) (ws : List (List ℕ)) → IfOk (milking_of farms ws) (Farmed farms)
made_milking farms ws =
    made_next (λ n. (1 ≤ n) × (n ≤ farms)) (Farmed farms) (Word TooFewWords) (λ w. worded (number_of 1 farms w)) ws _ (λ w. made_number 1 farms w)
    (λ farm ws h. made_next (λ _. Unit {0}) (Farmed farms) (Word TooFewWords) (λ w. worded (number_of 0 4294967295 w)) ws _ (λ w. made_any _)
    (λ litres ws _. made_then (λ _. Unit {0}) (Farmed farms) (moment_of ws) _ (made_any _) (λ time _. record { least = h.0; most = h.1; kind = refl })))

-- farms are given once, and milk comes to one of them
abbrev Fits : Settings → Entry → Type 0
Fits s (Set t) = (t.farms ≡ s.farms) ⊎ (s.farms ≡ None)
Fits s (Milked m) = MatchOption s.farms ⊥ (λ f. Farmed f m)
Fits s (After n p) = Unit {0}

made_choice : (s : Settings) (ws : List (List ℕ)) → IfOk (choice_of ws) (Fits s)
made_choice s ws =
    made_next (λ _. Unit {0}) (Fits s) (Word TooFewWords) (λ w. worded (number_of 0 4294967295 w)) ws _ (λ w. made_any _)
    (λ n ws _. made_next (λ _. Unit {0}) (Fits s) (Word TooFewWords) (the_word (codes "events") EventsMissing) ws _ (λ w. made_any _)
    (λ _ ws _. made_next (λ _. Unit {0}) (Fits s) (Word TooFewWords) (the_word (codes "try") TryMissing) ws _ (λ w. made_any _)
    (λ _ ws _. made_next (λ _. Unit {0}) (Fits s) (Word TooFewWords) preference_of ws _ (λ w. made_any _)
    (λ p ws _. made_ended (Fits s) (Word TooManyWords) (After n p) ws tt))))

made_set : (s : Settings) (r : Result Settings FlawKind) → IfOk r (λ t. Fits s (Set t)) → IfOk (and_then r (λ t. Ok (Set t))) (Fits s)
made_set s r h = made_then (λ t. Fits s (Set t)) (Fits s) r (λ t. Ok (Set t)) h (λ t h. h)

made_by : (s : Settings) (k : Keyword) (ws : List (List ℕ)) → IfOk (entry_for s k ws) (Fits s)
made_by s key.Farms ws =
    made_set s _ (made_then (λ _. s.farms ≡ None) (λ t. Fits s (Set t)) (once s.farms (only_number_of 255 ws)) _ (made_once s.farms _) (λ n e. inr e))
made_by s key.Tankers ws =
    made_set s _ (made_then (λ _. Unit {0}) (λ t. Fits s (Set t)) (once s.tankers (only_number_of 255 ws)) _ (made_any _) (λ n _. inl refl))
made_by s key.End ws =
    made_set s _ (made_then (λ _. Unit {0}) (λ t. Fits s (Set t)) (once s.end (only_number_of 4294967295 ws)) _ (made_any _) (λ n _. inl refl))
made_by s key.Milked ws = made_then (λ m. Fits s (Milked m)) (Fits s) (milked_by s.farms ws) (λ m. Ok (Milked m)) (go s.farms) (λ m h. h)
  where
    go : (o : Option ℕ) → IfOk (milked_by o ws) (λ m. MatchOption o ⊥ (λ f. Farmed f m))
    go None = tt
    go (Some f) = made_milking f ws
made_by s key.After ws = made_choice s ws

made_entry : (s : Settings) (ws : List (List ℕ)) → IfOk (entry_of s ws) (λ o. IfSome o (Fits s))
made_entry s [] = tt
made_entry s (w ∷ ws) =
    made_then (λ _. Unit {0}) (λ o. IfSome o (Fits s)) (keyword_of w) _ (made_any _) (λ k _. made_then (Fits s) (λ o. IfSome o (Fits s)) (entry_for s k ws) (λ e. Ok (Some e)) (made_by s k ws) (λ e h. h))

made_at : {X : Type 0} (P : X → Type 0) (n : ℕ) (r : Result X FlawKind) → IfOk r P → IfOk (at_line n r) P
made_at P n (Ok x) h = h
made_at P n (Err k) h = tt

-- the milkings so far are at the farms given
abbrev Held : Option ℕ → List Milking → Type 0
Held farms ms = MatchOption farms (ms ≡ []) (λ f. AllByRecursion (λ m. Farmed f m.start) ms)

-- lines rise from n, and e is past the last of them
module _ {X : Type 0} (line : X → ℕ) where
  abbrev Upto : ℕ → List X → ℕ → Type 0
  Upto n [] e = n < e
  Upto n (x ∷ xs) e = (n < line x) × Upto (line x) xs e

  later : (n : ℕ) (xs : List X) (e : ℕ) → Upto n xs e → Later line n xs
  later n [] e h = tt
  later n (x ∷ xs) e h = (h.0, later (line x) xs e h.1)

  upto_next : (n : ℕ) (xs : List X) (e : ℕ) → Upto n xs e → Upto n xs (e + 1)
  upto_next n [] e h = omega arith
  upto_next n (x ∷ xs) e h = (h.0, upto_next (line x) xs e h.1)

  upto_push : (n : ℕ) (xs : List X) (x : X) → Upto n xs (line x) → Upto n (xs ++ x ∷ []) (line x + 1)
  upto_push n [] x h = (h, omega arith)
  upto_push n (y ∷ xs) x h = (h.0, upto_push (line y) xs x h.1)

abbrev milkings_upto : List Milking → ℕ → Type 0
milkings_upto ms n = Upto (λ (m : Milking). m.line) 0 ms n

abbrev choices_upto : List Choice → ℕ → Type 0
choices_upto cs n = Upto (λ (c : Choice). c.line) 0 cs n

-- the milkings so far are at the farms given, and all that was told stands on lines before the next
record Kept (t : Told) : Type 0 where
  held : Held t.settings.farms t.milkings
  milkings : milkings_upto t.milkings t.line
  choices : choices_upto t.choices t.line

held_none : (o : Option ℕ) (ms : List Milking) → Held None ms → Held o ms
held_none None ms h = h
held_none (Some f) ms h = subst (AllByRecursion (λ m. Farmed f m.start)) (sym h) tt

held_more : (o : Option ℕ) (ms : List Milking) (m : Milking) → Held o ms → MatchOption o ⊥ (λ f. Farmed f m.start) → Held o (ms ++ m ∷ [])
held_more None ms m h k = absurd k
held_more (Some f) ms m h k = All-push (λ m. Farmed f m.start) ms m h k

held_set : (s t : Settings) (ms : List Milking) → Fits s (Set t) → Held s.farms ms → Held t.farms ms
held_set s t ms (inl e) h = subst (λ (o : Option ℕ). Held o ms) (sym e) h
held_set s t ms (inr e) h = held_none t.farms ms (subst (λ (o : Option ℕ). Held o ms) e h)

-- a line later, nothing more was told
milkings_next : (t : Told) → Kept t → milkings_upto t.milkings (t.line + 1)
milkings_next t k = upto_next (λ (m : Milking). m.line) 0 t.milkings t.line k.milkings

choices_next : (t : Told) → Kept t → choices_upto t.choices (t.line + 1)
choices_next t k = upto_next (λ (c : Choice). c.line) 0 t.choices t.line k.choices

kept_noted : (t : Told) (o : Option Entry) → IfSome o (Fits t.settings) → Kept t → Kept (noted t o)
kept_noted t None h k = record { held = k.held; milkings = milkings_next t k; choices = choices_next t k }
kept_noted t (Some (Set s)) h k = record { held = held_set t.settings s t.milkings h k.held; milkings = milkings_next t k; choices = choices_next t k }
kept_noted t (Some (Milked m)) h k =
    let told : Milking = record { line = t.line; start = m } in
    record {
      held = held_more t.settings.farms t.milkings told k.held h;
      milkings = upto_push (λ (m : Milking). m.line) 0 t.milkings told k.milkings;
      choices = choices_next t k;
    }
kept_noted t (Some (After n p)) h k =
    record {
      held = k.held;
      milkings = milkings_next t k;
      choices = upto_push (λ (c : Choice). c.line) 0 t.choices (record { line = t.line; events = n; preference = p }) k.choices;
    }

made_step : (t : Told) (line : List ℕ) → Kept t → IfOk (step t line) Kept
made_step t line k =
    made_then (λ o. IfSome o (Fits t.settings)) Kept (at_line t.line (entry_of t.settings (words_of (said line)))) (λ e. Ok (noted t e)) (made_at (λ o. IfSome o (Fits t.settings)) t.line (entry_of t.settings (words_of (said line))) (made_entry t.settings (words_of (said line))))
    (λ e h. kept_noted t e h k)

made_needed : (k : FlawKind) (o : Option ℕ) → IfOk (needed k o) (λ n. o ≡ Some n)
made_needed k None = tt
made_needed k (Some n) = refl

made_finished : (t : Told) → Kept t → IfOk (finished t) Sound
made_finished t k =
    made_at Sound t.line _
    (made_then (λ f. t.settings.farms ≡ Some f) Sound (needed FarmsMissing t.settings.farms) _ (made_needed FarmsMissing t.settings.farms)
    (λ f e. made_then (λ _. Unit {0}) Sound (needed TankersMissing t.settings.tankers) _ (made_any _)
    (λ _ _. made_then (λ _. Unit {0}) Sound (needed EndMissing t.settings.end) _ (made_any _)
    (λ _ _. record {
      farmed = subst (λ (o : Option ℕ). Held o t.milkings) e k.held;
      milkings = later (λ (m : Milking). m.line) 0 t.milkings t.line k.milkings;
      choices = later (λ (c : Choice). c.line) 0 t.choices t.line k.choices;
    }))))

made_read_on : (t : Told) (ls : List (List ℕ)) → Kept t → IfOk (read_on t ls) Sound
made_read_on t [] k = made_finished t k
made_read_on t (l ∷ ls) k = made_then Kept Sound (step t l) (λ t. read_on t ls) (made_step t l k) (λ t k. made_read_on t ls k)

-- the plan of a text
pub sound_answer : (text : List ℕ) (r : Result Plan Flaw) → OutOfMemory r ⊎ (answer r ≡ read_text text) → IfOk r (λ p. Sound (sheet_of p))
sound_answer text (Ok p) (inl m) = absurd m
sound_answer text (Ok p) (inr e) = subst (λ (r : Result Sheet Flaw). IfOk r Sound) (sym e) (made_read_on nothing_told (lines_of text) (record { held = refl; milkings = omega arith; choices = omega arith }))
sound_answer text (Err f) h = tt
