-- A text is cut at its first mark, and its pieces are so cut one by one.
use Rattle.std.proofs.Common.{◌≡◌, ℕ, ◌+◌, ◌-◌, ◌<◌, ◌≤◌, Bool, true, false, List, [], ◌∷◌, length, not, cond, ltb, Some, None, Option, take, drop, filter, sym, refl, ap, ◌∙◌, subst, ⊎_elim, add-one, arith}
use Rattle.std.specs.List.{position_or_len, onto_first}
use Rattle.std.proofs.Math.Nat.{add_comm}
use Rattle.std.specs.Option.{unwrap_or}
use Rattle.std.specs.Borrow.{Bor}
use Rattle.std.specs.Slice.{IsGetRangeResult}
use Rattle.std.proofs.lemmas.List.Sums.{prefix_len-le-length}
use Rattle.std.proofs.lemmas.Bool.Decides.{nat_tests}
use Rattle.std.proofs.lemmas.List.{take_all, length-drop, nil_from_length}
use Rattle.std.proofs.lemmas.Bool.{cases_Bool, cond_both}
use Rattle.text.specs.Text.{newline, blank, graphic, some, before, onward, pieces, lines_of, words_of}

module _ (mark : ℕ → Bool) where
  -- the cut is at the first mark, or at the end
  pub cut_first : (text : List ℕ) → (take (position_or_len mark text) text ≡ before mark text) × (drop (position_or_len mark text) text ≡ onward mark text)
  cut_first [] = (refl, refl)
  cut_first (c ∷ cs) =
      let ih = cut_first cs in
      let n = position_or_len mark cs in
      let t : take (1 + n) (c ∷ cs) ≡ c ∷ take n cs = rw (add_comm, add-one) in
      let d : drop (1 + n) (c ∷ cs) ≡ drop n cs = rw (add_comm, add-one) in
      ⊎_elim (λ (e : mark c ≡ true). simp e (refl, refl)) (λ (e : mark c ≡ false). simp e (t ∙ ap (λ l. c ∷ l) ih.0, d ∙ ih.1)) (cases_Bool (mark c))

  pub end_first : (text : List ℕ) (r : Option ℕ) → r ≡ cond (ltb (position_or_len mark text) (length text)) (Some (position_or_len mark text)) None → unwrap_or r (length text) ≡ position_or_len mark text
  end_first text r e = let b = prefix_len-le-length (λ x. not (mark x)) text in ap (λ r. unwrap_or r (length text)) e ∙ grind (arith, nat_tests)

  -- no more pieces than bytes
  length_onto_first : (c : ℕ) (ps : List (List ℕ)) → length (onto_first c ps) ≤ length ps + 1
  length_onto_first c [] = omega arith
  length_onto_first c (p ∷ ps) = omega arith

  pieces_at_most : (text : List ℕ) → length (pieces mark text) ≤ length text
  pieces_at_most [] = omega arith
  pieces_at_most (c ∷ cs) =
      let ih = pieces_at_most cs in
      let f = length_onto_first c (pieces mark cs) in
      cond_both (mark c) ([] ∷ pieces mark cs) (onto_first c (pieces mark cs)) (λ l. length l ≤ length (c ∷ cs)) (λ _. omega arith) (λ _. omega arith)

  -- the first piece ends at the first mark
  pieces_first : (text : List ℕ) → 0 < length text → pieces mark text ≡ before mark text ∷ pieces mark (drop 1 (onward mark text))
  pieces_first [] h = absurd (omega arith)
  pieces_first (c ∷ []) h = ⊎_elim (λ (e : mark c ≡ true). simp e) (λ (e : mark c ≡ false). simp e) (cases_Bool (mark c))
  pieces_first (c ∷ d ∷ cs) h =
      let ih = pieces_first (d ∷ cs) (omega arith) in
      ⊎_elim (λ (e : mark c ≡ true). simp e) (λ (e : mark c ≡ false). simp e (ap (onto_first c) ih)) (cases_Bool (mark c))

  -- what begins with a mark is empty in front of it
  pieces_onward : (text : List ℕ) → filter some (pieces mark (onward mark text)) ≡ filter some (pieces mark (drop 1 (onward mark text)))
  pieces_onward [] = refl
  pieces_onward (c ∷ cs) = ⊎_elim (λ (e : mark c ≡ true). simp e) (λ (e : mark c ≡ false). simp e (pieces_onward cs)) (cases_Bool (mark c))

-- a graphic byte begins a word
words_here : (c : ℕ) (cs : List ℕ) → blank c ≡ false → words_of (c ∷ cs) ≡ before blank (c ∷ cs) ∷ words_of (onward blank (c ∷ cs))
words_here c cs e =
    let first : pieces blank (c ∷ cs) ≡ (c ∷ before blank cs) ∷ pieces blank (drop 1 (onward blank cs)) = pieces_first blank (c ∷ cs) (omega arith) ∙ simp e in
    ap (filter some) first ∙ simp e (ap (λ ws. (c ∷ before blank cs) ∷ ws) (sym (pieces_onward blank cs)))

-- blanks in front are no word
words_skip : (line : List ℕ) → words_of line ≡ words_of (onward graphic line)
words_skip [] = refl
words_skip (c ∷ cs) = ⊎_elim (λ (e : blank c ≡ true). simp e (words_skip cs)) (λ (e : blank c ≡ false). simp e) (cases_Bool (blank c))

graphic_first : (line : List ℕ) → 0 < length (onward graphic line)
    → words_of line ≡ before blank (onward graphic line) ∷ words_of (onward blank (onward graphic line))
graphic_first [] h = absurd (omega arith)
graphic_first (c ∷ cs) h =
    ⊎_elim (λ (e : blank c ≡ true). simp e (graphic_first cs (simp e at h))) (λ (e : blank c ≡ false). simp e (simp e at (words_here c cs e))) (cases_Bool (blank c))

-- with no graphic byte there is no word
pub words_none : (line from : List ℕ) → from ≡ onward graphic line → length from ≡ 0 → words_of line ≡ []
words_none line from e h = words_skip line ∙ ap words_of (sym e ∙ nil_from_length from h)

-- the first word goes from the first graphic byte to the next blank
pub words_first : (line from word rest : List ℕ) → from ≡ onward graphic line → 0 < length from → word ≡ before blank from → rest ≡ onward blank from → words_of line ≡ word ∷ words_of rest
words_first line from word rest e h p q =
    let first = subst (λ (l : List ℕ). 0 < length l → words_of line ≡ before blank l ∷ words_of (onward blank l)) (sym e) (graphic_first line) h in
    first ∙ (λ i. sym p i ∷ words_of (sym q i))

-- past the newline, where there is one
pub past_mark : (r : Option (Bor (List ℕ))) (end : Bor (List ℕ)) → IsGetRangeResult end.now 1 (length end.now) r → (unwrap_or r end).now ≡ drop 1 end.now
past_mark None end h = let none : length end.now ≡ 0 = ⊎_elim (λ (l : length end.now < 1). omega arith) (λ (l : length end.now < length end.now). absurd (omega arith)) h.0 in simp (nil_from_length end.now none)
past_mark (Some x) end h = h.0.2 ∙ take_all (length end.now - 1) (drop 1 end.now) (omega (arith, length-drop 1 end.now))

-- the first line ends at the first newline, and the next begins after it
pub lines_first : (text line end after : List ℕ) → line ≡ before newline text → end ≡ onward newline text → after ≡ drop 1 end → 0 < length text → lines_of text ≡ line ∷ lines_of after
lines_first text line end after p q r h = let e : after ≡ drop 1 (onward newline text) = r ∙ ap (drop 1) q in pieces_first newline text h ∙ (λ i. sym p i ∷ lines_of (sym e i))

-- no more lines than bytes
pub length_lines : (text : List ℕ) → length (lines_of text) ≤ length text
length_lines text = pieces_at_most newline text
