-- A text in its parts: its lines, what a line says before its comment, its words.
use Rattle.std.specs.Prelude.{ℕ, Bool, true, false, if◌then◌else◌, not, ◌||◌, List, [], ◌∷◌, filter, ◌==◌}
use Rattle.std.specs.List.{onto_first}

-- a space, a tab or a carriage return
abbrev pub blank : ℕ → Bool
blank c = c == 32 || (c == 9 || c == 13)

-- the newline
abbrev pub newline : ℕ → Bool
newline c = c == 10

-- '#'
abbrev pub hash : ℕ → Bool
hash c = c == 35

-- no blank
abbrev pub graphic : ℕ → Bool
graphic c = not (blank c)

-- not empty
abbrev pub some : List ℕ → Bool
some [] = false
some (c ∷ cs) = true

module _ (mark : ℕ → Bool) where
  -- what stands before the first mark: all, if there is none
  abbrev pub before : List ℕ → List ℕ
  before [] = []
  before (c ∷ cs) = if mark c then [] else c ∷ before cs

  -- what begins with the first mark: nothing, if there is none
  abbrev pub onward : List ℕ → List ℕ
  onward [] = []
  onward (c ∷ cs) = if mark c then c ∷ cs else onward cs

  -- the pieces, each up to a mark; the last may lack its mark
  abbrev pub pieces : List ℕ → List (List ℕ)
  pieces [] = []
  pieces (c ∷ cs) = if mark c then [] ∷ pieces cs else onto_first c (pieces cs)

-- the lines of a text
abbrev pub lines_of : List ℕ → List (List ℕ)
lines_of text = pieces newline text

-- a line without its comment
abbrev pub said : List ℕ → List ℕ
said line = before hash line

-- what stands between blanks, without what is empty
abbrev pub words_of : List ℕ → List (List ℕ)
words_of line = filter some (pieces blank line)
