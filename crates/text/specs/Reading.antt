-- A line read word by word.
use Rattle.std.specs.Prelude.{ℕ, List, [], ◌∷◌, Ok, Err, Result}
use Rattle.text.specs.declared.parts.Words.{Words}

-- what is read goes on, and a flaw stays a flaw
abbrev pub and_then : {X Y E : Type 0} → Result X E → (X → Result Y E) → Result Y E
and_then (Ok x) more = more x
and_then (Err e) more = Err e

-- the first word is read, and more is made of it and of the words after it; with no word there is a flaw
abbrev pub next : {X Y E : Type 0} → E → (List ℕ → Result X E) → List (List ℕ) → (X → List (List ℕ) → Result Y E) → Result Y E
next none read [] more = Err none
next none read (w ∷ ws) more = and_then (read w) (λ x. more x ws)

-- nothing more is said; a word more is a flaw
abbrev pub ended : {X E : Type 0} → E → X → List (List ℕ) → Result X E
ended over x [] = Ok x
ended over x (w ∷ ws) = Err over

-- a value and the words after it
abbrev pub paired : {X E : Type 0} → X → List (List ℕ) → Result (X × List (List ℕ)) E
paired x ws = Ok (x, ws)

-- a value, and the words that are left after it
abbrev pub behind : {X E : Type 0} → Result X E → Words → Result (X × List (List ℕ)) E
behind (Ok x) w = Ok (x, w)
behind (Err e) w = Err e
