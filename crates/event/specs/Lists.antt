-- Lists in the order of their keys, of anything that has a key.
use Rattle.std.specs.Prelude.{◌≡◌, Bool, true, false, List, nat_lt, vec_len, vec_capacity, if◌then◌else◌, [], ◌∷◌, Some, None, Option, ◌≢◌}
use Rattle.std.specs.Global.{Vec}
use Rattle.std.specs.List.{AllByRecursion}
use Rattle.event.specs.declared.Key.{Key}
use Rattle.event.specs.Keys.{before}

abbrev pub first : {X : Type 0} → List X → Option X
first [] = None
first (x ∷ xs) = Some x

abbrev pub rest : {X : Type 0} → List X → List X
rest [] = []
rest (x ∷ xs) = xs

-- one more goes in where the vector is
abbrev pub has_room : {X : Type 0} → Vec X → Bool
has_room v = nat_lt (vec_len v) (vec_capacity v)

module _ {X : Type 0} (key : X → Key) where
  -- m goes in front of the first that it comes before, so behind those with its own key
  abbrev pub insert : X → List X → List X
  insert m [] = m ∷ []
  insert m (x ∷ xs) = if before (key m) (key x) then m ∷ x ∷ xs else x ∷ insert m xs

  -- each in turn
  abbrev pub insert_all : List X → List X → List X
  insert_all [] xs = xs
  insert_all (m ∷ ms) xs = insert_all ms (insert m xs)

  -- none comes before an earlier one
  abbrev pub Sorted : List X → Type 0
  Sorted [] = Unit {0}
  Sorted (x ∷ xs) = AllByRecursion (λ y. before (key y) (key x) ≡ false) xs × Sorted xs

  -- each comes before every later one: the keys strictly ascend
  abbrev pub Rising : List X → Type 0
  Rising [] = Unit {0}
  Rising (x ∷ xs) = AllByRecursion (λ y. before (key x) (key y) ≡ true) xs × Rising xs

  -- no two have one key
  abbrev pub Distinct : List X → Type 0
  Distinct [] = Unit {0}
  Distinct (x ∷ xs) = AllByRecursion (λ y. key x ≢ key y) xs × Distinct xs
