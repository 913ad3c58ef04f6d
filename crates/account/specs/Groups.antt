-- Counting by leaders.
use Rattle.std.specs.Prelude.{◌≡◌, ℕ, ◌+◌, Bool, true, if◌then◌else◌, not, ◌&&◌, List, [], ◌∷◌, length}
use Rattle.std.specs.List.{AllByRecursion}
use Rattle.event.specs.declared.Key.{Key}
use Rattle.event.specs.Keys.{key_of}
use Rattle.account.specs.Finds.{find, some}
use Rattle.model.specs.Meaning.{Meaning}
use Rattle.account.specs.Account.{Account, ind, any_below, sum_below, runs, leads_run}

abbrev pub count : {X : Type 0} → (X → Bool) → List X → ℕ
count p [] = 0
count p (x ∷ xs) = ind (p x) + count p xs

-- v is of them, and none smaller is like it
abbrev pub leads : (ℕ → Bool) → (ℕ → ℕ → Bool) → ℕ → Bool
leads among alike v = among v && not (any_below (λ w. among w && alike v w) v)

-- the groups of those below n, by likeness: none empty, each one in just one, and with all that are like it
pub record Groups (n : ℕ) (among : ℕ → Bool) (alike : ℕ → ℕ → Bool) (gs : List (ℕ → Bool)) : Type 0 where
  pub filled : AllByRecursion (λ g. any_below g n ≡ true) gs
  pub once : (v : ℕ) → count (λ g. g v) gs ≡ ind (among v)
  pub whole : AllByRecursion (λ g. (v w : ℕ) → g v ≡ true → g w ≡ (among w && alike v w)) gs

-- there are as many groups as leaders
abbrev pub LeadersCount : Type 0
LeadersCount = (n : ℕ) (among : ℕ → Bool) (alike : ℕ → ℕ → Bool) (gs : List (ℕ → Bool)) → Groups n among alike gs → length gs ≡ sum_below (λ v. ind (leads among alike v)) n

-- the groups of all places
abbrev pub copies : Meaning → Account → ℕ
copies M A = sum_below (λ p. sum_below (λ v. ind (leads A.live (λ x y. not (A.reached x y p)) v)) 16) M.places

-- a message is held once for those among which it is unmarked
abbrev pub held_by : Account → ℕ → ℕ
held_by A v = count (λ m. not (any_below (λ w. A.live w && (some (find (key_of m) (A.day w).waiting) && not (A.marked v w (key_of m)))) v)) (A.day v).waiting

abbrev pub held : Account → ℕ
held A = sum_below (λ v. if A.live v then held_by A v else 0) 16

-- the messages that a step takes
abbrev pub taken : Account → Key → ℕ
taken A k = sum_below (λ v. ind (leads (runs A k) (λ x y. not (A.marked x y k)) v)) 16

-- its executions
abbrev pub worked : Account → Key → ℕ
worked A k = sum_below (λ v. ind (leads_run A k v)) 16

-- the entries that stand in a live variant's journal
abbrev pub entries : Account → ℕ
entries A = sum_below (λ v. if A.live v then sum_below (λ i. ind (not (any_below (λ w. A.live w && A.joint v w i) v))) (length (A.day v).journal) else 0) 16
