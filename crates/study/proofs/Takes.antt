-- The first of a list are taken, one after the other.
use Rattle.std.proofs.Common.{◌≡◌, ℕ, zero, suc, ◌+◌, ◌<◌, ◌≤◌, List, [], ◌∷◌, ◌++◌, length, take, drop, Some, None, sym, refl, ap, ◌∙◌, add-one, ltb, arith}
use Rattle.std.specs.Prelude.{if◌then◌else◌}
use Rattle.std.specs.List.{slice_get}
use Rattle.std.proofs.lemmas.Bool.{cond-true, lt-ltb}
use Rattle.std.proofs.lemmas.Option.{none-some, same_Some}
use Rattle.std.proofs.Math.Seq.{drop-nil}
use Rattle.std.proofs.lemmas.List.{append_assoc, length-append, length-take}
use Rattle.event.specs.Lists.{first, rest}

take_next : {X : Type 0} (xs : List X) (i : ℕ) (x : X) → slice_get xs i ≡ Some x → take (suc i) xs ≡ take i xs ++ x ∷ []
take_next [] i x e = absurd (none-some x e)
take_next (y ∷ xs) zero x e = ap (λ z. z ∷ []) (same_Some y x e)
take_next (y ∷ xs) (suc i) x e = ap (λ l. y ∷ l) (take_next xs i x e)

take_more : {X : Type 0} (xs : List X) (i : ℕ) (x : X) → slice_get xs i ≡ Some x → take (i + 1) xs ≡ take i xs ++ x ∷ []
take_more xs i x e = ap (λ n. take n xs) (add-one i) ∙ take_next xs i x e

first_dropped : {X : Type 0} (xs : List X) (i : ℕ) → first (drop i xs) ≡ slice_get xs i
first_dropped [] i = ap first (drop-nil i)
first_dropped (x ∷ xs) zero = refl
first_dropped (x ∷ xs) (suc i) = first_dropped xs i

rest_dropped : {X : Type 0} (xs : List X) (i : ℕ) → rest (drop i xs) ≡ drop (suc i) xs
rest_dropped [] i = ap rest (drop-nil i)
rest_dropped (x ∷ xs) zero = refl
rest_dropped (x ∷ xs) (suc i) = rest_dropped xs i

pub rest_more : {X : Type 0} (xs : List X) (i : ℕ) → rest (drop i xs) ≡ drop (i + 1) xs
rest_more xs i = rest_dropped xs i ∙ ap (λ n. drop n xs) (sym (add-one i))

pub taken_more : {X : Type 0} (xs : List X) (i : ℕ) (x : X) → first (drop i xs) ≡ Some x → take (i + 1) xs ≡ take i xs ++ x ∷ []
taken_more xs i x e = take_more xs i x (sym (first_dropped xs i) ∙ e)

pub some_dropped : {X : Type 0} (xs : List X) (i : ℕ) → i < length xs → first (drop i xs) ≡ None → ⊥
some_dropped [] i l e = omega arith
some_dropped (x ∷ xs) zero l e = none-some x (sym e)
some_dropped (x ∷ xs) (suc i) l e = some_dropped xs i (omega arith) e

-- one more is taken, and makes an entry
pub pushed : {X : Type 0} (old xs j new : List X) (i count : ℕ) (x : X) → j ≡ old ++ take i xs → length old + count ≤ 2048 → i < count → first (drop i xs) ≡ Some x → new ≡ (if ltb (length j) 2048 then j ++ x ∷ [] else j) → new ≡ old ++ take (i + 1) xs
pushed old xs j new i count x e room l f n =
    n ∙ cond-true (ltb (length j) 2048) (j ++ x ∷ []) j (lt-ltb (length j) 2048 few) ∙ ap (λ k. k ++ x ∷ []) e ∙ append_assoc old (take i xs) (x ∷ []) ∙ ap (λ k. old ++ k) (sym (taken_more xs i x f))
  where
    few : length j < 2048
    few = let a = ap length e in let b = length-append old (take i xs) in let d = length-take i xs in omega (arith, a, b, d)
