-- Entries: the i-th that a variant has, and what is appended.
use Rattle.std.proofs.Common.{◌≡◌, ℕ, zero, suc, ◌+◌, ◌<◌, true, ◌⊎◌, List, [], ◌∷◌, ◌++◌, length, map, Some, refl, subst, inl, inr, ⊎_elim, arith}
use Rattle.std.specs.List.{AllByRecursion, slice_get}
use Rattle.std.proofs.ByRecursion.{all_kept_by, kept_by_passes}
use Rattle.std.proofs.lemmas.List.Elements.{filter-append}
use Rattle.std.proofs.lemmas.Option.{none-some, slice_get_within}
use Rattle.event.specs.Lists.{first}
use Rattle.group.specs.Groups.{has}
use Rattle.calendar.specs.declared.Held.{Held}
use Rattle.calendar.specs.Calls.{waiting}
use Rattle.account.proofs.Step.{some_is}

-- what is at a place is of what holds of all
pub all_at : {X : Type 0} (P : X → Type 0) (xs : List X) (i : ℕ) (x : X) → AllByRecursion P xs → slice_get xs i ≡ Some x → P x
all_at P [] i x a h = absurd (none-some x h)
all_at P (y ∷ xs) zero x a h = subst P (some_is y x h) a.0
all_at P (y ∷ xs) (suc i) x a h = all_at P xs i x a.1 h

-- the i-th that v has is v's, and of what holds of all
pub entry_at : (P : Held → Type 0) (v i : ℕ) (xs : List Held) (e : Held) → AllByRecursion P xs → slice_get (waiting v xs) i ≡ Some e → P e × (has e.group v ≡ true)
entry_at P v i xs e a h = (
  all_at P (waiting v xs) i e (all_kept_by (λ x. has x.group v) P xs a) h,
  all_at (λ x. has x.group v ≡ true) (waiting v xs) i e (kept_by_passes (λ x. has x.group v) xs) h,
)

pub first_at : {X : Type 0} (xs : List X) → slice_get xs 0 ≡ first xs
first_at [] = refl
first_at (x ∷ xs) = refl

-- where the i-th stands: in the first list, or so much further on in the second
at_append : {X : Type 0} (i : ℕ) (xs ys : List X) (x : X) → slice_get (xs ++ ys) i ≡ Some x → (slice_get xs i ≡ Some x) ⊎ ((j : ℕ) × (i ≡ length xs + j) × (slice_get ys j ≡ Some x))
at_append i [] ys x h = inr (i, omega arith, h)
at_append zero (y ∷ xs) ys x h = inl h
at_append (suc i) (y ∷ xs) ys x h = ⊎_elim (λ l. inl l) (λ r. let e = r.1 in inr (r.0, omega arith, r.2)) (at_append i xs ys x h)

pub entry_append : (v i : ℕ) (xs ys : List Held) (e : Held) → slice_get (waiting v (xs ++ ys)) i ≡ Some e
    → ((slice_get (waiting v xs) i ≡ Some e) × (i < length (waiting v xs))) ⊎ ((j : ℕ) × (i ≡ length (waiting v xs) + j) × (slice_get (waiting v ys) j ≡ Some e))
entry_append v i xs ys e h =
    ⊎_elim (λ l. inl (l, slice_get_within (waiting v xs) i e l)) (λ r. inr r)
    (at_append i (waiting v xs) (waiting v ys) e (subst (λ (l : List Held). slice_get l i ≡ Some e) (filter-append (λ x. has x.group v) xs ys) h))

-- a place of a mapped list is a place of the list
pub from_map : {X Y : Type 0} (f : X → Y) (xs : List X) (i : ℕ) (y : Y) → slice_get (map f xs) i ≡ Some y → (x : X) × (slice_get xs i ≡ Some x) × (f x ≡ y)
from_map f [] i y h = absurd (none-some y h)
from_map f (x ∷ xs) zero y h = (x, refl, some_is (f x) y h)
from_map f (x ∷ xs) (suc i) y h = from_map f xs i y h
