-- Those with the first one's key: the front of its bucket.
use Rattle.std.proofs.Common.{◌≡◌, ℕ, ◌<◌, ◌/◌, ◌%◌, Bool, true, false, not, cond, List, [], ◌∷◌, length, Some, None, Option, filter, sym, refl, ap, ◌∙◌, ⊎_elim, arith}
use Rattle.std.specs.List.{slice_get}
use Rattle.std.specs.Option.{option_map}
use Rattle.std.specs.Bool.{then_some}
use Rattle.std.proofs.lemmas.Option.{slice_get-get_or}
use Rattle.std.proofs.ByRecursion.{all_kept_by}
use Rattle.std.proofs.lemmas.Bool.{cases_Bool, both_ways, eq-eqb}
use Rattle.event.specs.Keys.{before, same}
use Rattle.event.proofs.Orders.{same_true}
use Rattle.event.specs.Lists.{first as head, rest}
use Rattle.calendar.specs.Calls.{leading}
use Rattle.slot.specs.Rank.{ranked}
use Rattle.slot.specs.declared.Slot.{Slot}
use Rattle.slot.specs.Slots.{key_of_slot, earlier, bare, in_order}
use Rattle.slot.proofs.Picks.{first_rest}
use Rattle.slot.specs.Passes.{likewise}
use Rattle.slot.proofs.Looks.{alike_front, none_sooner}
use Rattle.slot.proofs.Holds.{looks}
use Rattle.bucket_calendar.specs.Buckets.{bucket_of, of_bucket, row_of}
use Rattle.bucket_calendar.specs.Chains.{at, blank, slot_at, Linked}
use Rattle.bucket_calendar.proofs.Links.{row_rising}
use Rattle.bucket_calendar.proofs.Firsts.{slots_get}

-- a choice among those that pass another test, where that follows
kept_within : (p q : Slot → Bool) → ((x : Slot) → p x ≡ true → q x ≡ true) → (l : List Slot) → filter p (filter q l) ≡ filter p l
kept_within p q h [] = refl
kept_within p q h (x ∷ l) = ⊎_elim
    (λ (e : q x ≡ true). simp e (ap (λ t. cond (p x) (x ∷ t) t) (kept_within p q h l)))
    (λ (e : q x ≡ false). simp e (kept_within p q h l ∙ sym (ap (λ b. cond b (x ∷ filter p l) (filter p l)) (none x e)))) (cases_Bool (q x))
  where
    none : (x : Slot) → q x ≡ false → p x ≡ false
    none x e = ⊎_elim (λ (t : p x ≡ true). absurd (both_ways (q x) e (h x t))) (λ t. t) (cases_Bool (p x))

-- number i of the first one's bucket, if it has its key, is number i of those with that key
pub look_near : (xs : List Slot) (x : Slot) (i : ℕ) → head (ranked earlier xs) ≡ Some x → option_map bare (likewise (key_of_slot x) (slice_get (row_of (bucket_of x) xs) i)) ≡ slice_get (leading (in_order xs)) i
look_near xs x i e =
    let k = key_of_slot x in
    let f = first_rest (ranked earlier xs) x (sym e) in
    let g = none_sooner xs x (rest (ranked earlier xs)) f in
    ap (option_map bare) (alike_front k (row_of (bucket_of x) xs) i (row_rising (bucket_of x) xs) (all_kept_by (of_bucket (bucket_of x)) (λ z. before (key_of_slot z) k ≡ false) (ranked earlier xs) g)
    ∙ ap (λ l. slice_get l i) (kept_within (λ z. same k (key_of_slot z)) (of_bucket (bucket_of x)) (λ z h. eq-eqb (bucket_of z) (bucket_of x) (ap (λ u. u.time / 64 % 64) (sym (same_true k (key_of_slot z) h)))) (ranked earlier xs)))
    ∙ looks xs x (rest (ranked earlier xs)) i f

-- where a walk along the first one's bucket stands is number i of those with its key, if it has that
pub near_at : (heads next : List (Option ℕ)) (xs : List Slot) (d : Linked heads next xs) (x : Slot) (i : ℕ) (here : Option ℕ) → head (ranked earlier xs) ≡ Some x → here ≡ slice_get (d.row (bucket_of x)) i
    → option_map bare (likewise (key_of_slot x) (slot_at xs here)) ≡ slice_get (leading (in_order xs)) i
near_at heads next xs d x i here e h =
    let b = bucket_of x in
    let l : b < 64 = omega arith in
    ap (λ o. option_map bare (likewise (key_of_slot x) o)) (ap (slot_at xs) h ∙ slots_get xs (d.row b) i (d.within b l) ∙ ap (λ r. slice_get r i) (d.listed b l)) ∙ look_near xs x i e

-- its end, another key, or the same key
pub near_none : (heads next : List (Option ℕ)) (xs : List Slot) (d : Linked heads next xs) (x : Slot) (i : ℕ) (here : Option ℕ) → head (ranked earlier xs) ≡ Some x → here ≡ slice_get (d.row (bucket_of x)) i
    → here ≡ None → slice_get (leading (in_order xs)) i ≡ None
near_none heads next xs d x i here e h n = sym (near_at heads next xs d x i here e h) ∙ ap (λ o. option_map bare (likewise (key_of_slot x) (slot_at xs o))) n

pub near_some : (heads next : List (Option ℕ)) (xs : List Slot) (d : Linked heads next xs) (x : Slot) (i : ℕ) (here : Option ℕ) (p : ℕ) (b : Bool) → head (ranked earlier xs) ≡ Some x → here ≡ slice_get (d.row (bucket_of x)) i
    → here ≡ Some p → p < length xs → b ≡ same (key_of_slot x) (key_of_slot (at xs p)) → slice_get (leading (in_order xs)) i ≡ option_map bare (then_some b (at xs p))
near_some heads next xs d x i here p b e h n l t =
    sym (near_at heads next xs d x i here e h) ∙ ap (λ o. option_map bare (likewise (key_of_slot x) o)) (ap (slot_at xs) n ∙ slice_get-get_or xs p blank l) ∙ ap (λ c. option_map bare (then_some c (at xs p))) (sym t)

pub not_so : (b c : Bool) → c ≡ not b → b ≡ not c
not_so true c e = sym (ap not e)
not_so false c e = sym (ap not e)
