-- What an array of slots holds, in order, and what a put, a change and a choice make of it.
use Rattle.std.proofs.Common.{◌≡◌, ℕ, zero, suc, ◌<◌, Bool, true, false, cond, ◌⊎◌, List, [], ◌∷◌, ◌++◌, length, get_or, take, filter, sym, refl, ap, ◌∙◌, inl, inr, arith}
use Rattle.std.specs.List.{AllByRecursion}
use Rattle.std.specs.List.Sorted.{IsPermutation}
use Rattle.std.specs.Option.{option_map}
use Rattle.std.proofs.lemmas.Bool.{cases_Bool, cond_both}
use Rattle.std.proofs.ByRecursion.{All-weaker, all_from_every}
use Rattle.calendar.specs.declared.Held.{Held}
use Rattle.event.specs.Lists.{insert, Sorted}
use Rattle.event.specs.Keys.{before, same}
use Rattle.std.specs.List.{slice_get}
use Rattle.calendar.specs.Calls.{key_of_held, leading}
use Rattle.slot.specs.Rank.{ins, ranked, Rising}
use Rattle.slot.proofs.Ranks.{ranked_shuffled, all_ins, all_ranked, ranked_rising, length_ranked}
use Rattle.slot.specs.declared.Slot.{Slot}
use Rattle.slot.specs.Slots.{key_of_slot, earlier, ahead, steady, bare, bares, in_order, Young}
use Rattle.slot.specs.Laws.{strictly, ahead_earlier, younger, behind, before_ahead, not_before}
use Rattle.slot.proofs.Picks.{Climbs}
use Rattle.slot.proofs.Nths.{climbs_from, steady_from}

-- a put goes behind those with its key, being the youngest
bares_ins : (x : Slot) (l : List Slot) → AllByRecursion (λ y. y.age < x.age) l → bares (ins earlier x l) ≡ insert key_of_held (bare x) (bares l)
bares_ins x [] h = refl
bares_ins x (y ∷ l) h = go (cases_Bool (earlier x y)) (bares_ins x l h.1)
  where
    go : (earlier x y ≡ true) ⊎ (earlier x y ≡ false) → bares (ins earlier x l) ≡ insert key_of_held (bare x) (bares l) → bares (ins earlier x (y ∷ l)) ≡ insert key_of_held (bare x) (bares (y ∷ l))
    go (inl e) ih =
        ap (λ b. bares (cond b (x ∷ y ∷ l) (y ∷ ins earlier x l))) e
        ∙ sym (ap (λ b. cond b (bare x ∷ bare y ∷ bares l) (bare y ∷ insert key_of_held (bare x) (bares l))) (sym (younger x y h.0) ∙ e))
    go (inr e) ih =
        ap (λ b. bares (cond b (x ∷ y ∷ l) (y ∷ ins earlier x l))) e ∙ ap (λ t. bare y ∷ t) ih
        ∙ sym (ap (λ b. cond b (bare x ∷ bare y ∷ bares l) (bare y ∷ insert key_of_held (bare x) (bares l))) (sym (younger x y h.0) ∙ e))

pub pushed : (xs : List Slot) (x : Slot) (ys : List Slot) → IsPermutation (x ∷ xs) ys → Young x.age xs → in_order ys ≡ insert key_of_held (bare x) (in_order xs)
pushed xs x ys s h =
    ap bares (ranked_shuffled earlier strictly (x ∷ xs) ys s)
    ∙ bares_ins x (ranked earlier xs) (all_ranked earlier strictly (λ y. y.age < x.age) xs (all_from_every (λ y. y.age < x.age) xs h))

-- a put keeps the ages apart
by_age : (x y : Slot) → y.age < x.age → earlier x y ≡ true → ahead x y ≡ true
by_age x y h e = before_ahead x y (sym (younger x y h) ∙ e)

climbs_all : (x y : Slot) (l : List Slot) → earlier x y ≡ true → AllByRecursion (λ z. z.age < x.age) l → AllByRecursion (λ z. ahead y z ≡ true) l → AllByRecursion (λ z. ahead x z ≡ true) l
climbs_all x y [] e h k = tt
climbs_all x y (z ∷ l) e h k = (by_age x z h.0 (strictly.chain x y z e (ahead_earlier y z k.0)), climbs_all x y l e h.1 k.1)

climbs_ins : (x : Slot) (l : List Slot) → AllByRecursion (λ y. y.age < x.age) l → Climbs ahead l → Climbs ahead (ins earlier x l)
climbs_ins x [] h k = (tt, tt)
climbs_ins x (y ∷ l) h k =
    cond_both (earlier x y) (x ∷ y ∷ l) (y ∷ ins earlier x l) (Climbs ahead)
    (λ e. ((by_age x y h.0 e, climbs_all x y l e h.1 k.0), k))
    (λ e. (all_ins earlier strictly (λ z. ahead y z ≡ true) x l (behind x y h.0 e) k.0, climbs_ins x l h.1 k.1))

pub steady_push : (xs : List Slot) (x : Slot) (ys : List Slot) → IsPermutation (x ∷ xs) ys → Young x.age xs → steady (ranked earlier xs) ≡ true → steady (ranked earlier ys) ≡ true
steady_push xs x ys s h k =
    ap steady (ranked_shuffled earlier strictly (x ∷ xs) ys s)
    ∙ steady_from (ins earlier x (ranked earlier xs)) (climbs_ins x (ranked earlier xs) (all_ranked earlier strictly (λ y. y.age < x.age) xs (all_from_every (λ y. y.age < x.age) xs h)) (climbs_from (ranked earlier xs) k))

pub steady_tail : (x : Slot) (l : List Slot) → steady (x ∷ l) ≡ true → steady l ≡ true
steady_tail x l h = steady_from l (climbs_from (x ∷ l) h).1

-- lengths
pub length_bares : (l : List Slot) → length (bares l) ≡ length l
length_bares [] = refl
length_bares (x ∷ l) = ap suc (length_bares l)

pub length_in_order : (l : List Slot) → length (in_order l) ≡ length l
length_in_order l = length_bares (ranked earlier l) ∙ length_ranked earlier strictly l

all_bares : (P : Held → Type 0) (l : List Slot) → AllByRecursion (λ x. P (bare x)) l → AllByRecursion P (bares l)
all_bares P [] h = tt
all_bares P (x ∷ l) h = (h.0, all_bares P l h.1)

bares_sorted : (l : List Slot) → Rising earlier l → Sorted key_of_held (bares l)
bares_sorted [] h = tt
bares_sorted (x ∷ l) h =
    (all_bares (λ y. before (key_of_held y) (key_of_slot x) ≡ false) l (All-weaker (λ y. earlier y x ≡ false) (λ y. before (key_of_slot y) (key_of_slot x) ≡ false) (λ y k. not_before y x k) l h.0), bares_sorted l h.1)

pub in_order_sorted : (l : List Slot) → Sorted key_of_held (in_order l)
in_order_sorted l = bares_sorted (ranked earlier l) (ranked_rising earlier strictly l)

-- choices, of slots and of what they hold
at_bares : (l : List Slot) (i : ℕ) → option_map bare (slice_get l i) ≡ slice_get (bares l) i
at_bares [] i = refl
at_bares (x ∷ l) zero = refl
at_bares (x ∷ l) (suc i) = at_bares l i

bares_kept : (p : Slot → Bool) (q : Held → Bool) → ((x : Slot) → p x ≡ q (bare x)) → (l : List Slot) → bares (filter p l) ≡ filter q (bares l)
bares_kept p q h [] = refl
bares_kept p q h (x ∷ l) =
    cond_both (p x) (x ∷ filter p l) (filter p l) (λ t. bares t ≡ filter q (bares (x ∷ l)))
    (λ e. ap (λ t. bare x ∷ t) (bares_kept p q h l) ∙ sym (ap (λ b. cond b (bare x ∷ filter q (bares l)) (filter q (bares l))) (sym (h x) ∙ e)))
    (λ e. bares_kept p q h l ∙ sym (ap (λ b. cond b (bare x ∷ filter q (bares l)) (filter q (bares l))) (sym (h x) ∙ e)))

-- number i of those that p means, where q says the same of what they hold
pub picks : (p : Slot → Bool) (q : Held → Bool) → ((x : Slot) → p x ≡ q (bare x)) → (xs : List Slot) (i : ℕ) → option_map bare (slice_get (filter p (ranked earlier xs)) i) ≡ slice_get (filter q (in_order xs)) i
picks p q h xs i = at_bares (filter p (ranked earlier xs)) i ∙ ap (λ l. slice_get l i) (bares_kept p q h (ranked earlier xs))

-- number i of those with the smallest key, which is that of the first
pub looks : (xs : List Slot) (x : Slot) (l : List Slot) (i : ℕ) → ranked earlier xs ≡ x ∷ l → option_map bare (slice_get (filter (λ s. same (key_of_slot x) (key_of_slot s)) (ranked earlier xs)) i) ≡ slice_get (leading (in_order xs)) i
looks xs x l i e =
    picks (λ s. same (key_of_slot x) (key_of_slot s)) (λ y. same (key_of_slot x) (key_of_held y)) (λ s. refl) xs i
    ∙ ap (λ r. slice_get (filter (λ y. same (key_of_slot x) (key_of_held y)) (bares r)) i) e ∙ sym (ap (λ r. slice_get (leading (bares r)) i) e)

-- one after another, in order
pub insert_last : (h : Held) (l : List Held) → AllByRecursion (λ y. before (key_of_held h) (key_of_held y) ≡ false) l → insert key_of_held h l ≡ l ++ h ∷ []
insert_last h [] k = refl
insert_last h (y ∷ l) k = ap (λ b. cond b (h ∷ y ∷ l) (y ∷ insert key_of_held h l)) k.0 ∙ ap (λ t. y ∷ t) (insert_last h l k.1)

sorted_first : (x : Held) (l : List Held) (i : ℕ) (d : Held) → i < length l → AllByRecursion (λ y. before (key_of_held y) (key_of_held x) ≡ false) l → before (key_of_held (get_or l i d)) (key_of_held x) ≡ false
sorted_first x [] i d h k = absurd (let z : ⊥ = omega arith in z)
sorted_first x (y ∷ l) zero d h k = k.0
sorted_first x (y ∷ l) (suc i) d h k = sorted_first x l i d (let m : i < length l = omega arith in m) k.1

pub sorted_front : (l : List Held) (i : ℕ) (d : Held) → i < length l → Sorted key_of_held l → AllByRecursion (λ y. before (key_of_held (get_or l i d)) (key_of_held y) ≡ false) (take i l)
sorted_front [] i d h s = absurd (let z : ⊥ = omega arith in z)
sorted_front (x ∷ l) zero d h s = tt
sorted_front (x ∷ l) (suc i) d h s = (sorted_first x l i d (let m : i < length l = omega arith in m) s.0, sorted_front l i d (let m : i < length l = omega arith in m) s.1)
