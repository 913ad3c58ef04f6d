-- A slot put at the end of the pool, and the first taken out of it.
use Rattle.std.proofs.Common.{◌≡◌, ℕ, ◌+◌, ◌<◌, ◌≤◌, true, false, List, [], ◌∷◌, ◌++◌, length, map, filter, take, get_or, Some, None, Option, cond, sym, refl, ap, ◌∙◌, subst, ⊎_elim, arith}
use Rattle.std.specs.List.{AllByRecursion, swap_remove}
use Rattle.std.specs.List.Sorted.{IsPermutation}
use Rattle.std.proofs.ByRecursion.{All-weaker, all_shuffled, every_from_all, all_from_every}
use Rattle.std.proofs.lemmas.List.{get_or_default, take_all}
use Rattle.std.proofs.lemmas.Option.{none-some, same_Some}
use Rattle.std.proofs.lemmas.List.Sorted.{IsPermutation-sym, IsPermutation-to_front, IsPermutation-swap_remove}
use Rattle.std.proofs.lemmas.Bool.{cases_Bool}
use Rattle.event.specs.Lists.{insert, rest, first as head}
use Rattle.calendar.specs.Calls.{key_of_held}
use Rattle.slot.specs.Rank.{ins, ranked, Rising}
use Rattle.slot.proofs.Picks.{first_rest, never_self}
use Rattle.slot.proofs.Ranks.{ranked_shuffled, ins_front, all_ranked, ranked_rising}
use Rattle.slot.specs.declared.Slot.{Slot}
use Rattle.slot.specs.Slots.{earlier, steady, bare, in_order, Young}
use Rattle.slot.specs.Laws.{strictly}
use Rattle.slot.proofs.Holds.{pushed, steady_push, steady_tail}
use Rattle.bucket_calendar.specs.Buckets.{bucket_of, of_bucket}
use Rattle.bucket_calendar.specs.Chains.{Runs, at, blank, Linked, Sound}
use Rattle.bucket_calendar.proofs.Links.{own_bucket}

to_end : (xs : List Slot) (x : Slot) → IsPermutation (x ∷ xs) (xs ++ x ∷ [])
to_end xs x = IsPermutation-sym (xs ++ x ∷ []) (x ∷ xs) (IsPermutation-to_front xs x)

pub held_push : (xs : List Slot) (x : Slot) → Young x.age xs → in_order (xs ++ x ∷ []) ≡ insert key_of_held (bare x) (in_order xs)
held_push xs x y = pushed xs x (xs ++ x ∷ []) (to_end xs x) y

pub sound_push : (o q : Option Slot) (hs nx hs' nx' : List (Option ℕ)) (xs : List Slot) (x : Slot) → Sound x.age o hs nx xs → Linked hs' nx' (xs ++ x ∷ []) → q ≡ head (ranked earlier (xs ++ x ∷ [])) → Sound (x.age + 1) q hs' nx' (xs ++ x ∷ [])
sound_push o q hs nx hs' nx' xs x s d k = record {
  young = every_from_all (λ y. y.age < x.age + 1) (xs ++ x ∷ []) (all_shuffled (λ y. y.age < x.age + 1) (x ∷ xs) (xs ++ x ∷ []) (to_end xs x)
      ((let b : x.age < x.age + 1 = omega arith in b), All-weaker (λ y. y.age < x.age) (λ y. y.age < x.age + 1) (λ y k. omega arith) xs (all_from_every (λ y. y.age < x.age) xs s.young)));
  apart = steady_push xs x (xs ++ x ∷ []) (to_end xs x) s.young s.apart;
  known = k;
  linked = d;
}

-- what comes before no other, taken out, leaves the rest
ranked_out : (xs ys : List Slot) (x : Slot) → IsPermutation xs (x ∷ ys) → AllByRecursion (λ y. earlier y x ≡ false) xs → ranked earlier xs ≡ x ∷ ranked earlier ys
ranked_out xs ys x s g =
    let all = all_shuffled (λ y. earlier y x ≡ false) xs (x ∷ ys) s g in
    sym (ranked_shuffled earlier strictly xs (x ∷ ys) s) ∙ ins_front earlier strictly x (ranked earlier ys) (all_ranked earlier strictly (λ y. earlier y x ≡ false) ys all.1)

pub sound_none : (n : ℕ) (hs nx : List (Option ℕ)) (xs : List Slot) → xs ≡ [] → Linked hs nx [] → Sound n None hs nx xs
unfolding steady
sound_none n hs nx xs e d = subst (Sound n None hs nx) (sym e) (record { young = λ k d a b. absurd (let z : ⊥ = omega arith in z); apart = refl; known = refl; linked = d })

-- what is so of each of a ranked list is so of each
all_from_ins : (P : Slot → Type 0) (x : Slot) (l : List Slot) → AllByRecursion P (ins earlier x l) → P x × AllByRecursion P l
all_from_ins P x [] h = (h.0, tt)
all_from_ins P x (y ∷ l) h = ⊎_elim
    (λ (e : earlier x y ≡ true). subst (λ b. AllByRecursion P (cond b (x ∷ y ∷ l) (y ∷ ins earlier x l))) e h)
    (λ (e : earlier x y ≡ false).
    let k : AllByRecursion P (y ∷ ins earlier x l) = subst (λ b. AllByRecursion P (cond b (x ∷ y ∷ l) (y ∷ ins earlier x l))) e h in
    let r = all_from_ins P x l k.1 in
    (r.0, (k.0, r.1))) (cases_Bool (earlier x y))

all_from_ranked : (P : Slot → Type 0) (l : List Slot) → AllByRecursion P (ranked earlier l) → AllByRecursion P l
all_from_ranked P [] h = tt
all_from_ranked P (x ∷ l) h = let r = all_from_ins P x (ranked earlier l) h in (r.0, all_from_ranked P l r.1)

-- the first comes before no other
least : (xs : List Slot) (x : Slot) → head (ranked earlier xs) ≡ Some x → AllByRecursion (λ y. earlier y x ≡ false) xs
least xs x e =
    let f = first_rest (ranked earlier xs) x (sym e) in
    all_from_ranked (λ y. earlier y x ≡ false) xs (subst (AllByRecursion (λ y. earlier y x ≡ false)) (sym f) (never_self earlier strictly x, (subst (Rising earlier) f (ranked_rising earlier strictly xs)).0))

-- the chain of the first one's bucket begins with its place
pub first_place : (hs nx : List (Option ℕ)) (xs : List Slot) (x : Slot) → head (ranked earlier xs) ≡ Some x → Linked hs nx xs → (p : ℕ) × (get_or hs (bucket_of x) None ≡ Some p) × (p < length xs) × (at xs p ≡ x)
first_place hs nx xs x e d = go (get_or hs (bucket_of x) None) (d.row (bucket_of x)) (d.runs (bucket_of x) (omega arith)) (d.within (bucket_of x) (omega arith))
    (ap head (d.listed (bucket_of x) (omega arith)) ∙ ap (λ l. head (filter (of_bucket (bucket_of x)) l)) (first_rest (ranked earlier xs) x (sym e)) ∙ ap (λ t. head (cond t (x ∷ filter (of_bucket (bucket_of x)) (rest (ranked earlier xs))) (filter (of_bucket (bucket_of x)) (rest (ranked earlier xs))))) (own_bucket x))
  where
    go : (o : Option ℕ) (ps : List ℕ) → Runs nx o ps → AllByRecursion (λ p. p < length xs) ps → head (map (at xs) ps) ≡ Some x → (p : ℕ) × (o ≡ Some p) × (p < length xs) × (at xs p ≡ x)
    go o [] h a f = absurd (none-some x f)
    go o (p ∷ ps) h a f = (p, h.0, a.0, same_Some (at xs p) x f)

-- where its bucket's chain begins at p, it is there
pub first_at : (hs nx : List (Option ℕ)) (xs : List Slot) (x : Slot) (b p : ℕ) → Some x ≡ head (ranked earlier xs) → b ≡ bucket_of x → get_or hs b None ≡ Some p → Linked hs nx xs → (p < length xs) × (at xs p ≡ x)
first_at hs nx xs x b p e f g d =
    let t = first_place hs nx xs x (sym e) d in
    let z : t.0 ≡ p = same_Some t.0 p (sym t.1 ∙ ap (λ k. get_or hs k None) (sym f) ∙ g) in
    (subst (λ k. k < length xs) z t.2, subst (λ k. at xs k ≡ x) z t.3)

pub first_somewhere : (hs nx : List (Option ℕ)) (xs : List Slot) (x : Slot) (b : ℕ) → Some x ≡ head (ranked earlier xs) → b ≡ bucket_of x → get_or hs b None ≡ None → Linked hs nx xs → ⊥
first_somewhere hs nx xs x b e f g d = let t = first_place hs nx xs x (sym e) d in none-some t.0 (sym g ∙ ap (λ k. get_or hs k None) f ∙ t.1)

-- all slots are linked
pub linked_all : (hs nx : List (Option ℕ)) (n : ℕ) (xs : List Slot) → length xs ≤ n → Linked hs nx (take n xs) → Linked hs nx xs
linked_all hs nx n xs h d = subst (Linked hs nx) (take_all n xs h) d

-- what is taken out of the pool there
pub taken : (xs ys : List Slot) (p : ℕ) (s : Slot) → head (ranked earlier xs) ≡ Some (at xs p) → p < length xs → s ≡ get_or xs p s → ys ≡ swap_remove xs p s → ranked earlier xs ≡ at xs p ∷ ranked earlier ys
taken xs ys p s e h a c =
    let same : s ≡ at xs p = a ∙ get_or_default xs p s blank h in
    let q : IsPermutation xs (at xs p ∷ ys) = subst (λ t. IsPermutation xs (t ∷ ys)) same (subst (λ t. IsPermutation xs (s ∷ t)) (sym c) (IsPermutation-swap_remove xs p s h a)) in
    ranked_out xs ys (at xs p) q (least xs (at xs p) e)

pub sound_rest : (n : ℕ) (o q : Option Slot) (hs nx hs' nx' : List (Option ℕ)) (xs ys : List Slot) (x : Slot) → ranked earlier xs ≡ x ∷ ranked earlier ys → Sound n o hs nx xs → Linked hs' nx' ys → (Linked hs' nx' ys → q ≡ head (ranked earlier ys)) → Sound n q hs' nx' ys
sound_rest n o q hs nx hs' nx' xs ys x e s d k = record {
  young = every_from_all (λ y. y.age < n) ys (all_from_ranked (λ y. y.age < n) ys
      (subst (AllByRecursion (λ y. y.age < n)) e (all_ranked earlier strictly (λ y. y.age < n) xs (all_from_every (λ y. y.age < n) xs s.young))).1);
  apart = steady_tail x (ranked earlier ys) (ap steady (sym e) ∙ s.apart);
  known = k d;
  linked = d;
}
