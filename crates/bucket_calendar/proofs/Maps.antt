-- Messages changed in place, keeping their keys, and messages dropped.
use Rattle.std.proofs.Common.{◌≡◌, ℕ, zero, suc, ◌<◌, ◌/◌, ◌%◌, Bool, true, false, cond, eqb, List, [], ◌∷◌, length, map, filter, sym, refl, ap, ◌∙◌, subst, ⊎_elim, arith}
use Rattle.std.proofs.lemmas.List.{length-map}
use Rattle.std.specs.List.{AllByRecursion}
use Rattle.std.proofs.ByRecursion.{All-weaker, All-map, all_kept_by, every_from_all, all_from_every}
use Rattle.std.proofs.lemmas.Bool.{cases_Bool, cond_both}
use Rattle.calendar.specs.declared.Held.{Held}
use Rattle.calendar.specs.Calls.{key_of_held, wanted}
use Rattle.slot.specs.Rank.{ins, ranked}
use Rattle.slot.proofs.Ranks.{ins_comm}
use Rattle.slot.specs.declared.Slot.{Slot}
use Rattle.std.specs.Prelude.{nat_lt, Option}
use Rattle.event.specs.Lists.{first}
use Rattle.bucket_calendar.specs.Buckets.{bucket_of, of_bucket}
use Rattle.bucket_calendar.specs.Chains.{at, Among, Linked, Sound}
use Rattle.slot.specs.Slots.{by_key, key_of_slot, earlier, ahead, steady, bares, in_order, Young}
use Rattle.slot.specs.Laws.{strictly}
use Rattle.slot.proofs.Picks.{Climbs, climbs_kept, ins_first, kept_ranked}
use Rattle.slot.proofs.Nths.{climbs_from, steady_from, climbs_earlier}
use Rattle.bucket_calendar.specs.Changes.{changed}

-- what `retain` keeps
abbrev pub lasts : Slot → Bool
lasts s = wanted s.held

-- a map before or after ranking
rank_ins : (f : Slot → Slot) (x : Slot) (l : List Slot) → ranked earlier (map f (ins earlier x l)) ≡ ins earlier (f x) (ranked earlier (map f l))
rank_ins f x [] = refl
rank_ins f x (y ∷ l) = cond_both (earlier x y) (x ∷ y ∷ l) (y ∷ ins earlier x l) (λ t. ranked earlier (map f t) ≡ ins earlier (f x) (ranked earlier (map f (y ∷ l))))
    (λ _. refl) (λ _. ap (ins earlier (f y)) (rank_ins f x l) ∙ ins_comm earlier strictly (f y) (f x) (ranked earlier (map f l)))

rank_map : (f : Slot → Slot) (xs : List Slot) → ranked earlier (map f (ranked earlier xs)) ≡ ranked earlier (map f xs)
rank_map f [] = refl
rank_map f (x ∷ xs) = rank_ins f x (ranked earlier xs) ∙ ap (ins earlier (f x)) (rank_map f xs)

ranked_climbing : (l : List Slot) → Climbs earlier l → ranked earlier l ≡ l
ranked_climbing [] h = refl
ranked_climbing (x ∷ l) h = ap (ins earlier x) (ranked_climbing l h.1) ∙ ins_first earlier strictly x l h.0

bares_changed : (g : Held → Held) (l : List Slot) → bares (map (changed g) l) ≡ map g (bares l)
bares_changed g [] = refl
bares_changed g (x ∷ l) = ap (λ t. g x.held ∷ t) (bares_changed g l)

module _ (g : Held → Held) (e : (x : Held) → key_of_held (g x) ≡ key_of_held x) where
  -- key and age stay, so the order does
  still_ahead : (x y : Slot) → ahead x y ≡ true → ahead (changed g x) (changed g y) ≡ true
  unfolding ahead
  still_ahead x y h = ap (λ k. by_key k (key_of_held (g y.held)) (nat_lt x.age y.age)) (e x.held) ∙ ap (λ k. by_key (key_of_slot x) k (nat_lt x.age y.age)) (e y.held) ∙ h

  climbs_changed : (l : List Slot) → Climbs ahead l → Climbs ahead (map (changed g) l)
  climbs_changed [] h = tt
  climbs_changed (x ∷ l) h = (
    All-map (λ y. ahead (changed g x) y ≡ true) (changed g) l (All-weaker (λ y. ahead x y ≡ true) (λ y. ahead (changed g x) (changed g y) ≡ true) (λ y k. still_ahead x y k) l h.0),
    climbs_changed l h.1,
  )

  module _ (xs : List Slot) (s : steady (ranked earlier xs) ≡ true) where
    climbing : Climbs ahead (map (changed g) (ranked earlier xs))
    climbing = climbs_changed (ranked earlier xs) (climbs_from (ranked earlier xs) s)

    ranked_changed : ranked earlier (map (changed g) xs) ≡ map (changed g) (ranked earlier xs)
    ranked_changed = sym (rank_map (changed g) xs) ∙ ranked_climbing (map (changed g) (ranked earlier xs)) (climbs_earlier (map (changed g) (ranked earlier xs)) climbing)

    pub steady_changed : steady (ranked earlier (map (changed g) xs)) ≡ true
    steady_changed = ap steady ranked_changed ∙ steady_from (map (changed g) (ranked earlier xs)) climbing

    pub held_changed : in_order (map (changed g) xs) ≡ map g (in_order xs)
    held_changed = ap bares ranked_changed ∙ bares_changed g (ranked earlier xs)

pub young_changed : (g : Held → Held) (n : ℕ) (xs : List Slot) → Young n xs → Young n (map (changed g) xs)
young_changed g n xs y = every_from_all (λ x. x.age < n) (map (changed g) xs) (All-map (λ x. x.age < n) (changed g) xs (all_from_every (λ x. x.age < n) xs y))

-- what is dropped leaves the others in order
bares_lasting : (l : List Slot) → bares (filter lasts l) ≡ filter wanted (bares l)
bares_lasting [] = refl
bares_lasting (x ∷ l) = ⊎_elim
    (λ (h : wanted x.held ≡ true). simp h (ap (λ t. x.held ∷ t) (bares_lasting l)))
    (λ (h : wanted x.held ≡ false). simp h (bares_lasting l)) (cases_Bool (wanted x.held))

pub held_kept : (xs : List Slot) → in_order (filter lasts xs) ≡ filter wanted (in_order xs)
held_kept xs = ap bares (sym (kept_ranked earlier strictly lasts xs)) ∙ bares_lasting (ranked earlier xs)

pub steady_kept : (xs : List Slot) → steady (ranked earlier xs) ≡ true → steady (ranked earlier (filter lasts xs)) ≡ true
steady_kept xs s = ap steady (sym (kept_ranked earlier strictly lasts xs)) ∙ steady_from (filter lasts (ranked earlier xs)) (climbs_kept ahead lasts (ranked earlier xs) (climbs_from (ranked earlier xs) s))

pub young_kept : (n : ℕ) (xs : List Slot) → Young n xs → Young n (filter lasts xs)
young_kept n xs y = every_from_all (λ x. x.age < n) (filter lasts xs) (all_kept_by lasts (λ x. x.age < n) xs (all_from_every (λ x. x.age < n) xs y))

-- a pool that is changed stays linked
kept_changed : (g : Held → Held) → ((x : Held) → key_of_held (g x) ≡ key_of_held x) → (b : ℕ) (l : List Slot) → map (changed g) (filter (of_bucket b) l) ≡ filter (of_bucket b) (map (changed g) l)
kept_changed g e b [] = refl
kept_changed g e b (x ∷ l) =
    ap (λ t. map (changed g) (cond t (x ∷ filter (of_bucket b) l) (filter (of_bucket b) l))) (ap (λ k. eqb (k.time / 64 % 64) b) (sym (e x.held)))
    ∙ cond_both (of_bucket b (changed g x)) (x ∷ filter (of_bucket b) l) (filter (of_bucket b) l) (λ t. map (changed g) t ≡ filter (of_bucket b) (map (changed g) (x ∷ l)))
    (λ h. ap (λ t. changed g x ∷ t) (kept_changed g e b l) ∙ sym (ap (λ t. cond t (changed g x ∷ filter (of_bucket b) (map (changed g) l)) (filter (of_bucket b) (map (changed g) l))) h))
    (λ h. kept_changed g e b l ∙ sym (ap (λ t. cond t (changed g x ∷ filter (of_bucket b) (map (changed g) l)) (filter (of_bucket b) (map (changed g) l))) h))

pub linked_changed : (g : Held → Held) → ((x : Held) → key_of_held (g x) ≡ key_of_held x) → (hs nx : List (Option ℕ)) (xs ys : List Slot) → ys ≡ map (changed g) xs → steady (ranked earlier xs) ≡ true → Linked hs nx xs → Linked hs nx ys
linked_changed g e hs nx xs ys f s d = subst (Linked hs nx) (sym f) (record {
  wide = d.wide;
  long = d.long;
  row = d.row;
  runs = d.runs;
  within = λ b h. All-weaker (λ p. p < length xs) (λ p. p < length (map (changed g) xs)) (λ p k. omega (arith, k, length-map xs (changed g))) (d.row b) (d.within b h);
  listed = λ b h. places (d.row b) (d.within b h) ∙ ap (map (changed g)) (d.listed b h) ∙ kept_changed g e b (ranked earlier xs) ∙ ap (filter (of_bucket b)) (sym (ranked_changed g e xs s));
  placed = λ p k.
      let l : p < length xs = omega (arith, k, length-map xs (changed g)) in
      subst (λ b. Among p (d.row b)) (ap (λ t. t.time / 64 % 64) (sym (e (at xs p).held)) ∙ ap bucket_of (sym (get_changed xs p l))) (d.placed p l);
})
  where
    get_changed : (l : List Slot) (p : ℕ) → p < length l → at (map (changed g) l) p ≡ changed g (at l p)
    get_changed [] p h = absurd (let z : ⊥ = omega arith in z)
    get_changed (x ∷ l) zero h = refl
    get_changed (x ∷ l) (suc p) h = get_changed l p (let z : p < length l = omega arith in z)

    places : (ps : List ℕ) → AllByRecursion (λ p. p < length xs) ps → map (at (map (changed g) xs)) ps ≡ map (changed g) (map (at xs) ps)
    places [] a = refl
    places (p ∷ ps) a = ap (λ t. t ∷ map (at (map (changed g) xs)) ps) (get_changed xs p a.0) ∙ ap (λ t. changed g (at xs p) ∷ t) (places ps a.1)

-- a pool that is changed, and one from which the others are dropped too, stays sound
pub sound_changed : (g : Held → Held) → ((x : Held) → key_of_held (g x) ≡ key_of_held x) → (n : ℕ) (o q : Option Slot) (hs nx : List (Option ℕ)) (xs ys : List Slot) → ys ≡ map (changed g) xs → Sound n o hs nx xs
    → (Linked hs nx ys → q ≡ first (ranked earlier ys)) → Sound n q hs nx ys
sound_changed g e n o q hs nx xs ys f s k =
    let d = linked_changed g e hs nx xs ys f s.apart s.linked in
    record {
      young = subst (Young n) (sym f) (young_changed g n xs s.young);
      apart = ap (λ l. steady (ranked earlier l)) f ∙ steady_changed g e xs s.apart;
      known = k d;
      linked = d;
    }

pub sound_kept : (g : Held → Held) → ((x : Held) → key_of_held (g x) ≡ key_of_held x) → (n : ℕ) (o q : Option Slot) (hs nx hs' nx' : List (Option ℕ)) (xs ys : List Slot) → ys ≡ filter lasts (map (changed g) xs) → Sound n o hs nx xs
    → Linked hs' nx' ys → (Linked hs' nx' ys → q ≡ first (ranked earlier ys)) → Sound n q hs' nx' ys
sound_kept g e n o q hs nx hs' nx' xs ys f s d k = record {
  young = subst (Young n) (sym f) (young_kept n (map (changed g) xs) (young_changed g n xs s.young));
  apart = ap (λ l. steady (ranked earlier l)) f ∙ steady_kept (map (changed g) xs) (steady_changed g e xs s.apart);
  known = k d;
  linked = d;
}
