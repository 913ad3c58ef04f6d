-- Chains whose links are written, and a place that joins one.
use Rattle.std.proofs.Common.{◌≡◌, ◌≢◌, ℕ, suc, ◌+◌, ◌<◌, ◌≤◌, Bool, true, false, cond, List, [], ◌∷◌, ◌++◌, length, map, filter, get_or, set, take, Some, None, Option, sym, refl, ap, ◌∙◌, subst, ⊎_elim, arith, get_or-set_other, get_or-set_same, eqb}
use Rattle.std.specs.List.{AllByRecursion}
use Rattle.std.proofs.ByRecursion.{All-weaker, all_kept_by}
use Rattle.std.proofs.lemmas.Bool.{cases_Bool, both_ways, cond_both, cases_eq, eq-eqb, ne_eqb, eqb-true}
use Rattle.std.proofs.lemmas.List.{get_or-take, take_more, length-set, length-take-le}
use Rattle.std.proofs.lemmas.Option.{none-some, same_Some}
use Rattle.slot.specs.Rank.{ins, ranked, Rising}
use Rattle.slot.specs.declared.Slot.{Slot}
use Rattle.slot.specs.Slots.{earlier}
use Rattle.slot.specs.Laws.{strictly}
use Rattle.slot.proofs.Picks.{kept_ins_yes, kept_ins_no, through, ranked_push}
use Rattle.slot.proofs.Ranks.{ins_front, ranked_rising, length_ranked}
use Rattle.bucket_calendar.specs.Buckets.{bucket_of, of_bucket, row_of}
use Rattle.bucket_calendar.specs.Chains.{Runs, at, Among, Linked}
use Rattle.bucket_calendar.specs.Cuts.{end_of, Stops, Cut}
use Rattle.bucket_calendar.proofs.Cuts.{among_more, among_there, front_all, back_all, both_all}

-- a link that is written where the chain does not pass
pub runs_set : (nx : List (Option ℕ)) (q : ℕ) (v o : Option ℕ) (ps : List ℕ) → AllByRecursion (λ p. p ≢ q) ps → Runs nx o ps → Runs (set nx q v) o ps
runs_set nx q v o [] a h = h
runs_set nx q v o (p ∷ ps) a h = (h.0, h.1, subst (λ t. Runs (set nx q v) t ps) (sym (get_or-set_other nx q p v None a.0)) (runs_set nx q v (get_or nx p None) ps a.1 h.2))

-- what is so of each place of a front is so of its last
pub end_in : (P : ℕ → Type 0) (ps : List ℕ) (q : ℕ) → end_of ps ≡ Some q → AllByRecursion P ps → P q
end_in P [] q e a = absurd (none-some q e)
end_in P (p ∷ []) q e a = subst P (same_Some p q e) a.0
end_in P (p ∷ r ∷ ps) q e a = end_in P (r ∷ ps) q e a.1

-- the front's places are none of those that follow it
pub runs_apart : (nx : List (Option ℕ)) (o : Option ℕ) (front back : List ℕ) → Runs nx o (front ++ back) → AllByRecursion (λ p. AllByRecursion (λ r. r ≢ p) back) front
runs_apart nx o [] back h = tt
runs_apart nx o (p ∷ front) back h = (back_all (λ r. r ≢ p) front back h.1, runs_apart nx (get_or nx p None) front back h.2)

-- the last of the front leads to what follows it
pub runs_after : (nx : List (Option ℕ)) (o : Option ℕ) (front back : List ℕ) (q : ℕ) → end_of front ≡ Some q → Runs nx o (front ++ back) → Runs nx (get_or nx q None) back
runs_after nx o [] back q e h = absurd (none-some q e)
runs_after nx o (p ∷ []) back q e h = subst (λ k. Runs nx (get_or nx k None) back) (same_Some p q e) h.2
runs_after nx o (p ∷ r ∷ front) back q e h = runs_after nx (get_or nx p None) (r ∷ front) back q e h.2

-- other places follow the front
pub runs_splice : (nx ny : List (Option ℕ)) (o : Option ℕ) (front back new : List ℕ) (q : ℕ) → end_of front ≡ Some q → Runs nx o (front ++ back)
    → AllByRecursion (λ p. AllByRecursion (λ r. r ≢ p) new) front → AllByRecursion (λ p. p ≢ q → get_or ny p None ≡ get_or nx p None) front
    → Runs ny (get_or ny q None) new → Runs ny o (front ++ new)
runs_splice nx ny o [] back new q e h a g w = absurd (none-some q e)
runs_splice nx ny o (p ∷ []) back new q e h a g w = (h.0, a.0, subst (λ k. Runs ny (get_or ny k None) new) (sym (same_Some p q e)) w)
runs_splice nx ny o (p ∷ r ∷ front) back new q e h a g w =
    let f : AllByRecursion (λ k. k ≢ p) (r ∷ front) = front_all (λ k. k ≢ p) (r ∷ front) back h.1 in
    let d : p ≢ q = λ z. end_in (λ k. k ≢ p) (r ∷ front) q e f (sym z) in
    (h.0, both_all (λ k. k ≢ p) (r ∷ front) new f a.0, subst (λ t. Runs ny t (r ∷ front ++ new)) (sym (g.0 d)) (runs_splice nx ny (get_or nx p None) (r ∷ front) back new q e h.2 a.1 g.1 w))

-- lists of places and of what stands there
pub map_agree : (f g : ℕ → Slot) (ps : List ℕ) → AllByRecursion (λ p. f p ≡ g p) ps → map f ps ≡ map g ps
map_agree f g [] a = refl
map_agree f g (p ∷ ps) a = ap (λ s. s ∷ map f ps) a.0 ∙ ap (λ l. g p ∷ l) (map_agree f g ps a.1)

pub unmap : (P : Slot → Type 0) (f : ℕ → Slot) (ps : List ℕ) → AllByRecursion P (map f ps) → AllByRecursion (λ p. P (f p)) ps
unmap P f [] a = tt
unmap P f (p ∷ ps) a = (a.0, unmap P f ps a.1)

pub onto : (P : Slot → Type 0) (f : ℕ → Slot) (ps : List ℕ) → AllByRecursion (λ p. P (f p)) ps → AllByRecursion P (map f ps)
onto P f [] a = tt
onto P f (p ∷ ps) a = (a.0, onto P f ps a.1)

length_map : (f : ℕ → Slot) (ps : List ℕ) → length (map f ps) ≡ length ps
length_map f [] = refl
length_map f (p ∷ ps) = ap suc (length_map f ps)

length_kept : (p : Slot → Bool) (l : List Slot) → length (filter p l) ≤ length l
length_kept p [] = omega arith
length_kept p (x ∷ l) = let n = length_kept p l in cond_both (p x) (x ∷ filter p l) (filter p l) (λ t. length t ≤ suc (length l)) (λ _. omega (arith, n)) (λ _. omega (arith, n))

pub rising_kept : (p : Slot → Bool) (l : List Slot) → Rising earlier l → Rising earlier (filter p l)
rising_kept p [] h = tt
rising_kept p (x ∷ l) h = cond_both (p x) (x ∷ filter p l) (filter p l) (Rising earlier) (λ _. (all_kept_by p (λ y. earlier y x ≡ false) l h.0, rising_kept p l h.1)) (λ _. rising_kept p l h.1)

pub row_rising : (b : ℕ) (xs : List Slot) → Rising earlier (row_of b xs)
row_rising b xs = rising_kept (of_bucket b) (ranked earlier xs) (ranked_rising earlier strictly xs)

-- each slot of a bucket's row is of the bucket
row_own : (b : ℕ) (l : List Slot) → AllByRecursion (λ s. bucket_of s ≡ b) (filter (of_bucket b) l)
row_own b [] = tt
row_own b (x ∷ l) = cond_both (of_bucket b x) (x ∷ filter (of_bucket b) l) (filter (of_bucket b) l) (AllByRecursion (λ s. bucket_of s ≡ b)) (λ e. (eqb-true _ _ e, row_own b l)) (λ _. row_own b l)

pub own_bucket : (s : Slot) → of_bucket (bucket_of s) s ≡ true
own_bucket s = eq-eqb (bucket_of s) (bucket_of s) refl

pub other_bucket : (s : Slot) (b : ℕ) → b ≢ bucket_of s → of_bucket b s ≡ false
other_bucket s b h = ne_eqb (bucket_of s) b (λ e. h (sym e))

pub at_take : (xs : List Slot) (n p : ℕ) → p < n → at (take n xs) p ≡ at xs p
at_take xs n p h = get_or-take n xs p _ h

-- the row of one bucket is r, and each other's as f says
pub pick : (P : ℕ → List ℕ → Type 0) (b : ℕ) (r : List ℕ) (f : ℕ → List ℕ) → P b r → ((k : ℕ) → k < 64 → k ≢ b → P k (f k)) → (k : ℕ) → k < 64 → P k (cond (eqb k b) r (f k))
pick P b r f own others k h = ⊎_elim
    (λ (e : k ≡ b). subst (λ t. P k (cond t r (f k))) (sym (eq-eqb k b e)) (subst (λ j. P j r) (sym e) own))
    (λ (e : k ≢ b). subst (λ t. P k (cond t r (f k))) (sym (ne_eqb k b e)) (others k h e)) (cases_eq k b)

module _ (hs nx : List (Option ℕ)) (xs : List Slot) (d : Linked hs nx xs) where
  -- a row is no longer than the pool
  pub row_short : (b : ℕ) → b < 64 → length (d.row b) ≤ length xs
  row_short b h =
      let e : length (d.row b) ≡ length (row_of b xs) = sym (length_map (at xs) (d.row b)) ∙ ap length (d.listed b h) in
      omega (arith, e, length_kept (of_bucket b) (ranked earlier xs), length_ranked earlier strictly xs)

  pub row_bucket : (b : ℕ) → b < 64 → AllByRecursion (λ p. bucket_of (at xs p) ≡ b) (d.row b)
  row_bucket b h = unmap (λ s. bucket_of s ≡ b) (at xs) (d.row b) (subst (AllByRecursion (λ s. bucket_of s ≡ b)) (sym (d.listed b h)) (row_own b (ranked earlier xs)))

  -- the rows of two buckets have no place in common
  pub rows_apart : (b k q : ℕ) → k < 64 → k ≢ b → bucket_of (at xs q) ≡ b → AllByRecursion (λ p. p ≢ q) (d.row k)
  rows_apart b k q h n e = All-weaker (λ p. bucket_of (at xs p) ≡ k) (λ p. p ≢ q) (λ p f z. n (sym f ∙ ap (λ t. bucket_of (at xs t)) z ∙ e)) (d.row k) (row_bucket k h)

-- where the cut is, the new slot goes in
rising_back : (f : ℕ → Slot) (front back : List ℕ) → Rising earlier (map f (front ++ back)) → Rising earlier (map f back)
rising_back f [] back h = h
rising_back f (p ∷ front) back h = rising_back f front back h.1

stopped : (xs : List Slot) (s : Slot) (ps : List ℕ) → Rising earlier (map (at xs) ps) → Stops xs s ps → AllByRecursion (λ p. earlier (at xs p) s ≡ false) ps
stopped xs s [] h k = tt
stopped xs s (p ∷ ps) h k = (
  k,
  All-weaker (λ q. earlier (at xs q) (at xs p) ≡ false) (λ q. earlier (at xs q) s ≡ false)
      (λ q e. ⊎_elim (λ (t : earlier (at xs q) s ≡ true). absurd (both_ways _ e (through earlier strictly (at xs q) s (at xs p) t k))) (λ t. t) (cases_Bool (earlier (at xs q) s)))
      ps (unmap (λ s. earlier s (at xs p) ≡ false) (at xs) ps h.0),
)

between : (xs : List Slot) (i : ℕ) (front back : List ℕ) → AllByRecursion (λ p. earlier (at xs p) (at xs i) ≡ true) front → AllByRecursion (λ p. earlier (at xs p) (at xs i) ≡ false) back
    → ins earlier (at xs i) (map (at xs) (front ++ back)) ≡ map (at xs) (front ++ i ∷ back)
between xs i [] back a k = ins_front earlier strictly (at xs i) (map (at xs) back) (onto (λ y. earlier y (at xs i) ≡ false) (at xs) back k)
between xs i (p ∷ front) back a k =
    ap (λ b. cond b (at xs i ∷ at xs p ∷ map (at xs) (front ++ back)) (at xs p ∷ ins earlier (at xs i) (map (at xs) (front ++ back)))) (strictly.one_way (at xs p) (at xs i) a.0)
    ∙ ap (λ l. at xs p ∷ l) (between xs i front back a.1 k)

-- the place i joins the chain of its bucket
module _ (hs nx : List (Option ℕ)) (xs : List Slot) (i : ℕ) (l : i < length xs) (few : length xs ≤ 512) (d : Linked hs nx (take i xs)) where
  abbrev ys : List Slot
  ys = take i xs

  abbrev b : ℕ
  b = bucket_of (at xs i)

  b_in : b < 64
  b_in = omega arith

  pub long_ys : length ys ≡ i
  long_ys = length-take-le i xs (omega (arith, l))

  pub below : (k : ℕ) → k < 64 → AllByRecursion (λ p. p < i) (d.row k)
  below k h = All-weaker (λ p. p < length ys) (λ p. p < i) (λ p e. omega (arith, e, long_ys)) (d.row k) (d.within k h)

  pub old_slots : (ps : List ℕ) → AllByRecursion (λ p. p < i) ps → map (at ys) ps ≡ map (at xs) ps
  old_slots ps a = map_agree (at ys) (at xs) ps (All-weaker (λ p. p < i) (λ p. at ys p ≡ at xs p) (λ p e. at_take xs i p e) ps a)

  module _ (end : Option ℕ) (c : Cut xs (at xs i) (d.row b) end) where
    abbrev joined : List ℕ
    joined = c.front ++ i ∷ c.back

    below_both : AllByRecursion (λ p. p < i) (c.front ++ c.back)
    below_both = subst (AllByRecursion (λ p. p < i)) c.parts (below b b_in)

    apart_both : AllByRecursion (λ p. p ≢ i) (c.front ++ c.back)
    apart_both = All-weaker (λ p. p < i) (λ p. p ≢ i) (λ p e z. let y : ⊥ = omega (arith, e, z) in y) (c.front ++ c.back) below_both

    led : Runs nx (get_or hs b None) (c.front ++ c.back)
    led = subst (Runs nx (get_or hs b None)) c.parts (d.runs b b_in)

    grown : ranked earlier (take (i + 1) xs) ≡ ins earlier (at xs i) (ranked earlier ys)
    grown = ap (ranked earlier) (take_more xs i _ l) ∙ ranked_push earlier strictly ys (at xs i)

    new_slots : (ps : List ℕ) → AllByRecursion (λ p. p < i + 1) ps → map (at (take (i + 1) xs)) ps ≡ map (at xs) ps
    new_slots ps a = map_agree (at (take (i + 1) xs)) (at xs) ps (All-weaker (λ p. p < i + 1) (λ p. at (take (i + 1) xs) p ≡ at xs p) (λ p e. at_take xs (i + 1) p e) ps a)

    wider : (ps : List ℕ) → AllByRecursion (λ p. p < i) ps → AllByRecursion (λ p. p < i + 1) ps
    wider ps a = All-weaker (λ p. p < i) (λ p. p < i + 1) (λ p e. omega (arith, e)) ps a

    joined_below : AllByRecursion (λ p. p < i + 1) joined
    joined_below =
        let w = wider (c.front ++ c.back) below_both in
        both_all (λ p. p < i + 1) c.front (i ∷ c.back) (front_all (λ p. p < i + 1) c.front c.back w) ((let z : i < i + 1 = omega arith in z), back_all (λ p. p < i + 1) c.front c.back w)

    rising : Rising earlier (map (at xs) (c.front ++ c.back))
    rising = subst (Rising earlier) (sym (d.listed b b_in) ∙ old_slots (d.row b) (below b b_in) ∙ ap (map (at xs)) c.parts) (row_rising b ys)

    joined_listed : map (at (take (i + 1) xs)) joined ≡ row_of b (take (i + 1) xs)
    joined_listed =
        new_slots joined joined_below
        ∙ sym (between xs i c.front c.back c.passed (stopped xs (at xs i) c.back (rising_back (at xs) c.front c.back rising) c.stops))
        ∙ ap (ins earlier (at xs i)) (ap (map (at xs)) (sym c.parts) ∙ sym (old_slots (d.row b) (below b b_in)) ∙ d.listed b b_in)
        ∙ sym (kept_ins_yes earlier strictly (of_bucket b) (at xs i) (ranked earlier ys) (own_bucket (at xs i)) (ranked_rising earlier strictly ys))
        ∙ ap (filter (of_bucket b)) (sym grown)

    other_listed : (k : ℕ) → k < 64 → k ≢ b → map (at (take (i + 1) xs)) (d.row k) ≡ row_of k (take (i + 1) xs)
    other_listed k h n =
        new_slots (d.row k) (wider (d.row k) (below k h)) ∙ sym (old_slots (d.row k) (below k h)) ∙ d.listed k h
        ∙ sym (kept_ins_no earlier strictly (of_bucket k) (at xs i) (ranked earlier ys) (other_bucket (at xs i) k n))
        ∙ ap (filter (of_bucket k)) (sym grown)

    abbrev grown_row : ℕ → List ℕ
    grown_row k = cond (eqb k b) joined (d.row k)

    at_new : i < i + 1 → Among i (grown_row (bucket_of (at (take (i + 1) xs) i)))
    at_new h = subst (λ s. Among i (grown_row (bucket_of s))) (sym (at_take xs (i + 1) i h)) (subst (λ t. Among i (cond t joined (d.row b))) (sym (eq-eqb b b refl)) (among_there i c.front c.back))

    at_old : (p : ℕ) → p < i → Among p (grown_row (bucket_of (at (take (i + 1) xs) p)))
    at_old p h =
        let w : Among p (d.row (bucket_of (at xs p))) = subst (λ s. Among p (d.row (bucket_of s))) (at_take xs i p h) (d.placed p (omega (arith, h, long_ys))) in
        subst (λ s. Among p (grown_row (bucket_of s))) (sym (at_take xs (i + 1) p (omega (arith, h))))
        (⊎_elim
        (λ (g : bucket_of (at xs p) ≡ b). subst (λ t. Among p (cond t joined (d.row (bucket_of (at xs p))))) (sym (eq-eqb (bucket_of (at xs p)) b g))
        (among_more p i c.front c.back (subst (Among p) c.parts (subst (λ k. Among p (d.row k)) g w))))
        (λ (g : bucket_of (at xs p) ≢ b). subst (λ t. Among p (cond t joined (d.row (bucket_of (at xs p))))) (sym (ne_eqb (bucket_of (at xs p)) b g)) w) (cases_eq (bucket_of (at xs p)) b))

    -- with links that lead through the place, and as before through the other rows
    rebuilt : (hs' nx' : List (Option ℕ)) → length hs' ≡ 64 → length nx' ≡ 512 → Runs nx' (get_or hs' b None) joined → ((k : ℕ) → k < 64 → k ≢ b → Runs nx' (get_or hs' k None) (d.row k))
        → Linked hs' nx' (take (i + 1) xs)
    rebuilt hs' nx' w n own others = record {
      wide = w;
      long = n;
      row = λ k. cond (eqb k b) joined (d.row k);
      runs = pick (λ k. Runs nx' (get_or hs' k None)) b joined d.row own others;
      within = pick (λ _. AllByRecursion (λ p. p < length (take (i + 1) xs))) b joined d.row (fit joined joined_below) (λ k h _. fit (d.row k) (wider (d.row k) (below k h)));
      listed = pick (λ k r. map (at (take (i + 1) xs)) r ≡ row_of k (take (i + 1) xs)) b joined d.row joined_listed other_listed;
      placed = λ p e. ⊎_elim (λ (g : p ≡ i). subst (λ q. Among q (grown_row (bucket_of (at (take (i + 1) xs) q)))) (sym g) (at_new (omega arith))) (λ (g : p ≢ i). at_old p (let f : length (take (i + 1) xs) ≡ i + 1 = length-take-le (i + 1) xs (omega (arith, l)) in omega (arith, e, f, g))) (cases_eq p i);
    }
      where
        fit : (ps : List ℕ) → AllByRecursion (λ p. p < i + 1) ps → AllByRecursion (λ p. p < length (take (i + 1) xs)) ps
        fit ps a = let n = length-take-le (i + 1) xs (omega (arith, l)) in All-weaker (λ p. p < i + 1) (λ p. p < length (take (i + 1) xs)) (λ p e. omega (arith, e, n)) ps a

  abbrev first_links : List (Option ℕ)
  first_links = set nx i (get_or hs b None)

  -- in front of the bucket's chain
  pub link_first : Cut xs (at xs i) (d.row b) None → Linked (set hs b (Some i)) first_links (take (i + 1) xs)
  link_first c = rebuilt None c (set hs b (Some i)) first_links (length-set hs b (Some i) ∙ d.wide) (length-set nx i (get_or hs b None) ∙ d.long)
      (subst (λ t. Runs first_links t (joined None c)) (sym (get_or-set_same hs b (Some i) None (omega (arith, d.wide)))) (subst (λ f. Runs first_links (Some i) (f ++ i ∷ c.back)) (sym (none_front c.front c.ends)) (
        refl,
        back_all (λ p. p ≢ i) c.front c.back (apart_both None c),
        subst (λ t. Runs first_links t c.back) (sym (get_or-set_same nx i (get_or hs b None) None (omega (arith, l, few, d.long))))
            (runs_set nx i (get_or hs b None) (get_or hs b None) c.back (back_all (λ p. p ≢ i) c.front c.back (apart_both None c)) (subst (λ f. Runs nx (get_or hs b None) (f ++ c.back)) (none_front c.front c.ends) (led None c))),
      )))
      (λ k h e. subst (λ t. Runs first_links t (d.row k)) (sym (get_or-set_other hs b k (Some i) None e)) (runs_set nx i (get_or hs b None) (get_or hs k None) (d.row k) (All-weaker (λ p. p < i) (λ p. p ≢ i) (λ p f z. let y : ⊥ = omega (arith, f, z) in y) (d.row k) (below k h)) (d.runs k h)))
    where
      some_end : (p : ℕ) (ps : List ℕ) → end_of (p ∷ ps) ≡ None → ⊥
      some_end p [] e = none-some p (sym e)
      some_end p (q ∷ ps) e = some_end q ps e

      none_front : (ps : List ℕ) → end_of ps ≡ None → ps ≡ []
      none_front [] e = refl
      none_front (p ∷ ps) e = absurd (some_end p ps e)

  -- behind the place q
  module _ (q : ℕ) (c : Cut xs (at xs i) (d.row b) (Some q)) where
    abbrev after_links : List (Option ℕ)
    after_links = set (set nx i (get_or nx q None)) q (Some i)

    in_front : (P : ℕ → Type 0) → AllByRecursion P (d.row b) → P q
    in_front P a = end_in P c.front q c.ends (front_all P c.front c.back (subst (AllByRecursion P) c.parts a))

    pub after_in : q < i
    after_in = in_front (λ p. p < i) (below b b_in)

    pub after_bucket : bucket_of (at xs q) ≡ b
    after_bucket = ap bucket_of (sym (at_take xs i q after_in)) ∙ in_front (λ p. bucket_of (at ys p) ≡ b) (row_bucket hs nx ys d b b_in)

    not_new : q ≢ i
    not_new z = let y : ⊥ = omega (arith, after_in, z) in y

    written : (o : Option ℕ) (ps : List ℕ) → AllByRecursion (λ p. p ≢ i) ps → AllByRecursion (λ p. p ≢ q) ps → Runs nx o ps → Runs after_links o ps
    written o ps a k h = runs_set (set nx i (get_or nx q None)) q (Some i) o ps k (runs_set nx i (get_or nx q None) o ps a h)

    at_q : get_or after_links q None ≡ Some i
    at_q = get_or-set_same (set nx i (get_or nx q None)) q (Some i) None (let n = length-set nx i (get_or nx q None) in omega (arith, after_in, l, few, d.long, n))

    at_i : get_or after_links i None ≡ get_or nx q None
    at_i = get_or-set_other (set nx i (get_or nx q None)) q i (Some i) None (λ z. not_new (sym z)) ∙ get_or-set_same nx i (get_or nx q None) None (omega (arith, l, few, d.long))

    behind_q : AllByRecursion (λ p. p ≢ q) c.back
    behind_q = end_in (λ p. AllByRecursion (λ r. r ≢ p) c.back) c.front q c.ends (runs_apart nx (get_or hs b None) c.front c.back (led (Some q) c))

    new_apart : AllByRecursion (λ p. AllByRecursion (λ r. r ≢ p) (i ∷ c.back)) c.front
    new_apart = with_i c.front (front_all (λ p. p ≢ i) c.front c.back (apart_both (Some q) c)) (runs_apart nx (get_or hs b None) c.front c.back (led (Some q) c))
      where
        with_i : (ps : List ℕ) → AllByRecursion (λ p. p ≢ i) ps → AllByRecursion (λ p. AllByRecursion (λ r. r ≢ p) c.back) ps → AllByRecursion (λ p. AllByRecursion (λ r. r ≢ p) (i ∷ c.back)) ps
        with_i [] a k = tt
        with_i (p ∷ ps) a k = (((λ z. a.0 (sym z)), k.0), with_i ps a.1 k.1)

    pub link_after : Linked hs after_links (take (i + 1) xs)
    link_after = rebuilt (Some q) c hs after_links d.wide (length-set (set nx i (get_or nx q None)) q (Some i) ∙ length-set nx i (get_or nx q None) ∙ d.long)
        (runs_splice nx after_links (get_or hs b None) c.front c.back (i ∷ c.back) q c.ends (led (Some q) c) new_apart
        (All-weaker (λ p. p ≢ i) (λ p. p ≢ q → get_or after_links p None ≡ get_or nx p None)
        (λ p a k. get_or-set_other (set nx i (get_or nx q None)) q p (Some i) None k ∙ get_or-set_other nx i p (get_or nx q None) None a) c.front (front_all (λ p. p ≢ i) c.front c.back (apart_both (Some q) c)))
        (subst (λ t. Runs after_links t (i ∷ c.back)) (sym at_q) (
          refl,
          back_all (λ p. p ≢ i) c.front c.back (apart_both (Some q) c),
          subst (λ t. Runs after_links t c.back) (sym at_i) (written (get_or nx q None) c.back (back_all (λ p. p ≢ i) c.front c.back (apart_both (Some q) c)) behind_q
              (runs_after nx (get_or hs b None) c.front c.back q c.ends (led (Some q) c))),
        )))
        (λ k h e. written (get_or hs k None) (d.row k) (All-weaker (λ p. p < i) (λ p. p ≢ i) (λ p f z. let y : ⊥ = omega (arith, f, z) in y) (d.row k) (below k h))
        (rows_apart hs nx ys d b k q h e (in_front (λ p. bucket_of (at ys p) ≡ b) (row_bucket hs nx ys d b b_in))) (d.runs k h))
