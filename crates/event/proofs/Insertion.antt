-- The laws of insertion by key, of anything that has a key.
use Rattle.std.proofs.Common.{ℕ, zero, suc, ◌<◌, ◌≤◌, slice_index_or, ◌≡◌, suc, ◌+◌, Bool, true, false, cond, ◌⊎◌, List, [], ◌∷◌, ◌++◌, map, length, filter, sym, refl, ap, inl, inr, ⊎_elim, arith}
use Rattle.std.specs.List.{insert as inserted, position_or_len, AllByRecursion}
use Rattle.std.specs.List.Sorted.{IsPermutation}
use Rattle.std.proofs.ByRecursion.{All-weaker, all_kept_by}
use Rattle.std.proofs.lemmas.List.Sorted.{IsPermutation-refl, IsPermutation-cons, IsPermutation-trans, IsPermutation-swap}
use Rattle.std.proofs.lemmas.Bool.{cases_Bool, cond_both}
use Rattle.event.specs.declared.Key.{Key}
use Rattle.event.specs.Keys.{before}
use Rattle.event.specs.Lists.{insert, insert_all, Sorted, Rising, Distinct}
use Rattle.event.proofs.Orders.{chain, through, not_back, apart}

-- two in front change places
exchange : {X : Type 0} (a b : X) (xs : List X) → IsPermutation (a ∷ b ∷ xs) (b ∷ a ∷ xs)
exchange a b xs = IsPermutation-swap (a ∷ b ∷ xs) (b ∷ a ∷ xs) 0 1 (omega arith) (omega arith) refl

module _ {X : Type 0} (key : X → Key) where
  pub length_insert : (m : X) (xs : List X) → length (insert key m xs) ≡ suc (length xs)
  length_insert m [] = refl
  length_insert m (x ∷ xs) =
      cond_both (before (key m) (key x)) (m ∷ x ∷ xs) (x ∷ insert key m xs) (λ l. length l ≡ suc (suc (length xs))) (λ _. refl) (λ _. ap suc (length_insert m xs))

  pub all_insert : (P : X → Type 0) (m : X) (xs : List X) → P m → AllByRecursion P xs → AllByRecursion P (insert key m xs)
  all_insert P m [] p h = (p, tt)
  all_insert P m (x ∷ xs) p h =
      cond_both (before (key m) (key x)) (m ∷ x ∷ xs) (x ∷ insert key m xs) (AllByRecursion P) (λ _. (p, h)) (λ _. (h.0, all_insert P m xs p h.1))

  pub all_insert_all : (P : X → Type 0) (ms xs : List X) → AllByRecursion P ms → AllByRecursion P xs → AllByRecursion P (insert_all key ms xs)
  all_insert_all P [] xs a h = h
  all_insert_all P (m ∷ ms) xs a h = all_insert_all P ms (insert key m xs) a.1 (all_insert P m xs a.0 h)

  pub length_insert_all : (ms xs : List X) → length (insert_all key ms xs) ≡ length ms + length xs
  length_insert_all [] xs = omega arith
  length_insert_all (m ∷ ms) xs = let e = length_insert_all ms (insert key m xs) in let f = length_insert m xs in omega arith

  -- what is inserted, with the rest, is the same list in another order
  pub shuffled_insert : (m : X) (xs : List X) → IsPermutation (m ∷ xs) (insert key m xs)
  shuffled_insert m [] = IsPermutation-refl (m ∷ [])
  shuffled_insert m (x ∷ xs) =
      cond_both (before (key m) (key x)) (m ∷ x ∷ xs) (x ∷ insert key m xs) (IsPermutation (m ∷ x ∷ xs)) (λ _. IsPermutation-refl (m ∷ x ∷ xs))
      (λ _. IsPermutation-trans (m ∷ x ∷ xs) (x ∷ m ∷ xs) (x ∷ insert key m xs) (exchange m x xs) (IsPermutation-cons x (m ∷ xs) (insert key m xs) (shuffled_insert m xs)))

  -- a list in order stays in order
  pub sorted_insert : (m : X) (xs : List X) → Sorted key xs → Sorted key (insert key m xs)
  sorted_insert m [] s = (tt, tt)
  sorted_insert m (x ∷ xs) s =
      cond_both (before (key m) (key x)) (m ∷ x ∷ xs) (x ∷ insert key m xs) (Sorted key)
      (λ b. ((not_back (key m) (key x) b, All-weaker (λ y. before (key y) (key x) ≡ false) (λ y. before (key y) (key m) ≡ false) (λ y k. not_back (key m) (key y) (through (key m) (key x) (key y) b k)) xs s.0), s))
      (λ b. (all_insert (λ y. before (key y) (key x) ≡ false) m xs b s.0, sorted_insert m xs s.1))

  pub sorted_insert_all : (ms xs : List X) → Sorted key xs → Sorted key (insert_all key ms xs)
  sorted_insert_all [] xs s = s
  sorted_insert_all (m ∷ ms) xs s = sorted_insert_all ms (insert key m xs) (sorted_insert m xs s)

  -- what comes before all goes to the front
  pub insert_front : (m : X) (xs : List X) → AllByRecursion (λ y. before (key m) (key y) ≡ true) xs → insert key m xs ≡ m ∷ xs
  insert_front m [] h = refl
  insert_front m (x ∷ xs) h = let b = h.0 in simp b

  module _ (p : X → Bool) where
    keep_inserted : (m : X) (xs : List X) → Sorted key xs → p m ≡ true → filter p (insert key m xs) ≡ insert key m (filter p xs)
    keep_inserted m [] s i = simp i
    keep_inserted m (x ∷ xs) s i = go (cases_Bool (before (key m) (key x))) (cases_Bool (p x)) (keep_inserted m xs s.1 i)
      where
        go : (before (key m) (key x) ≡ true) ⊎ (before (key m) (key x) ≡ false) → (p x ≡ true) ⊎ (p x ≡ false)
            → filter p (insert key m xs) ≡ insert key m (filter p xs)
            → filter p (insert key m (x ∷ xs)) ≡ insert key m (filter p (x ∷ xs))
        go (inl b) (inl e) ih = simp (b, i, e)
        go (inl b) (inr e) ih =
            let all : AllByRecursion (λ y. before (key m) (key y) ≡ true) xs = All-weaker (λ y. before (key y) (key x) ≡ false) (λ y. before (key m) (key y) ≡ true) (λ y k. through (key m) (key x) (key y) b k) xs s.0 in
            simp (b, i, e) (sym (insert_front m (filter p xs) (all_kept_by p (λ y. before (key m) (key y) ≡ true) xs all)))
        go (inr b) (inl e) ih = simp (b, e) (ap (λ l. x ∷ l) ih)
        go (inr b) (inr e) ih = simp (b, e) ih

    drop_inserted : (m : X) (xs : List X) → p m ≡ false → filter p (insert key m xs) ≡ filter p xs
    drop_inserted m [] i = simp i
    drop_inserted m (x ∷ xs) i =
        ⊎_elim (λ (b : before (key m) (key x) ≡ true). simp (b, i))
        (λ (b : before (key m) (key x) ≡ false). simp b (ap (λ l. cond (p x) (x ∷ l) l) (drop_inserted m xs i)))
        (cases_Bool (before (key m) (key x)))

    -- filtering and insertion may trade places in a list in order
    pub kept_by_insert : (m : X) (xs : List X) → Sorted key xs → filter p (insert key m xs) ≡ cond (p m) (insert key m (filter p xs)) (filter p xs)
    kept_by_insert m xs s =
        ⊎_elim (λ (e : p m ≡ true). simp e (keep_inserted m xs s e)) (λ (e : p m ≡ false). simp e (drop_inserted m xs e)) (cases_Bool (p m))

  -- m goes in at i, if it comes before the one there and before none that stands ahead of it
  pub insert_at : (m : X) (xs : List X) (i : ℕ) (d : X) → i ≤ length xs → ((k : ℕ) → k < i → before (key m) (key (slice_index_or xs k d)) ≡ false)
      → (i < length xs → before (key m) (key (slice_index_or xs i d)) ≡ true) → insert key m xs ≡ inserted xs i m
  insert_at m [] zero d le low high = refl
  insert_at m [] (suc i) d le low high = absurd (omega arith)
  insert_at m (x ∷ xs) zero d le low high = let b : before (key m) (key x) ≡ true = high (omega arith) in simp b
  insert_at m (x ∷ xs) (suc i) d le low high =
      let b : before (key m) (key x) ≡ false = low 0 (omega arith) in
      let ih = insert_at m xs i d (omega arith) (λ k h. low (suc k) (omega arith)) (λ h. high (omega arith)) in
      simp b (ap (λ l. x ∷ l) ih)

  -- m goes in at the first that it comes before, or at the end
  pub insert_at_first : (m : X) (xs : List X) → insert key m xs ≡ inserted xs (position_or_len (λ x. before (key m) (key x)) xs) m
  insert_at_first m [] = refl
  insert_at_first m (x ∷ xs) =
      let i = position_or_len (λ (y : X). before (key m) (key y)) xs in
      let e : 1 + i ≡ suc i = omega arith in
      ⊎_elim (λ (b : before (key m) (key x) ≡ true). simp b) (λ (b : before (key m) (key x) ≡ false). simp (b, e) (ap (λ l. x ∷ l) (insert_at_first m xs))) (cases_Bool (before (key m) (key x)))

  pub sorted_from_rising : (xs : List X) → Rising key xs → Sorted key xs
  sorted_from_rising [] h = tt
  sorted_from_rising (x ∷ xs) h =
      (All-weaker (λ y. before (key x) (key y) ≡ true) (λ y. before (key y) (key x) ≡ false) (λ y b. not_back (key x) (key y) b) xs h.0, sorted_from_rising xs h.1)

  pub insert_all_append : (ms ns xs : List X) → insert_all key (ms ++ ns) xs ≡ insert_all key ns (insert_all key ms xs)
  insert_all_append [] ns xs = refl
  insert_all_append (m ∷ ms) ns xs = insert_all_append ms ns (insert key m xs)

  -- behind a front that comes before m, keys go on strictly ascending if none is that of m
  pub rising_insert : (front : List X) (m : X) (xs : List X) → AllByRecursion (λ f. before (key f) (key m) ≡ true) front → AllByRecursion (λ y. key m ≡ key y → ⊥) xs
      → Rising key (front ++ xs) → Rising key (front ++ insert key m xs)
  rising_insert (f ∷ front) m xs a n h = (reach front h.0, rising_insert front m xs a.1 n h.1)
    where
      reach : (ys : List X) → AllByRecursion (λ y. before (key f) (key y) ≡ true) (ys ++ xs) → AllByRecursion (λ y. before (key f) (key y) ≡ true) (ys ++ insert key m xs)
      reach [] g = all_insert (λ y. before (key f) (key y) ≡ true) m xs a.0 g
      reach (y ∷ ys) g = (g.0, reach ys g.1)
  rising_insert [] m [] a n h = (tt, tt)
  rising_insert [] m (x ∷ xs) a n h =
      cond_both (before (key m) (key x)) (m ∷ x ∷ xs) (x ∷ insert key m xs) (Rising key)
      (λ b. ((b, All-weaker (λ y. before (key x) (key y) ≡ true) (λ y. before (key m) (key y) ≡ true) (λ y k. chain (key m) (key x) (key y) b k) xs h.0), h))
      (λ b. (all_insert (λ y. before (key x) (key y) ≡ true) m xs (after b (cases_Bool (before (key x) (key m)))) h.0, rising_insert [] m xs tt n.1 h.1))
    where
      after : before (key m) (key x) ≡ false → (before (key x) (key m) ≡ true) ⊎ (before (key x) (key m) ≡ false) → before (key x) (key m) ≡ true
      after b (inl t) = t
      after b (inr t) = absurd (n.0 (apart (key m) (key x) b t))

  -- the same of several, no two of which have one key
  pub rising_insert_all : (front ms xs : List X) → AllByRecursion (λ m. AllByRecursion (λ f. before (key f) (key m) ≡ true) front) ms → Distinct key ms
      → AllByRecursion (λ m. AllByRecursion (λ y. key m ≡ key y → ⊥) xs) ms → Rising key (front ++ xs) → Rising key (front ++ insert_all key ms xs)
  rising_insert_all front [] xs a d n h = h
  rising_insert_all front (m ∷ ms) xs a d n h =
      rising_insert_all front ms (insert key m xs) a.1 d.1 (grow ms d.0 n.1) (rising_insert front m xs a.0 n.0 h)
    where
      grow : (ys : List X) → AllByRecursion (λ y. key m ≡ key y → ⊥) ys → AllByRecursion (λ y. AllByRecursion (λ x. key y ≡ key x → ⊥) xs) ys → AllByRecursion (λ y. AllByRecursion (λ x. key y ≡ key x → ⊥) (insert key m xs)) ys
      grow [] e f = tt
      grow (y ∷ ys) e f = (all_insert (λ x. key y ≡ key x → ⊥) m xs (λ k. e.0 (sym k)) f.0, grow ys e.1 f.1)

  pub distinct_kept_by : (p : X → Bool) (xs : List X) → Distinct key xs → Distinct key (filter p xs)
  distinct_kept_by p [] d = tt
  distinct_kept_by p (x ∷ xs) d =
      cond_both (p x) (x ∷ filter p xs) (filter p xs) (Distinct key)
      (λ _. (all_kept_by p (λ y. key x ≡ key y → ⊥) xs d.0, distinct_kept_by p xs d.1)) (λ _. distinct_kept_by p xs d.1)

  -- a front ascends by itself, and comes before all that follows it
  pub rising_front : (front : List X) (m : X) (xs : List X) → Rising key (front ++ m ∷ xs) → AllByRecursion (λ f. before (key f) (key m) ≡ true) front
  rising_front [] m xs h = tt
  rising_front (f ∷ front) m xs h = (reach front h.0, rising_front front m xs h.1)
    where
      reach : (ys : List X) → AllByRecursion (λ y. before (key f) (key y) ≡ true) (ys ++ m ∷ xs) → before (key f) (key m) ≡ true
      reach [] g = g.0
      reach (y ∷ ys) g = reach ys g.1

  pub rising_back : (front xs : List X) → Rising key (front ++ xs) → Rising key xs
  rising_back [] xs h = h
  rising_back (f ∷ front) xs h = rising_back front xs h.1

  pub rising_start : (front xs : List X) → Rising key (front ++ xs) → Rising key front
  rising_start [] xs h = tt
  rising_start (f ∷ front) xs h = (reach front h.0, rising_start front xs h.1)
    where
      reach : (ys : List X) → AllByRecursion (λ y. before (key f) (key y) ≡ true) (ys ++ xs) → AllByRecursion (λ y. before (key f) (key y) ≡ true) ys
      reach [] g = tt
      reach (y ∷ ys) g = (g.0, reach ys g.1)

-- where a map keeps keys, it may be done before insertion or after
pub map_insert : {X Y : Type 0} (key : X → Key) (other : Y → Key) (f : X → Y) → ((x : X) → other (f x) ≡ key x) → (m : X) (xs : List X) → map f (insert key m xs) ≡ insert other (f m) (map f xs)
map_insert key other f e m [] = refl
map_insert key other f e m (x ∷ xs) =
    let a = e m in
    let b = e x in
    simp (a, b)
    (cond_both (before (key m) (key x)) (m ∷ x ∷ xs) (x ∷ insert key m xs) (λ l. map f l ≡ cond (before (key m) (key x)) (f m ∷ f x ∷ map f xs) (f x ∷ insert other (f m) (map f xs)))
    (λ t. simp t) (λ t. simp t (ap (λ l. f x ∷ l) (map_insert key other f e m xs))))
