-- What the study counts, the account counts: messages held, entries, messages taken.
use Rattle.std.proofs.Common.{◌≡◌, ℕ, zero, suc, ◌+◌, Bool, true, false, cond, not, ◌&&◌, ◌⊎◌, List, [], ◌∷◌, map, length, Some, sym, refl, ap, ◌∙◌, inl, inr, ⊎_elim, arith}
use Rattle.std.specs.List.{AllByRecursion, slice_get}
use Rattle.std.proofs.ByRecursion.{All-weaker, all_kept_by, All-map}
use Rattle.std.proofs.lemmas.Bool.{cases_Bool, both_ways, false_from_ne_true, cond-true, cond-false, and_from, and_left, and_right}
use Rattle.std.proofs.lemmas.List.{length-map}
use Rattle.event.specs.declared.Key.{Key}
use Rattle.event.specs.Keys.{key_of}
use Rattle.group.specs.Groups.{has}
use Rattle.calendar.specs.declared.Held.{Held}
use Rattle.calendar.specs.Calls.{key_of_held, waiting}
use Rattle.calendar.specs.Laws.{message_of, messages_of}
use Rattle.model.specs.Meaning.{Meaning, Law}
use Rattle.account.specs.Account.{Account, ind, any_below, sum_below, least, runs}
use Rattle.account.specs.Finds.{find, some}
use Rattle.account.specs.Groups.{count, held_by, held, taken, entries}
use Rattle.account.specs.Sound.{Sound}
use Rattle.account.proofs.Bounds.{any_from}
use Rattle.account.proofs.Counts.{sum_plus}
use Rattle.account.proofs.Leaders.{sum_same, sum_none, any_same, least_in, sum_first, leaders_count}
use Rattle.account.proofs.Step.{runs_live}
use Rattle.follows.specs.Follows.{Fit, HeldFollow, EntriesFollow}
use Rattle.follows.specs.Steps.{with_key}
use Rattle.follows.proofs.Entries.{entry_at}
use Rattle.follows.proofs.Held.{Grouped, Seen, all_both, found_held, messages_there}
use Rattle.follows.proofs.Taking.{Takes, takes, idle, who_takes, taken_key, small}

-- groups that are not empty are as many as their smallest variants
held_least : (n : ℕ) (xs : List Held) → AllByRecursion (λ h. any_below (has h.group) n ≡ true) xs → length xs ≡ sum_below (λ v. count (λ h. least_in v (has h.group)) xs) n
held_least n [] a = sym (sum_none n)
held_least n (x ∷ xs) a =
    let p = sum_first (has x.group) n ∙ ap ind a.0 in let q = held_least n xs a.1 in
    let d = sum_plus (λ v. ind (least_in v (has x.group))) (λ v. count (λ h. least_in v (has h.group)) xs) n in
    omega (arith, p, q, d)

count_same : {X : Type 0} (p q : X → Bool) (P : X → Type 0) → ((x : X) → P x → p x ≡ q x) → (xs : List X) → AllByRecursion P xs → count p xs ≡ count q xs
count_same p q P f [] a = refl
count_same p q P f (x ∷ xs) a = ap (λ b. ind b + count p xs) (f x a.0) ∙ ap (λ c. ind (q x) + c) (count_same p q P f xs a.1)

count_none : {X : Type 0} (xs : List X) → count (λ x. false) xs ≡ 0
count_none [] = refl
count_none (x ∷ xs) = let a = count_none xs in omega arith

-- a count over what v has
count_waiting : (v : ℕ) (p : Held → Bool) (xs : List Held) → count (λ h. has h.group v && p h) xs ≡ count p (waiting v xs)
count_waiting v p [] = refl
count_waiting v p (x ∷ xs) = let a = count_waiting v p xs in ⊎_elim (λ (e : has x.group v ≡ true). simp e (omega arith)) (λ (e : has x.group v ≡ false). simp e (omega arith)) (cases_Bool (has x.group v))

count_map : {X Y : Type 0} (p : Y → Bool) (f : X → Y) (xs : List X) → count (λ x. p (f x)) xs ≡ count p (map f xs)
count_map p f [] = refl
count_map p f (x ∷ xs) = ap (λ c. ind (p (f x)) + c) (count_map p f xs)

sum_front : (g : ℕ → ℕ) (n : ℕ) → sum_below g (suc n) ≡ g 0 + sum_below (λ i. g (suc i)) n
unfolding sum_below
sum_front g zero = omega arith
sum_front g (suc n) = let a = sum_front g n in omega arith

-- a count by places
count_places : {X : Type 0} (p : X → Bool) (q : ℕ → Bool) (xs : List X) → ((i : ℕ) (x : X) → slice_get xs i ≡ Some x → p x ≡ q i) → count p xs ≡ sum_below (λ i. ind (q i)) (length xs)
unfolding sum_below
count_places p q [] f = refl
count_places p q (x ∷ xs) f =
    ap (λ b. ind b + count p xs) (f 0 x refl) ∙ ap (λ c. ind (q 0) + c) (count_places p (λ i. q (suc i)) xs (λ i y e. f (suc i) y e)) ∙ sym (sum_front (λ i. ind (q i)) (length xs))

module _ (M : Meaning) (A : Account) (s : Sound M A) where
  filled : (h : Held) → Fit A.live h → any_below (has h.group) 16 ≡ true
  filled h f = any_from (has h.group) 16 f.filled.0 (small M A s f.filled.0 (f.within f.filled.0 f.filled.1)) f.filled.1

  out : (h : Held) → Fit A.live h → (v : ℕ) → A.live v ≡ false → has h.group v ≡ false
  out h f v l = false_from_ne_true _ (λ t. both_ways (A.live v) l (f.within v t))

  -- one that is not live is the smallest of none
  none_least : (v : ℕ) → A.live v ≡ false → (xs : List Held) → AllByRecursion (Fit A.live) xs → count (λ h. least_in v (has h.group)) xs ≡ 0
  none_least v l xs a = count_same (λ h. least_in v (has h.group)) (λ h. false) (Fit A.live) (λ h g. and_left (has h.group v) _ (out h g v l)) xs a ∙ count_none xs

  pub held_count : (xs : List Held) → HeldFollow A.live xs (λ v. (A.day v).waiting) A.marked → length xs ≡ held A
  held_count xs f = held_least 16 xs (All-weaker (Fit A.live) (λ h. any_below (has h.group) 16 ≡ true) filled xs f.fit) ∙ sum_same _ _ 16 (λ v. each v (cases_Bool (A.live v)))
    where
      P : Held → Type 0
      P h = Fit A.live h × (Grouped A.live A.marked h × Seen xs h)

      all : AllByRecursion P xs
      all = all_both _ _ xs f.fit (all_both _ _ xs f.grouped (found_held xs))

      waits_too : ℕ → ℕ → Key → Bool
      waits_too v w k = A.live w && (some (find k (A.day w).waiting) && not (A.marked v w k))

      like : (v : ℕ) (h : Held) → P h → has h.group v ≡ true → (w : ℕ) → has h.group w ≡ waits_too v w (key_of_held h)
      like v h p e w = go (cases_Bool (A.live w)) (cases_Bool (has h.group w))
        where
          go : (A.live w ≡ true) ⊎ (A.live w ≡ false) → (has h.group w ≡ true) ⊎ (has h.group w ≡ false) → has h.group w ≡ waits_too v w (key_of_held h)
          go (inr l) t = out h p.0 w l ∙ sym (and_left (A.live w) _ l)
          go (inl l) (inl t) = t ∙ sym (and_from (A.live w) _ l (and_from (some (find (key_of_held h) (A.day w).waiting)) _ (ap (λ ms. some (find (key_of_held h) ms)) (sym (f.own w l)) ∙ p.1.1 w t) (sym (p.1.0 v w e l) ∙ t)))
          go (inl l) (inr t) = t ∙ sym (and_right (A.live w) _ (and_right (some (find (key_of_held h) (A.day w).waiting)) _ (sym (p.1.0 v w e l) ∙ t)))

      each : (v : ℕ) → (A.live v ≡ true) ⊎ (A.live v ≡ false) → count (λ h. least_in v (has h.group)) xs ≡ cond (A.live v) (held_by A v) 0
      each v (inr l) = none_least v l xs f.fit ∙ sym (cond-false (A.live v) (held_by A v) 0 l)
      each v (inl l) =
          count_same (λ h. least_in v (has h.group)) (λ h. has h.group v && leads_by (key_of_held h)) P (λ h p. one h p (cases_Bool (has h.group v))) xs all
          ∙ count_waiting v (λ h. leads_by (key_of_held h)) xs ∙ count_map (λ m. leads_by (key_of m)) message_of (waiting v xs) ∙ ap (count (λ m. leads_by (key_of m))) (f.own v l)
          ∙ sym (cond-true (A.live v) (held_by A v) 0 l)
        where
          leads_by : Key → Bool
          leads_by k = not (any_below (λ w. waits_too v w k) v)

          one : (h : Held) → P h → (has h.group v ≡ true) ⊎ (has h.group v ≡ false) → least_in v (has h.group) ≡ (has h.group v && leads_by (key_of_held h))
          one h p (inl e) = ap (λ b. has h.group v && not b) (any_same _ _ v (like v h p e))
          one h p (inr e) = and_left (has h.group v) _ e ∙ sym (and_left (has h.group v) _ e)

  pub entries_count : (xs : List Held) → EntriesFollow A.live xs (λ v. (A.day v).journal) A.joint → length xs ≡ entries A
  entries_count xs f = held_least 16 xs (All-weaker (Fit A.live) (λ h. any_below (has h.group) 16 ≡ true) filled xs f.fit) ∙ sum_same _ _ 16 (λ v. each v (cases_Bool (A.live v)))
    where
      leads_at : ℕ → ℕ → Bool
      leads_at v i = not (any_below (λ w. A.live w && A.joint v w i) v)

      each : (v : ℕ) → (A.live v ≡ true) ⊎ (A.live v ≡ false) → count (λ h. least_in v (has h.group)) xs ≡ cond (A.live v) (sum_below (λ i. ind (leads_at v i)) (length (A.day v).journal)) 0
      each v (inr l) = none_least v l xs f.fit ∙ sym (cond-false (A.live v) _ 0 l)
      each v (inl l) =
          count_waiting v (λ h. not (any_below (has h.group) v)) xs
          ∙ count_places (λ h. not (any_below (has h.group) v)) (leads_at v) (waiting v xs) (λ i e h. ap not (any_same _ _ v (λ w. like i e h w (cases_Bool (A.live w)))))
          ∙ ap (λ n. sum_below (λ i. ind (leads_at v i)) n) (sym (length-map (waiting v xs) message_of) ∙ ap length (f.written v l)) ∙ sym (cond-true (A.live v) _ 0 l)
        where
          like : (i : ℕ) (e : Held) → slice_get (waiting v xs) i ≡ Some e → (w : ℕ) → (A.live w ≡ true) ⊎ (A.live w ≡ false) → has e.group w ≡ (A.live w && A.joint v w i)
          like i e h w (inl m) = f.jointly v w i e l m h ∙ sym (ap (λ b. b && A.joint v w i) m)
          like i e h w (inr m) = out e (entry_at (Fit A.live) v i xs e f.fit h).0 w m ∙ sym (and_left (A.live w) _ m)

  module _ (law : Law M) (k : Key) (least_is : least A 16 ≡ Some k) (xs : List Held) (f : HeldFollow A.live xs (λ v. (A.day v).waiting) A.marked) where
    heads : List Held
    heads = with_key k xs

    fits : AllByRecursion (Fit A.live) heads
    unfolding heads
    fits = all_kept_by _ (Fit A.live) xs f.fit

    -- each that runs has one message of those that are taken, and no other has any
    once : (v : ℕ) → (A.live v ≡ true) ⊎ (A.live v ≡ false) → length (messages_of v heads) ≡ ind (runs A k v)
    unfolding heads
    once v (inl l) = go (who_takes M A s law k least_is xs f v l)
      where
        go : Takes M A s law k least_is xs v → length (messages_of v (with_key k xs)) ≡ ind (runs A k v)
        go (takes m r a b) = ap length a ∙ sym (ap ind r.ran)
        go (idle r a b) = ap length a ∙ sym (ap ind r)
    once v (inr l) = ap length (none heads fits) ∙ sym (ap ind (false_from_ne_true _ (λ t. both_ways (A.live v) l (runs_live A k v t))))
      where
        none : (ys : List Held) → AllByRecursion (Fit A.live) ys → messages_of v ys ≡ []
        none [] a = refl
        none (y ∷ ys) a = messages_there v y ys (out y a.0 v l) ∙ none ys a.1

    Taken : Held → Type 0
    Taken h = (Fit A.live h × Seen heads h) × ((key_of_held h ≡ k) × Grouped A.live A.marked h)

    -- who has a message taken with v runs it
    one : (h : Held) → Taken h → (v w : ℕ) → has h.group v ≡ true → has h.group w ≡ (runs A k w && not (A.marked v w k))
    unfolding heads Taken
    one h t v w d = which (cases_Bool (A.live w))
      where
        at : A.live w ≡ true → has h.group w ≡ not (A.marked v w k)
        at l = t.1.1 v w d l ∙ ap (λ j. not (A.marked v w j)) t.1.0

        also : has h.group w ≡ true → Takes M A s law k least_is xs w → runs A k w ≡ true
        also e (takes m r a b) = r.ran
        also e (idle r a b) = absurd (both_ways (some (find (key_of_held h) (messages_of w heads))) (ap (λ ms. some (find (key_of_held h) ms)) a) (t.0.1 w e))

        go : (l : A.live w ≡ true) → (A.marked v w k ≡ true) ⊎ (A.marked v w k ≡ false) → has h.group w ≡ (runs A k w && not (A.marked v w k))
        go l (inl m) = at l ∙ ap not m ∙ sym (and_right (runs A k w) _ (ap not m))
        go l (inr m) = at l ∙ ap not m ∙ sym (and_from (runs A k w) _ (also (at l ∙ ap not m) (who_takes M A s law k least_is xs f w l)) (ap not m))

        which : (A.live w ≡ true) ⊎ (A.live w ≡ false) → has h.group w ≡ (runs A k w && not (A.marked v w k))
        which (inl l) = go l (cases_Bool (A.marked v w k))
        which (inr l) = out h t.0.0 w l ∙ sym (and_left (runs A k w) _ (false_from_ne_true _ (λ r. both_ways (A.live w) l (runs_live A k w r))))

    all_taken : AllByRecursion Taken heads
    unfolding heads Taken
    all_taken = all_both _ _ heads (all_both _ _ heads fits (found_held heads)) (all_both _ _ heads (taken_key k xs) (all_kept_by _ (Grouped A.live A.marked) xs f.grouped))

    pub taken_count : length (with_key k xs) ≡ taken A k
    unfolding heads Taken
    taken_count = sym (length-map heads group_test) ∙ leaders_count 16 (runs A k) (λ v w. not (A.marked v w k)) (map group_test heads) (record {
      filled = All-map (λ g. any_below g 16 ≡ true) group_test heads (All-weaker (Fit A.live) (λ h. any_below (has h.group) 16 ≡ true) filled heads fits);
      once = λ v. counts v heads ∙ once v (cases_Bool (A.live v));
      whole = All-map (λ g. (v w : ℕ) → g v ≡ true → g w ≡ (runs A k w && not (A.marked v w k))) group_test heads
          (All-weaker Taken (λ h. (v w : ℕ) → has h.group v ≡ true → has h.group w ≡ (runs A k w && not (A.marked v w k))) one heads all_taken);
    })
      where
        group_test : Held → ℕ → Bool
        group_test h = has h.group

        counts : (v : ℕ) (ys : List Held) → count (λ g. g v) (map group_test ys) ≡ length (messages_of v ys)
        counts v [] = refl
        counts v (y ∷ ys) = let a = counts v ys in ⊎_elim (λ (e : has y.group v ≡ true). simp e (omega arith)) (λ (e : has y.group v ≡ false). simp e (omega arith)) (cases_Bool (has y.group v))
