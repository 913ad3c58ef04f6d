-- What the calls do to the messages of one variant, and to the groups.
use Rattle.std.proofs.Common.{◌≡◌, ℕ, Bool, true, false, cond, not, ◌&&◌, ◌||◌, eqb, ltb, ◌⊎◌, List, [], ◌∷◌, map, length, filter, sym, refl, ap, ◌∙◌, subst, inl, inr, ⊎_elim, arith}
use Rattle.std.specs.List.{AllByRecursion}
use Rattle.std.proofs.ByRecursion.{all_kept_by}
use Rattle.std.proofs.lemmas.Bool.{cases_Bool, both_ways, cond_both, cond-true, cond-false, eq-eqb}
use Rattle.event.specs.Keys.{key_of, before}
use Rattle.event.specs.Lists.{insert, Sorted}
use Rattle.event.proofs.Insertion.{sorted_insert, kept_by_insert, map_insert}
use Rattle.group.specs.Groups.{has, with, without}
use Rattle.group.proofs.Members.{has_above, has_with, has_without, has_not_empty, with_above}
use Rattle.calendar.specs.declared.Held.{Held}
use Rattle.calendar.specs.Calls.{key_of_held, waiting, joins, spread, leaves, wanted}
use Rattle.calendar.specs.Laws.{message_of, messages_of, PutLaws, SpreadLaws, EraseLaws}

-- a map that keeps keys keeps the order
map_sorted : (f : Held → Held) → ((x : Held) → key_of_held (f x) ≡ key_of_held x) → (xs : List Held) → Sorted key_of_held xs → Sorted key_of_held (map f xs)
map_sorted f e [] s = tt
map_sorted f e (x ∷ xs) s = (go xs s.0, map_sorted f e xs s.1)
  where
    go : (ys : List Held) → AllByRecursion (λ y. before (key_of_held y) (key_of_held x) ≡ false) ys → AllByRecursion (λ y. before (key_of_held y) (key_of_held (f x)) ≡ false) (map f ys)
    go [] a = tt
    go (y ∷ ys) a = (ap (λ k. before (key_of_held (f y)) k) (e x) ∙ ap (λ k. before k (key_of_held x)) (e y) ∙ a.0, go ys a.1)

-- a filter keeps the order
pub kept_sorted : (p : Held → Bool) (xs : List Held) → Sorted key_of_held xs → Sorted key_of_held (filter p xs)
kept_sorted p [] s = tt
kept_sorted p (x ∷ xs) s =
    cond_both (p x) (x ∷ filter p xs) (filter p xs) (Sorted key_of_held)
    (λ _. (all_kept_by p (λ y. before (key_of_held y) (key_of_held x) ≡ false) xs s.0, kept_sorted p xs s.1)) (λ _. kept_sorted p xs s.1)

all_kept : (p : Held → Bool) (xs : List Held) → AllByRecursion (λ x. p x ≡ true) (filter p xs)
all_kept p [] = tt
all_kept p (x ∷ xs) = cond_both (p x) (x ∷ filter p xs) (filter p xs) (AllByRecursion (λ y. p y ≡ true)) (λ e. (e, all_kept p xs)) (λ _. all_kept p xs)

pub put_laws : (h : Held) (xs : List Held) → PutLaws h xs
put_laws h xs = record {
  sorted = sorted_insert key_of_held h xs;
  messages = λ s v.
      ap (map message_of) (kept_by_insert key_of_held (λ x. has x.group v) h xs s)
      ∙ into v (has h.group v);
}
  where
    into : (v : ℕ) (b : Bool) → map message_of (cond b (insert key_of_held h (waiting v xs)) (waiting v xs)) ≡ cond b (insert key_of h.message (messages_of v xs)) (messages_of v xs)
    into v true = map_insert key_of_held key_of message_of (λ x. refl) h (waiting v xs)
    into v false = refl

-- a map that keeps messages, and decides by its own test who waits for them
messages_by : (f : Held → Held) (p q : Held → Bool) → ((x : Held) → (f x).message ≡ x.message) → (xs : List Held) → AllByRecursion (λ x. p (f x) ≡ q x) xs
    → map message_of (filter p (map f xs)) ≡ map message_of (filter q xs)
messages_by f p q e [] a = refl
messages_by f p q e (x ∷ xs) a = go (cases_Bool (q x)) (messages_by f p q e xs a.1)
  where
    go : (q x ≡ true) ⊎ (q x ≡ false) → map message_of (filter p (map f xs)) ≡ map message_of (filter q xs) → map message_of (filter p (map f (x ∷ xs))) ≡ map message_of (filter q (x ∷ xs))
    go (inl t) ih = let u : p (f x) ≡ true = a.0 ∙ t in simp (t, u) (ap (λ m. m ∷ map message_of (filter p (map f xs))) (e x) ∙ ap (λ l. x.message ∷ l) ih)
    go (inr t) ih = let u : p (f x) ≡ false = a.0 ∙ t in simp (t, u) ih

every : (P : Held → Type 0) → ((x : Held) → P x) → (xs : List Held) → AllByRecursion P xs
every P f [] = tt
every P f (x ∷ xs) = (f x, every P f xs)

pub joins_message : (v c : ℕ) (x : Held) → (joins v c x).message ≡ x.message
joins_message v c x = cond_both (has x.group v) (record { message = x.message; group = with x.group c }) x (λ h. h.message ≡ x.message) (λ _. refl) (λ _. refl)

-- the variants of a message after a spread
pub has_joins : (v c u : ℕ) (x : Held) → has (joins v c x).group u ≡ ((has x.group v && (ltb c 16 && eqb u c)) || has x.group u)
has_joins v c u x = ⊎_elim
    (λ (b : has x.group v ≡ true). simp b (has_with x.group c u))
    (λ (b : has x.group v ≡ false). simp b) (cases_Bool (has x.group v))

not_none : {X : Type 0} (x : X) (xs : List X) → x ∷ xs ≡ [] → ⊥
not_none x xs e = let z : ◌≡◌ {A = ℕ} (length (x ∷ xs)) 0 = ap length e in omega arith

pub spread_laws : (v c : ℕ) (xs : List Held) → SpreadLaws v c xs
spread_laws v c xs = record {
  sorted = map_sorted (joins v c) (λ x. ap key_of (joins_message v c x)) xs;
  messages = same_messages xs;
  others = λ u e. messages_by (joins v c) (λ x. has x.group u) (λ x. has x.group u) (joins_message v c) xs (every _ (λ x. has_joins v c u x ∙ other (has x.group v) (ltb c 16) (eqb u c) (has x.group u) e) xs);
  above = λ h. unchanged h xs;
  child = λ h n. messages_by (joins v c) (λ x. has x.group c) (λ x. has x.group v) (joins_message v c) xs (gains h xs n);
}
  where
    same_messages : (ys : List Held) → map message_of (spread v c ys) ≡ map message_of ys
    same_messages [] = refl
    same_messages (y ∷ ys) = ap (λ m. m ∷ map message_of (spread v c ys)) (joins_message v c y) ∙ ap (λ l. y.message ∷ l) (same_messages ys)

    other : (a t q b : Bool) → q ≡ false → ((a && (t && q)) || b) ≡ b
    other true true q b e = ap (λ x. x || b) e
    other true false q b e = refl
    other false t q b e = refl

    unchanged : ltb c 16 ≡ false → (ys : List Held) → spread v c ys ≡ ys
    unchanged h [] = refl
    unchanged h (y ∷ ys) = ap (λ z. z ∷ spread v c ys) (stays (cases_Bool (has y.group v))) ∙ ap (λ l. y ∷ l) (unchanged h ys)
      where
        stays : (has y.group v ≡ true) ⊎ (has y.group v ≡ false) → joins v c y ≡ y
        stays (inl b) = cond-true _ _ _ b ∙ ap (λ g. record { message = y.message; group = g }) (with_above y.group c h)
        stays (inr b) = cond-false _ _ _ b

    ways : (a t q b : Bool) → t ≡ true → q ≡ true → b ≡ false → ((a && (t && q)) || b) ≡ a
    ways true true true b e f g = refl
    ways true false q b e f g = absurd (both_ways false refl e)
    ways true true false b e f g = absurd (both_ways false refl f)
    ways false t q b e f g = g

    gains : ltb c 16 ≡ true → (ys : List Held) → messages_of c ys ≡ [] → AllByRecursion (λ x. has (joins v c x).group c ≡ has x.group v) ys
    gains h [] n = tt
    gains h (y ∷ ys) n = go (cases_Bool (has y.group c)) (λ k. gains h ys k)
      where
        go : (has y.group c ≡ true) ⊎ (has y.group c ≡ false) → (messages_of c ys ≡ [] → AllByRecursion (λ x. has (joins v c x).group c ≡ has x.group v) ys) → AllByRecursion (λ x. has (joins v c x).group c ≡ has x.group v) (y ∷ ys)
        go (inl b) ih = absurd (not_none y.message (messages_of c ys) (sym (ap (map message_of) (cond-true _ _ _ b)) ∙ n))
        go (inr b) ih = (has_joins v c c y ∙ ways (has y.group v) (ltb c 16) (eqb c c) (has y.group c) h (eq-eqb c c refl) b, ih (sym (ap (map message_of) (cond-false _ _ _ b)) ∙ n))

pub erase_laws : (v : ℕ) (xs : List Held) → EraseLaws v xs
erase_laws v xs = record {
  sorted = λ s. cond_both (ltb v 16) (filter wanted (map (leaves v) xs)) xs (Sorted key_of_held) (λ _. kept_sorted wanted (map (leaves v) xs) (map_sorted (leaves v) (λ x. refl) xs s)) (λ _. s);
  none = cond_both (ltb v 16) (filter wanted (map (leaves v) xs)) xs (λ l. messages_of v l ≡ []) (λ h. gone xs) (λ h. never h xs);
  others = λ u e. cond_both (ltb v 16) (filter wanted (map (leaves v) xs)) xs (λ l. messages_of u l ≡ messages_of u xs) (λ _. kept u e xs) (λ _. refl);
  wanted = λ h. subst (λ l. AllByRecursion (λ x. wanted x ≡ true) l) (sym (cond-true _ _ _ h)) (all_kept wanted (map (leaves v) xs));
}
  where
    left_out : (q b : Bool) → q ≡ true → (not q && b) ≡ false
    left_out true b e = refl
    left_out false b e = absurd (both_ways false refl e)

    gone : (ys : List Held) → messages_of v (filter wanted (map (leaves v) ys)) ≡ []
    gone [] = refl
    gone (y ∷ ys) = cond_both (wanted (leaves v y)) (leaves v y ∷ filter wanted (map (leaves v) ys)) (filter wanted (map (leaves v) ys)) (λ l. messages_of v l ≡ [])
        (λ _. ap (map message_of) (cond-false _ _ _ (has_without y.group v v ∙ left_out (eqb v v) (has y.group v) (eq-eqb v v refl))) ∙ gone ys) (λ _. gone ys)

    never : ltb v 16 ≡ false → (ys : List Held) → messages_of v ys ≡ []
    never h [] = refl
    never h (y ∷ ys) = ap (map message_of) (cond-false _ _ _ (has_above y.group v h)) ∙ never h ys

    kept : (u : ℕ) → eqb u v ≡ false → (ys : List Held) → messages_of u (filter wanted (map (leaves v) ys)) ≡ messages_of u ys
    kept u e [] = refl
    kept u e (y ∷ ys) = go (cases_Bool (has y.group u)) (kept u e ys)
      where
        go : (has y.group u ≡ true) ⊎ (has y.group u ≡ false) → messages_of u (filter wanted (map (leaves v) ys)) ≡ messages_of u ys
            → messages_of u (filter wanted (map (leaves v) (y ∷ ys))) ≡ messages_of u (y ∷ ys)
        go (inl b) ih =
            let m : has (without y.group v) u ≡ true = has_without y.group v u ∙ ap (λ q. not q && has y.group u) e ∙ b in
            let w : wanted (leaves v y) ≡ true = ap not (has_not_empty (without y.group v) u m) in
            ap (messages_of u) (cond-true _ _ _ w) ∙ ap (map message_of) (cond-true _ _ _ m) ∙ ap (λ l. y.message ∷ l) ih ∙ sym (ap (map message_of) (cond-true _ _ _ b))
        go (inr b) ih =
            let m : has (without y.group v) u ≡ false = has_without y.group v u ∙ ap (λ q. not q && has y.group u) e ∙ b in
            cond_both (wanted (leaves v y)) (leaves v y ∷ filter wanted (map (leaves v) ys)) (filter wanted (map (leaves v) ys)) (λ l. messages_of u l ≡ messages_of u (y ∷ ys))
            (λ _. ap (map message_of) (cond-false _ _ _ m) ∙ ih ∙ sym (ap (map message_of) (cond-false _ _ _ b))) (λ _. ih ∙ sym (ap (map message_of) (cond-false _ _ _ b)))
