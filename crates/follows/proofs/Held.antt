-- Held messages that follow what waits: what of it matters, and what a put for a group makes of it.
use Rattle.std.proofs.Common.{◌≡◌, ℕ, Bool, true, false, cond, not, ◌&&◌, ◌||◌, ◌⊎◌, List, [], ◌∷◌, map, Some, None, sym, refl, ap, ◌∙◌, inl, inr, ⊎_elim}
use Rattle.std.specs.List.{AllByRecursion}
use Rattle.std.proofs.ByRecursion.{All-weaker}
use Rattle.std.proofs.lemmas.Bool.{cases_Bool, both_ways, cond_both, cond-true, cond-false}
use Rattle.event.specs.declared.Key.{Key}
use Rattle.event.specs.declared.Message.{Message}
use Rattle.event.specs.Keys.{key_of, same}
use Rattle.event.specs.Lists.{insert, insert_all, Distinct}
use Rattle.event.proofs.Insertion.{all_insert}
use Rattle.event.proofs.Orders.{same_refl, same_true, same_not}
use Rattle.group.specs.declared.Group.{Group}
use Rattle.group.specs.Groups.{has}
use Rattle.calendar.specs.declared.Held.{Held}
use Rattle.calendar.specs.Calls.{key_of_held, waiting}
use Rattle.calendar.specs.Laws.{message_of, messages_of}
use Rattle.calendar.proofs.Variants.{put_laws}
use Rattle.account.specs.Finds.{find, some}
use Rattle.account.proofs.Finding.{find_insert}
use Rattle.follows.specs.View.{held_for, put_all}
use Rattle.follows.specs.Follows.{Fit, HeldFollow}

pub all_both : {X : Type 0} (P Q : X → Type 0) (xs : List X) → AllByRecursion P xs → AllByRecursion Q xs → AllByRecursion (λ x. P x × Q x) xs
all_both P Q [] a b = tt
all_both P Q (x ∷ xs) a b = ((a.0, b.0), all_both P Q xs a.1 b.1)

-- the first of a variant's messages
pub messages_here : (v : ℕ) (x : Held) (xs : List Held) → has x.group v ≡ true → messages_of v (x ∷ xs) ≡ x.message ∷ messages_of v xs
messages_here v x xs e = ap (map message_of) (cond-true (has x.group v) (x ∷ waiting v xs) (waiting v xs) e)

pub messages_there : (v : ℕ) (x : Held) (xs : List Held) → has x.group v ≡ false → messages_of v (x ∷ xs) ≡ messages_of v xs
messages_there v x xs e = ap (map message_of) (cond-false (has x.group v) (x ∷ waiting v xs) (waiting v xs) e)

-- what is held for v is found among v's
abbrev pub Seen : List Held → Held → Type 0
Seen xs h = (v : ℕ) → has h.group v ≡ true → some (find (key_of h.message) (messages_of v xs)) ≡ true

pub found_held : (xs : List Held) → AllByRecursion (Seen xs) xs
found_held [] = tt
found_held (x ∷ xs) = (
  λ v e. ap (λ ms. some (find (key_of x.message) ms)) (messages_here v x xs e)
      ∙ ap some (cond-true (same (key_of x.message) (key_of x.message)) (Some x.message) (find (key_of x.message) (messages_of v xs)) (same_refl (key_of x.message))),
  All-weaker (Seen xs) (Seen (x ∷ xs)) (λ h f v e. more h v (f v e) (cases_Bool (has x.group v)) (cases_Bool (same (key_of h.message) (key_of x.message)))) xs (found_held xs),
)
  where
    more : (h : Held) (v : ℕ) → some (find (key_of h.message) (messages_of v xs)) ≡ true → (has x.group v ≡ true) ⊎ (has x.group v ≡ false)
        → (same (key_of h.message) (key_of x.message) ≡ true) ⊎ (same (key_of h.message) (key_of x.message) ≡ false)
        → some (find (key_of h.message) (messages_of v (x ∷ xs))) ≡ true
    more h v f (inl a) (inl b) = ap (λ ms. some (find (key_of h.message) ms)) (messages_here v x xs a) ∙ ap some (cond-true (same (key_of h.message) (key_of x.message)) (Some x.message) (find (key_of h.message) (messages_of v xs)) b)
    more h v f (inl a) (inr b) = ap (λ ms. some (find (key_of h.message) ms)) (messages_here v x xs a) ∙ ap some (cond-false (same (key_of h.message) (key_of x.message)) (Some x.message) (find (key_of h.message) (messages_of v xs)) b) ∙ f
    more h v f (inr a) b = ap (λ ms. some (find (key_of h.message) ms)) (messages_there v x xs a) ∙ f

module _ (live : ℕ → Bool) where
  -- one group for those that the key is not marked for
  abbrev pub Grouped : (ℕ → ℕ → Key → Bool) → Held → Type 0
  Grouped marked h = (v w : ℕ) → has h.group v ≡ true → live w ≡ true → has h.group w ≡ not (marked v w (key_of_held h))

  -- the relation looks at live variants only
  pub held_like : (held : List Held) (waits waits' : ℕ → List Message) (marked marked' : ℕ → ℕ → Key → Bool) → HeldFollow live held waits marked
      → ((v : ℕ) → live v ≡ true → waits v ≡ waits' v) → ((v w : ℕ) (j : Key) → live v ≡ true → live w ≡ true → marked v w j ≡ marked' v w j) → HeldFollow live held waits' marked'
  held_like held waits waits' marked marked' f a b = record {
    sorted = f.sorted;
    fit = f.fit;
    own = λ v l. f.own v l ∙ a v l;
    grouped = All-weaker (λ h. Fit live h × Grouped marked h) (Grouped marked') (λ h g v w e l. g.1 v w e l ∙ ap not (b v w (key_of_held h) (g.0.within v e) l)) held (all_both _ _ held f.fit f.grouped);
  }

  -- one message more, for a group of live variants that have none with its key
  module _ (group : Group) (filled : (v : ℕ) × (has group v ≡ true)) (within : (v : ℕ) → has group v ≡ true → live v ≡ true) where
    abbrev g : ℕ → Bool
    g = has group

    module _ (held : List Held) (waits : ℕ → List Message) (marked : ℕ → ℕ → Key → Bool) (f : HeldFollow live held waits marked) (m : Message)
        (fresh : (u : ℕ) → g u ≡ true → find (key_of m) (waits u) ≡ None) where
      -- marked are, of this key, one of the group and one that is not
      abbrev marked' : ℕ → ℕ → Key → Bool
      marked' u w j = cond (same j (key_of m) && (g u || g w)) (not (g u && g w)) (marked u w j)

      -- one of the group has no message with this key
      apart : (x : Held) → Fit live x → Seen held x → (v : ℕ) → same (key_of x.message) (key_of m) ≡ true → g v ≡ true → has x.group v ≡ true → ⊥
      apart x fit seen v k e d =
          both_ways (some (find (key_of x.message) (messages_of v held)))
          (ap (λ ms. some (find (key_of x.message) ms)) (f.own v (fit.within v d)) ∙ ap (λ j. some (find j (waits v))) (same_true (key_of x.message) (key_of m) k) ∙ ap some (fresh v e)) (seen v d)

      old : (x : Held) → Grouped marked x → Fit live x → Seen held x → Grouped marked' x
      old x o fit seen v w e l = go (cases_Bool (same (key_of x.message) (key_of m))) (cases_Bool (g v)) (cases_Bool (g w))
        where
          go : (same (key_of x.message) (key_of m) ≡ true) ⊎ (same (key_of x.message) (key_of m) ≡ false) → (g v ≡ true) ⊎ (g v ≡ false) → (g w ≡ true) ⊎ (g w ≡ false)
              → has x.group w ≡ not (marked' v w (key_of x.message))
          go (inr k) a b = simp k (o v w e l)
          go (inl k) (inl a) b = absurd (apart x fit seen v k a e)
          go (inl k) (inr a) (inr b) = simp (k, a, b) (o v w e l)
          go (inl k) (inr a) (inl b) = simp (k, a, b) (⊎_elim (λ (t : has x.group w ≡ true). absurd (apart x fit seen w k b t)) (λ t. t) (cases_Bool (has x.group w)))

      new : Grouped marked' (held_for group m)
      new v w e l = let a = same_refl (key_of m) in simp (a, e) (twice (g w))
        where
          twice : (b : Bool) → b ≡ not (not b)
          twice true = refl
          twice false = refl

      pub held_put : HeldFollow live (insert key_of_held (held_for group m) held) (λ u. cond (g u) (insert key_of m (waits u)) (waits u)) marked'
      held_put = record {
        sorted = (put_laws (held_for group m) held).sorted f.sorted;
        fit = all_insert key_of_held (Fit live) (held_for group m) held (record { filled = filled; within = within }) f.fit;
        own = λ v l. (put_laws (held_for group m) held).messages f.sorted v ∙ ap (λ ms. cond (g v) (insert key_of m ms) ms) (f.own v l);
        grouped = all_insert key_of_held (Grouped marked') (held_for group m) held new
            (All-weaker (λ x. Grouped marked x × (Fit live x × Seen held x)) (Grouped marked') (λ x p. old x p.0 p.1.0 p.1.1) held (all_both _ _ held f.grouped (all_both _ _ held f.fit (found_held held))));
      }

    -- several more, no two of which have one key
    pub held_put_all : (ms : List Message) (held : List Held) (waits : ℕ → List Message) (marked : ℕ → ℕ → Key → Bool) → HeldFollow live held waits marked
        → Distinct key_of ms → AllByRecursion (λ m. (u : ℕ) → g u ≡ true → find (key_of m) (waits u) ≡ None) ms
        → HeldFollow live (put_all group ms held) (λ u. cond (g u) (insert_all key_of ms (waits u)) (waits u)) (λ u w j. cond (some (find j ms) && (g u || g w)) (not (g u && g w)) (marked u w j))
    held_put_all [] held waits marked f d fresh = held_like held _ _ _ _ f (λ v l. cond_both (g v) (waits v) (waits v) (λ ms. waits v ≡ ms) (λ _. refl) (λ _. refl)) (λ v w j l k. refl)
    held_put_all (m ∷ ms) held waits marked f d fresh =
        held_like _ _ _ _ _ (held_put_all ms _ _ _ (held_put held waits marked f m fresh.0) d.1 (All-weaker _ _ (λ y p u e. still y p.0 p.1 u e) ms (all_both _ _ ms d.0 fresh.1)))
        (λ u l. waited u (cases_Bool (g u))) (λ u w j l k. marks u w j (cases_Bool (same j (key_of m))) (cases_Bool (g u || g w)) (cases_Bool (some (find j ms))))
      where
        still : (y : Message) → (key_of m ≡ key_of y → ⊥) → ((u : ℕ) → g u ≡ true → find (key_of y) (waits u) ≡ None) → (u : ℕ) → g u ≡ true → find (key_of y) (cond (g u) (insert key_of m (waits u)) (waits u)) ≡ None
        still y n p u e =
            simp e (find_insert (key_of y) m (waits u) (fresh.0 u e) ∙ cond-false (same (key_of y) (key_of m)) (Some m) (find (key_of y) (waits u)) (same_not (key_of y) (key_of m) (λ q. n (sym q))) ∙ p u e)

        waited : (u : ℕ) → (g u ≡ true) ⊎ (g u ≡ false)
            → cond (g u) (insert_all key_of ms (cond (g u) (insert key_of m (waits u)) (waits u))) (cond (g u) (insert key_of m (waits u)) (waits u)) ≡ cond (g u) (insert_all key_of (m ∷ ms) (waits u)) (waits u)
        waited u (inl e) = simp e
        waited u (inr e) = simp e

        marks : (u w : ℕ) (j : Key) → (same j (key_of m) ≡ true) ⊎ (same j (key_of m) ≡ false) → ((g u || g w) ≡ true) ⊎ ((g u || g w) ≡ false) → (some (find j ms) ≡ true) ⊎ (some (find j ms) ≡ false)
            → cond (some (find j ms) && (g u || g w)) (not (g u && g w)) (cond (same j (key_of m) && (g u || g w)) (not (g u && g w)) (marked u w j)) ≡ cond (some (find j (m ∷ ms)) && (g u || g w)) (not (g u && g w)) (marked u w j)
        marks u w j (inl a) (inl b) (inl c) = simp (a, b, c)
        marks u w j (inl a) (inl b) (inr c) = simp (a, b, c)
        marks u w j (inl a) (inr b) (inl c) = simp (a, b, c)
        marks u w j (inl a) (inr b) (inr c) = simp (a, b, c)
        marks u w j (inr a) (inl b) (inl c) = simp (a, b, c)
        marks u w j (inr a) (inl b) (inr c) = simp (a, b, c)
        marks u w j (inr a) (inr b) (inl c) = simp (a, b, c)
        marks u w j (inr a) (inr b) (inr c) = simp (a, b, c)
