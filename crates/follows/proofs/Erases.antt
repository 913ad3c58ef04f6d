-- A variant leaves every group.
use Rattle.std.proofs.Common.{◌≡◌, ℕ, ◌<◌, Bool, true, false, not, ◌&&◌, eqb, ◌⊎◌, List, [], ◌∷◌, map, filter, Some, sym, refl, ap, ◌∙◌, subst, inl, inr}
use Rattle.std.specs.List.{AllByRecursion, slice_get}
use Rattle.std.proofs.lemmas.Bool.{cases_Bool, cond_both, cond-true, cond-false, eq-eqb, ne_eqb, both_ways, and_parts, and_from, lt-ltb, not-true}
use Rattle.event.specs.declared.Key.{Key}
use Rattle.event.specs.declared.Message.{Message}
use Rattle.group.specs.Groups.{has, without}
use Rattle.group.proofs.Members.{has_without, has_not_empty, not_empty_some}
use Rattle.calendar.specs.declared.Held.{Held}
use Rattle.calendar.specs.Calls.{waiting, leaves, wanted, erase}
use Rattle.calendar.proofs.Variants.{erase_laws}
use Rattle.follows.specs.Follows.{Fit, HeldFollow, EntriesFollow}
use Rattle.follows.proofs.Entries.{from_map}
use Rattle.follows.proofs.Held.{Grouped}

module _ (v : ℕ) (small : v < 16) where
  erased : (xs : List Held) → erase v xs ≡ filter wanted (map (leaves v) xs)
  erased xs = cond-true _ _ _ (lt-ltb v 16 small)

  leaves_other : (x : Held) (u : ℕ) → (u ≡ v → ⊥) → has (leaves v x).group u ≡ has x.group u
  leaves_other x u n = let a = ne_eqb u v n in has_without x.group v u ∙ ap (λ b. not b && has x.group u) a

  wanted_by : (x : Held) (u : ℕ) → (u ≡ v → ⊥) → has x.group u ≡ true → wanted (leaves v x) ≡ true
  wanted_by x u n e = ap not (has_not_empty (without x.group v) u (leaves_other x u n ∙ e))

  all_erase : (P Q : Held → Type 0) (xs : List Held) → ((x : Held) → wanted (leaves v x) ≡ true → P x → Q (leaves v x)) → AllByRecursion P xs → AllByRecursion Q (erase v xs)
  all_erase P Q xs f a = subst (AllByRecursion Q) (sym (erased xs)) (go xs a)
    where
      go : (ys : List Held) → AllByRecursion P ys → AllByRecursion Q (filter wanted (map (leaves v) ys))
      go [] b = tt
      go (y ∷ ys) b = cond_both (wanted (leaves v y)) (leaves v y ∷ filter wanted (map (leaves v) ys)) (filter wanted (map (leaves v) ys)) (AllByRecursion Q) (λ e. (f y e b.0, go ys b.1)) (λ _. go ys b.1)

  -- what another has stays
  waiting_erase : (xs : List Held) (u : ℕ) → (u ≡ v → ⊥) → waiting u (erase v xs) ≡ map (leaves v) (waiting u xs)
  waiting_erase xs u n = ap (waiting u) (erased xs) ∙ go xs
    where
      go : (ys : List Held) → waiting u (filter wanted (map (leaves v) ys)) ≡ map (leaves v) (waiting u ys)
      go [] = refl
      go (y ∷ ys) = which (cases_Bool (has y.group u)) (cases_Bool (wanted (leaves v y))) (go ys)
        where
          Goal : List Held → Type 0
          Goal zs = waiting u (filter wanted (map (leaves v) zs)) ≡ map (leaves v) (waiting u zs)

          kept : wanted (leaves v y) ≡ true → waiting u (filter wanted (map (leaves v) (y ∷ ys))) ≡ waiting u (leaves v y ∷ filter wanted (map (leaves v) ys))
          kept w = ap (waiting u) (cond-true (wanted (leaves v y)) (leaves v y ∷ filter wanted (map (leaves v) ys)) (filter wanted (map (leaves v) ys)) w)

          which : (has y.group u ≡ true) ⊎ (has y.group u ≡ false) → (wanted (leaves v y) ≡ true) ⊎ (wanted (leaves v y) ≡ false) → Goal ys → Goal (y ∷ ys)
          which (inl t) (inr w) ih = absurd (both_ways (wanted (leaves v y)) w (wanted_by y u n t))
          which (inl t) (inl w) ih = kept w ∙ cond-true _ _ _ (leaves_other y u n ∙ t) ∙ ap (λ l. leaves v y ∷ l) ih ∙ sym (ap (map (leaves v)) (cond-true (has y.group u) (y ∷ waiting u ys) (waiting u ys) t))
          which (inr t) (inl w) ih = kept w ∙ cond-false _ _ _ (leaves_other y u n ∙ t) ∙ ih ∙ sym (ap (map (leaves v)) (cond-false (has y.group u) (y ∷ waiting u ys) (waiting u ys) t))
          which (inr t) (inr w) ih =
              ap (waiting u) (cond-false (wanted (leaves v y)) (leaves v y ∷ filter wanted (map (leaves v) ys)) (filter wanted (map (leaves v) ys)) w)
              ∙ ih ∙ sym (ap (map (leaves v)) (cond-false (has y.group u) (y ∷ waiting u ys) (waiting u ys) t))

  module _ (live : ℕ → Bool) where
    pub was : (u : ℕ) → (live u && not (eqb u v)) ≡ true → live u ≡ true
    was u l = (and_parts (live u) (not (eqb u v)) l).0

    other : (u : ℕ) → (live u && not (eqb u v)) ≡ true → u ≡ v → ⊥
    other u l e = both_ways (eqb u v) (not-true _ (and_parts (live u) (not (eqb u v)) l).1) (eq-eqb u v e)

    not_same : (u : ℕ) → eqb u v ≡ false → u ≡ v → ⊥
    not_same u a e = both_ways (eqb u v) a (eq-eqb u v e)

    fit_leaves : (x : Held) → wanted (leaves v x) ≡ true → Fit live x → Fit (λ u. live u && not (eqb u v)) (leaves v x)
    fit_leaves x w f = record {
      filled = not_empty_some x.group v small (not-true _ w);
      within = λ u t. let p = and_parts (not (eqb u v)) (has x.group u) (sym (has_without x.group v u) ∙ t) in and_from (live u) (not (eqb u v)) (f.within u p.1) p.0;
    }

    pub held_erase : (held : List Held) (waits : ℕ → List Message) (marked : ℕ → ℕ → Key → Bool) → HeldFollow live held waits marked → HeldFollow (λ u. live u && not (eqb u v)) (erase v held) waits marked
    held_erase held waits marked f = record {
      sorted = (erase_laws v held).sorted f.sorted;
      fit = all_erase (Fit live) (Fit (λ u. live u && not (eqb u v))) held fit_leaves f.fit;
      own = λ u l. (erase_laws v held).others u (ne_eqb u v (other u l)) ∙ f.own u (was u l);
      grouped = all_erase (Grouped live marked) (Grouped (λ u. live u && not (eqb u v)) marked) held
          (λ x s g u w e l. leaves_other x w (other w l) ∙ g u w (and_parts (not (eqb u v)) (has x.group u) (sym (has_without x.group v u) ∙ e)).1 (was w l)) f.grouped;
    }

    pub entries_erase : (entries : List Held) (journal : ℕ → List Message) (joint : ℕ → ℕ → ℕ → Bool) → EntriesFollow live entries journal joint → EntriesFollow (λ u. live u && not (eqb u v)) (erase v entries) journal joint
    entries_erase entries journal joint f = record {
      fit = all_erase (Fit live) (Fit (λ u. live u && not (eqb u v))) entries fit_leaves f.fit;
      written = λ u l. (erase_laws v entries).others u (ne_eqb u v (other u l)) ∙ f.written u (was u l);
      jointly = λ u w i e l k h.
          let r = from_map (leaves v) (waiting u entries) i e (subst (λ (xs : List Held). slice_get xs i ≡ Some e) (waiting_erase entries u (other u l)) h) in
          ap (λ x. has x.group w) (sym r.2) ∙ leaves_other r.0 w (other w k) ∙ f.jointly u w i r.0 (was u l) (was w k) r.1;
    }
