-- Cells: what matters of them, and a group that goes over to a cell of its own.
use Rattle.std.proofs.Common.{◌≡◌, ℕ, ◌<◌, Bool, true, false, cond, not, ◌&&◌, ◌||◌, eqb, ◌⊎◌, sym, refl, ap, ◌∙◌, subst, inl, inr}
use Rattle.std.proofs.lemmas.Bool.{cases_Bool, both_ways, cond_both, cond-true, cond-false, cases_eq, eq-eqb, ne_eqb, eqb-true, and_parts, and_from, and_left, and_right}
use Rattle.group.specs.declared.Group.{Group}
use Rattle.group.specs.Groups.{has}
use Rattle.day.specs.declared.place.Place.{Place}
use Rattle.copies.specs.Sharing.{move_cell, move_content}
use Rattle.follows.specs.Follows.{CellsFollow}
use Rattle.follows.proofs.Mid.{Spare}

module _ (places : ℕ) (live : ℕ → Bool) (cell : ℕ → ℕ → ℕ) (content : ℕ → Place) (place : ℕ → ℕ → Place) (reached : ℕ → ℕ → ℕ → Bool)
    (f : CellsFollow places live cell content place reached) where
  -- the relation looks at live variants and at places only
  pub cells_like : (place' : ℕ → ℕ → Place) (reached' : ℕ → ℕ → ℕ → Bool)
      → ((v p : ℕ) → live v ≡ true → p < places → place v p ≡ place' v p)
      → ((v w p : ℕ) → live v ≡ true → live w ≡ true → p < places → reached v w p ≡ reached' v w p)
      → CellsFollow places live cell content place' reached'
  cells_like place' reached' a b = record {
    holds = λ v p l h. f.holds v p l h ∙ a v p l h;
    inside = f.inside;
    one_place = f.one_place;
    shared = λ v w p l m h. f.shared v w p l m h ∙ ap not (b v w p l m h);
  }

  -- and at their cells only
  pub cells_named : (cell' : ℕ → ℕ → ℕ) (content' : ℕ → Place) → ((v p : ℕ) → live v ≡ true → p < places → cell v p ≡ cell' v p)
      → ((v p : ℕ) → live v ≡ true → p < places → content (cell v p) ≡ content' (cell' v p))
      → CellsFollow places live cell' content' place reached
  cells_named cell' content' a b = record {
    holds = λ v p l h. sym (b v p l h) ∙ f.holds v p l h;
    inside = λ v p l h. subst (λ c. c < 128) (a v p l h) (f.inside v p l h);
    one_place = λ v w p q l m h k e. f.one_place v w p q l m h k (a v p l h ∙ e ∙ sym (a w q m k));
    shared = λ v w p l m h. ap (λ c. eqb c (cell' w p)) (sym (a v p l h)) ∙ ap (eqb (cell v p)) (sym (a w p m h)) ∙ f.shared v w p l m h;
  }

  -- another register of variants, each with what one of these has
  pub cells_pull : (live' : ℕ → Bool) (o : ℕ → ℕ) → ((u : ℕ) → live' u ≡ true → live (o u) ≡ true)
      → CellsFollow places live' (λ u q. cell (o u) q) content (λ u q. place (o u) q) (λ u w q. reached (o u) (o w) q)
  cells_pull live' o on = record {
    holds = λ v p l h. f.holds (o v) p (on v l) h;
    inside = λ v p l h. f.inside (o v) p (on v l) h;
    one_place = λ v w p q l m. f.one_place (o v) (o w) p q (on v l) (on w m);
    shared = λ v w p l m. f.shared (o v) (o w) p (on v l) (on w m);
  }

  -- the group goes over to the cell t, which no other has
  module _ (group : Group) (r t : ℕ) (x : Place) (s : Spare places live cell (has group) r t) where
    stays : (u q : ℕ) → live u ≡ true → q < places → (has group u && eqb q r) ≡ false → cell u q ≡ t → ⊥
    stays u q l h e d = let a = s.apart u q l h d in both_ways (has group u && eqb q r) e (and_from (has group u) (eqb q r) a.1 (eq-eqb q r a.0))

    pub cells_move : CellsFollow places live (move_cell cell group r t) (move_content content t x)
        (λ u q. cond (has group u && eqb q r) x (place u q)) (λ u w q. cond (eqb q r && (has group u || has group w)) (not (has group u && has group w)) (reached u w q))
    cells_move = record {
      holds = λ u q l h. serve u q l h (cases_Bool (has group u && eqb q r));
      inside = λ u q l h. cond_both (has group u && eqb q r) t (cell u q) (λ c. c < 128) (λ _. s.inside) (λ _. f.inside u q l h);
      one_place = λ u w p q l m h k e. one u w p q l m h k e (cases_Bool (has group u && eqb p r)) (cases_Bool (has group w && eqb q r));
      shared = λ u w q l m h. share u w q l m h (cases_eq q r) (cases_Bool (has group u)) (cases_Bool (has group w));
    }
      where
        serve : (u q : ℕ) → live u ≡ true → q < places → ((has group u && eqb q r) ≡ true) ⊎ ((has group u && eqb q r) ≡ false)
            → move_content content t x (move_cell cell group r t u q) ≡ cond (has group u && eqb q r) x (place u q)
        serve u q l h (inl e) = let d = eq-eqb t t refl in simp (e, d)
        serve u q l h (inr e) = let d = ne_eqb (cell u q) t (stays u q l h e) in simp (e, d) (f.holds u q l h)

        one : (u w p q : ℕ) → live u ≡ true → live w ≡ true → p < places → q < places → move_cell cell group r t u p ≡ move_cell cell group r t w q
            → ((has group u && eqb p r) ≡ true) ⊎ ((has group u && eqb p r) ≡ false) → ((has group w && eqb q r) ≡ true) ⊎ ((has group w && eqb q r) ≡ false) → p ≡ q
        one u w p q l m h k e (inl a) (inl b) = eqb-true p r (and_parts (has group u) (eqb p r) a).1 ∙ sym (eqb-true q r (and_parts (has group w) (eqb q r) b).1)
        one u w p q l m h k e (inl a) (inr b) = absurd (stays w q m k b (sym (cond-false (has group w && eqb q r) t (cell w q) b) ∙ sym e ∙ cond-true (has group u && eqb p r) t (cell u p) a))
        one u w p q l m h k e (inr a) (inl b) = absurd (stays u p l h a (sym (cond-false (has group u && eqb p r) t (cell u p) a) ∙ e ∙ cond-true (has group w && eqb q r) t (cell w q) b))
        one u w p q l m h k e (inr a) (inr b) = f.one_place u w p q l m h k (sym (cond-false (has group u && eqb p r) t (cell u p) a) ∙ e ∙ cond-false (has group w && eqb q r) t (cell w q) b)

        at : (u q : ℕ) (b : Bool) → (has group u && eqb q r) ≡ b → move_cell cell group r t u q ≡ cond b t (cell u q)
        at u q b e = ap (λ c. cond c t (cell u q)) e

        share : (u w q : ℕ) → live u ≡ true → live w ≡ true → q < places → (q ≡ r) ⊎ (q ≡ r → ⊥) → (has group u ≡ true) ⊎ (has group u ≡ false) → (has group w ≡ true) ⊎ (has group w ≡ false)
            → eqb (move_cell cell group r t u q) (move_cell cell group r t w q) ≡ not (cond (eqb q r && (has group u || has group w)) (not (has group u && has group w)) (reached u w q))
        share u w q l m h (inr n) a b = let d = ne_eqb q r n in let i = and_right (has group u) (eqb q r) d in let j = and_right (has group w) (eqb q r) d in simp (i, j) (simp d (f.shared u w q l m h))
        share u w q l m h (inl e) (inl a) (inl b) = let d = eq-eqb q r e in let z = eq-eqb t t refl in simp (a, b, d, z)
        share u w q l m h (inl e) (inl a) (inr b) = let d = eq-eqb q r e in let z = ne_eqb t (cell w q) (λ k. stays w q m h (and_left (has group w) (eqb q r) b) (sym k)) in simp (a, b, d, z)
        share u w q l m h (inl e) (inr a) (inl b) = let d = eq-eqb q r e in let z = ne_eqb (cell u q) t (stays u q l h (and_left (has group u) (eqb q r) a)) in simp (a, b, d, z)
        share u w q l m h (inl e) (inr a) (inr b) = let d = eq-eqb q r e in simp (a, b, d) (f.shared u w q l m h)
