-- The cells in use are as many as the groups of all places, and as the copies of the account.
use Rattle.std.proofs.Common.{◌≡◌, ℕ, ◌<◌, Bool, true, false, not, ◌&&◌, eqb, ◌⊎◌, sym, ap, ◌∙◌, inl, inr, arith}
use Rattle.std.proofs.lemmas.Bool.{cases_Bool, cases_eq, eq-eqb, ne_eqb, eqb-true, and_left, and_parts}
use Rattle.std.proofs.lemmas.Bool.Decides.{nat_tests}
use Rattle.group.specs.declared.Group.{Group}
use Rattle.group.specs.Groups.{has}
use Rattle.day.specs.declared.place.Place.{Place}
use Rattle.account.specs.Account.{ind, any_below, sum_below}
use Rattle.account.specs.Groups.{leads}
use Rattle.account.proofs.Leaders.{sum_none, any_same, sum_first}
use Rattle.copies.specs.Sharing.{groups, shares, used}
use Rattle.follows.specs.Follows.{CellsFollow}
use Rattle.follows.proofs.Below.{any_at}
use Rattle.follows.proofs.Sums.{sum_alike, sum_at, sum_one, sum_swap}

pub eqb_turned : (a b : ℕ) → eqb a b ≡ eqb b a
eqb_turned a b = grind (arith, nat_tests)

module _ (places : ℕ) (live : Group) (cell : ℕ → ℕ → ℕ)
    (inside : (v p : ℕ) → has live v ≡ true → p < places → cell v p < 128)
    (apart : (v w p q : ℕ) → has live v ≡ true → has live w ≡ true → p < places → q < places → cell v p ≡ cell w q → p ≡ q) where
  abbrev lead : ℕ → ℕ → Bool
  lead p v = leads (has live) (shares cell p) v

  abbrev on : ℕ → ℕ → ℕ → Bool
  on c p v = has live v && eqb (cell v p) c

  -- one leads those that have the cell at the place, if there are any
  at_place : (c p : ℕ) → sum_below (λ v. ind (lead p v && eqb (cell v p) c)) 16 ≡ ind (any_below (on c p) 16)
  at_place c p = sum_alike _ _ 16 (λ v l. ap ind (same v (cases_eq (cell v p) c))) ∙ sum_first (on c p) 16
    where
      same : (v : ℕ) → (cell v p ≡ c) ⊎ (cell v p ≡ c → ⊥) → (lead p v && eqb (cell v p) c) ≡ (on c p v && not (any_below (on c p) v))
      same v (inl e) =
          let a = eq-eqb (cell v p) c e in
          let b = any_same (λ w. has live w && shares cell p v w) (on c p) v (λ w. ap (λ b. has live w && b) (ap (λ i. eqb i (cell w p)) e ∙ eqb_turned c (cell w p))) in
          grind (arith, nat_tests)
      same v (inr ne) = let a = ne_eqb (cell v p) c ne in grind (arith, nat_tests)

  -- a cell serves one place only
  at_cell : (c : ℕ) → sum_below (λ p. sum_below (λ v. ind (lead p v && eqb (cell v p) c)) 16) places ≡ ind (used places cell live c)
  at_cell c =
      sum_alike _ _ places (λ p l. at_place c p)
      ∙ sum_one (λ p. any_below (on c p) 16) places (λ i j li lj x y.
      let a = any_at (on c i) 16 x in let b = any_at (on c j) 16 y in
      let s = and_parts (has live a.0) (eqb (cell a.0 i) c) a.2 in let t = and_parts (has live b.0) (eqb (cell b.0 j) c) b.2 in
      apart a.0 b.0 i j s.0 t.0 li lj (eqb-true _ _ s.1 ∙ sym (eqb-true _ _ t.1)))

  pub cells_groups : sum_below (λ c. ind (used places cell live c)) 128 ≡ groups places live (shares cell)
  cells_groups =
      sum_alike _ _ 128 (λ c l. sym (at_cell c)) ∙ sum_swap (λ c p. sum_below (λ v. ind (lead p v && eqb (cell v p) c)) 16) 128 places
      ∙ sum_alike _ _ places (λ p l. sum_swap (λ c v. ind (lead p v && eqb (cell v p) c)) 128 16 ∙ sum_alike _ _ 16 (λ v m. whole p v l (cases_Bool (has live v))))
    where
      whole : (p v : ℕ) → p < places → (has live v ≡ true) ⊎ (has live v ≡ false) → sum_below (λ c. ind (lead p v && eqb (cell v p) c)) 128 ≡ ind (lead p v)
      whole p v l (inl e) = sum_at (lead p v) (cell v p) 128 (inside v p e l)
      whole p v l (inr e) =
          let z : lead p v ≡ false = and_left (has live v) _ e in
          sum_alike (λ c. ind (lead p v && eqb (cell v p) c)) (λ _. 0) 128 (λ c l. ap (λ b. ind (b && eqb (cell v p) c)) z) ∙ sum_none 128 ∙ sym (ap ind z)

-- two share where a place is not reached for them: then the groups are the account's
pub groups_leaders : (places : ℕ) (group : Group) (live : ℕ → Bool) (share : ℕ → ℕ → ℕ → Bool) (reached : ℕ → ℕ → ℕ → Bool) → ((v : ℕ) → has group v ≡ live v)
    → ((v w p : ℕ) → live v ≡ true → live w ≡ true → p < places → share p v w ≡ not (reached v w p)) → groups places group share ≡ sum_below (λ p. sum_below (λ v. ind (leads live (λ x y. not (reached x y p)) v)) 16) places
groups_leaders places group live share reached same shared = sum_alike _ _ places (λ p l. sum_alike _ _ 16 (λ v _. ap ind (lead p v l (cases_Bool (live v)))))
  where
    like : (p v w : ℕ) → p < places → live v ≡ true → (live w ≡ true) ⊎ (live w ≡ false) → (has group w && share p v w) ≡ (live w && not (reached v w p))
    like p v w l a (inl b) = ap (λ z. z && share p v w) (same w) ∙ ap (λ z. live w && z) (shared v w p a b l)
    like p v w l a (inr b) = ap (λ z. z && share p v w) (same w) ∙ and_left (live w) _ b ∙ sym (and_left (live w) _ b)

    lead : (p v : ℕ) → p < places → (live v ≡ true) ⊎ (live v ≡ false) → leads (has group) (share p) v ≡ leads live (λ x y. not (reached x y p)) v
    lead p v l (inl a) = ap (λ b. b && not (any_below (λ w. has group w && share p v w) v)) (same v) ∙ ap (λ b. live v && not b) (any_same _ _ v (λ w. like p v w l a (cases_Bool (live w))))
    lead p v l (inr a) = ap (λ b. b && not (any_below (λ w. has group w && share p v w) v)) (same v) ∙ and_left (live v) _ a ∙ sym (and_left (live v) _ a)

pub used_copies : (places : ℕ) (group : Group) (live : ℕ → Bool) (cell : ℕ → ℕ → ℕ) (content : ℕ → Place) (place : ℕ → ℕ → Place) (reached : ℕ → ℕ → ℕ → Bool)
    → ((v : ℕ) → has group v ≡ live v) → CellsFollow places live cell content place reached
    → sum_below (λ c. ind (used places cell group c)) 128 ≡ sum_below (λ p. sum_below (λ v. ind (leads live (λ x y. not (reached x y p)) v)) 16) places
used_copies places group live cell content place reached same f =
    cells_groups places group cell (λ v p l. f.inside v p (sym (same v) ∙ l)) (λ v w p q l m. f.one_place v w p q (sym (same v) ∙ l) (sym (same w) ∙ m)) ∙ groups_leaders places group live (shares cell) reached same f.shared
