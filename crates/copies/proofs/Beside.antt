-- The groups beside the cells, and what a change makes of them.
use Rattle.std.proofs.Common.{◌≡◌, ℕ, ◌+◌, ◌*◌, ◌/◌, ◌<◌, Bool, true, false, not, cond, eqb, ltb, ◌&&◌, ◌||◌, List, length, get_or, get_or-set_same, get_or-set_other, slice_set, replicate, refl, sym, ap, ◌∙◌, ⊎_elim, arith}
use Rattle.std.proofs.lemmas.Bool.{cases_Bool, and_parts, and_from, and_right, both_ways, eqb-true, eq-eqb, cond-true, cond-false, lt-ltb}
use Rattle.std.proofs.lemmas.Bool.Decides.{nat_tests}
use Rattle.std.proofs.lemmas.List.{get_or-replicate}
use Rattle.group.specs.declared.Group.{Group}
use Rattle.group.specs.Groups.{has, none}
use Rattle.copies.specs.Rows.{Shared, cell_at, group_at}
use Rattle.copies.specs.Starts.{starting_cell}
use Rattle.copies.proofs.Members.{member_small}
use Rattle.copies.proofs.Rows.{begun_cells}

-- one group is changed
pub group_set : (sharing : List Group) (v p u q : ℕ) (g : Group) → v < 16 → p < 32 → u < 16 → length sharing ≡ 512 → group_at (slice_set sharing (p * 16 + v) g) u q ≡ cond (eqb u v && eqb q p) g (group_at sharing u q)
group_set sharing v p u q g l m k n = ⊎_elim
    (λ (e : (eqb u v && eqb q p) ≡ true).
    let a = and_parts (eqb u v) (eqb q p) e in
    let x : u ≡ v = eqb-true u v a.0 in
    let y : q ≡ p = eqb-true q p a.1 in
    let i : q * 16 + u ≡ p * 16 + v = omega (arith, x, y) in
    ap (λ j. get_or (slice_set sharing (p * 16 + v) g) j none) i ∙ get_or-set_same sharing (p * 16 + v) g none (omega (arith, l, m, n)) ∙ sym (cond-true _ _ _ e))
    (λ (e : (eqb u v && eqb q p) ≡ false).
    get_or-set_other sharing (p * 16 + v) (q * 16 + u) g none (λ s. both_ways (eqb u v && eqb q p) e (and_from (eqb u v) (eqb q p) (eq-eqb u v (omega (arith, s, l, k))) (eq-eqb q p (omega (arith, s, l, k)))))
    ∙ sym (cond-false _ _ _ e)) (cases_Bool (eqb u v && eqb q p))

-- what the group beside a variant's cell becomes: all that are there, or those that have not gone
abbrev pub regroup : (there gone : Group) (before : ℕ → ℕ → Group) → ℕ → ℕ → ℕ → Bool
regroup there gone before v p w = cond (has there v) (has there w) (has (before v p) w && not (has gone w))

-- the next variant's group is changed
pub one_regrouped : (there gone r : Group) (now start : ℕ → ℕ → Group) (u v p q w : ℕ) → has (now u q) w ≡ cond (ltb u v && eqb q p) (regroup there gone start u q w) (has (start u q) w) → has (now v p) w ≡ cond (ltb v v && eqb p p) (regroup there gone start v p w) (has (start v p) w)
    → has r w ≡ regroup there gone now v p w → has (cond (eqb u v && eqb q p) r (now u q)) w ≡ cond (ltb u (v + 1) && eqb q p) (regroup there gone start u q w) (has (start u q) w)
one_regrouped there gone r now start u v p q w h k is = ⊎_elim
    (λ (e : (eqb u v && eqb q p) ≡ true).
    let a = and_parts (eqb u v) (eqb q p) e in
    let x : u ≡ v = eqb-true u v a.0 in
    let y : q ≡ p = eqb-true q p a.1 in
    let z : (ltb v v && eqb p p) ≡ false = grind (arith, nat_tests) in
    let t : (ltb u (v + 1) && eqb q p) ≡ true = grind (arith, nat_tests) in
    ap (λ g. has g w) (cond-true _ r (now u q) e) ∙ is ∙ ap (λ b. cond (has there v) (has there w) (b && not (has gone w))) (k ∙ cond-false _ _ _ z) ∙ sym (cond-true _ _ _ t ∙ (λ i. regroup there gone start (x i) (y i) w)))
    (λ (e : (eqb u v && eqb q p) ≡ false).
    let t : (ltb u v && eqb q p) ≡ (ltb u (v + 1) && eqb q p) = grind (arith, nat_tests) in
    ap (λ g. has g w) (cond-false _ r (now u q) e) ∙ h ∙ ap (λ b. cond b (regroup there gone start u q w) (has (start u q) w)) t) (cases_Bool (eqb u v && eqb q p))

-- who is in the changed group of a variant has the cell that the variant has now
there_now : (kv gv gw kw : Bool) (a b c : ℕ) → kv ≡ true → (gw ≡ true → kw ≡ true) → cond ((kv && eqb a c) || gv) ((kw && eqb b c) || gw) ((kw && eqb b a) && not gw) ≡ (kw && eqb (cond (gw && true) c b) (cond (gv && true) c a))
there_now kv gv gw kw a b c k h = grind (arith, nat_tests)

-- once a group has gone over to a cell, the changed groups are those of the cells that all have now
pub moved_shared : (rows new : List ℕ) (sharing beside : List Group) (gone there : Group) (p c : ℕ) → ((v q : ℕ) → v < 16 → q < 32 → Shared rows sharing v q) → ((w : ℕ) → has there w ≡ ((ltb w 16 && eqb (cell_at rows w p) c) || has gone w))
    → ((w q : ℕ) → cell_at new w q ≡ cond (has gone w && eqb q p) c (cell_at rows w q))
    → ((v q w : ℕ) → v < 16 → q < 32 → has (group_at beside v q) w ≡ cond (eqb q p) (regroup there gone (group_at sharing) v q w) (has (group_at sharing v q) w)) → (v q : ℕ) → v < 16 → q < 32 → Shared new beside v q
moved_shared rows new sharing beside gone there p c held is cells groups v q l m w = groups v q w l m ∙ ⊎_elim
    (λ (e : eqb q p ≡ true).
    let y : q ≡ p = eqb-true q p e in
    let moved = λ (u : ℕ). cells u q ∙ ap (λ b. cond (has gone u && b) c (cell_at rows u q)) e in
    cond-true _ _ _ e
    ∙ (λ i. cond (at_place v y i) (at_place w y i) (held v q l m w i && not (has gone w)))
    ∙ there_now (ltb v 16) (has gone v) (has gone w) (ltb w 16) (cell_at rows v q) (cell_at rows w q) c (lt-ltb v 16 l) (λ t. lt-ltb w 16 (member_small gone w t))
    ∙ sym (λ i. ltb w 16 && eqb (moved w i) (moved v i)))
    (λ (e : eqb q p ≡ false). cond-false _ _ _ e ∙ held v q l m w ∙ sym (λ i. ltb w 16 && eqb (stays w e i) (stays v e i))) (cases_Bool (eqb q p))
  where
    at_place : (u : ℕ) → q ≡ p → has there u ≡ ((ltb u 16 && eqb (cell_at rows u q) c) || has gone u)
    at_place u y = is u ∙ sym (ap (λ r. (ltb u 16 && eqb (cell_at rows u r) c) || has gone u) y)

    stays : (u : ℕ) → eqb q p ≡ false → cell_at new u q ≡ cell_at rows u q
    stays u e = cells u q ∙ cond-false _ _ _ (and_right (has gone u) (eqb q p) e)

-- as a study begins, all sixteen share each place
pub begun_shared : (rows : List ℕ) → ((i : ℕ) → i < 512 → get_or rows i 0 ≡ i / 16) → (all : Group) → ((w : ℕ) → has all w ≡ ltb w 16) → (v p : ℕ) → v < 16 → p < 32 → Shared rows (replicate 512 all) v p
begun_shared rows h all is v p l m w =
    ap (λ g. has g w) (get_or-replicate 512 (p * 16 + v) all none (omega (arith, l, m)))
    ∙ is w
    ∙ both_small (ltb w 16) _ (λ e. let e1 = ap (λ f. f w p) begun in let e2 = ap (λ f. f v p) begun in eq-eqb _ _ (e1 ∙ cond-true _ _ _ (and_from (ltb w 16) (ltb p 32) e (lt-ltb p 32 m)) ∙ sym (e2 ∙ cond-true _ _ _ (and_from (ltb v 16) (ltb p 32) (lt-ltb v 16 l) (lt-ltb p 32 m)))))
  where
    begun : cell_at rows ≡ starting_cell
    begun = begun_cells rows h

    both_small : (a b : Bool) → (a ≡ true → b ≡ true) → a ≡ (a && b)
    both_small true b k = sym (k refl)
    both_small false b k = refl
