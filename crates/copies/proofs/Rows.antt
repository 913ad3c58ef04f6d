-- What a change of a table of names makes of the cells.
use Rattle.std.proofs.Common.{◌≡◌, ℕ, ◌+◌, ◌*◌, ◌/◌, ◌<◌, ◌≤◌, Bool, true, false, not, cond, eqb, ◌&&◌, ltb, List, length, get_or, refl, sym, ap, ◌∙◌, ◌⊎◌, inl, inr, ⊎_elim, arith}
use Rattle.std.proofs.lemmas.Bool.{cases_lt, cases_Bool, and_parts, and_right, eqb-true, cond-true, cond-false, ltb-true}
use Rattle.std.proofs.lemmas.Bool.Decides.{nat_tests}
use Rattle.std.proofs.lemmas.List.{get_or_past}
use Rattle.copies.specs.Rows.{cell_at}
use Rattle.copies.specs.Starts.{starting_cell}

-- two functions of two numbers are one, if they are the same at any
pub same_cells : (f g : ℕ → ℕ → ℕ) → ((v p : ℕ) → f v p ≡ g v p) → f ≡ g
same_cells f g h = λ i v p. h v p i

-- none of a group has gone over while all are left
pub none_over : (g b : Bool) (c x : ℕ) → x ≡ cond ((g && not g) && b) c x
none_over true b c x = refl
none_over false b c x = refl

-- the next of them goes over
pub one_over : (group rest : ℕ → Bool) (v w : ℕ) (b : Bool) (c x y : ℕ) → group v ≡ true → x ≡ cond ((group w && not (rest w)) && b) c y → cond (eqb w v && b) c x ≡ cond ((group w && not (not (eqb w v) && rest w)) && b) c y
one_over group rest v w b c x y member h = go b (cases_Bool (eqb w v)) h
  where
    go : (b : Bool) → (eqb w v ≡ true) ⊎ (eqb w v ≡ false) → x ≡ cond ((group w && not (rest w)) && b) c y → cond (eqb w v && b) c x ≡ cond ((group w && not (not (eqb w v) && rest w)) && b) c y
    go b (inr e) h = simp e h
    go true (inl e) h = simp (e, ap group (eqb-true w v e) ∙ member) refl
    go false (inl e) h = ap (λ z. cond z c x) (and_right (eqb w v) false refl) ∙ h ∙ ap (λ z. cond z c y) (and_right (group w && not (rest w)) false refl ∙ sym (and_right (group w && not (not (eqb w v) && rest w)) false refl))

-- and all have once none is left
pub all_over : (g r b : Bool) (c x : ℕ) → r ≡ false → cond ((g && not r) && b) c x ≡ cond (g && b) c x
all_over true r b c x e = simp e refl
all_over false r b c x e = refl

-- the number of a place is below 32
pub begun_inside : (rows : List ℕ) → ((i : ℕ) → i < 512 → get_or rows i 0 ≡ i / 16) → length rows ≡ 512 → (i : ℕ) → get_or rows i 0 < 128
begun_inside rows h l i = ⊎_elim (λ (m : i < 512). omega (arith, h i m)) (λ (m : 512 ≤ i). omega (arith, get_or_past rows i 0 (omega arith))) (cases_lt i 512)

-- each variant has the cell p at the place p
pub begun_cells : (rows : List ℕ) → ((i : ℕ) → i < 512 → get_or rows i 0 ≡ i / 16) → cell_at rows ≡ starting_cell
begun_cells rows h = same_cells (cell_at rows) starting_cell (λ v p. ⊎_elim
    (λ (e : (ltb v 16 && ltb p 32) ≡ true).
    let b = and_parts (ltb v 16) (ltb p 32) e in
    let m = ltb-true v 16 b.0 in
    let n = ltb-true p 32 b.1 in
    cond-true _ _ _ e ∙ h (p * 16 + v) (omega arith) ∙ (let z : (p * 16 + v) / 16 ≡ p = omega arith in z) ∙ sym (cond-true _ _ _ e))
    (λ (e : (ltb v 16 && ltb p 32) ≡ false). cond-false _ _ _ e ∙ sym (cond-false _ _ _ e)) (cases_Bool (ltb v 16 && ltb p 32)))

-- a place above 31 has the cell 0
pub cell_past : (rows : List ℕ) (v p : ℕ) → ltb p 32 ≡ false → cell_at rows v p ≡ 0
cell_past rows v p e = cond-false (ltb v 16 && ltb p 32) _ _ (and_right (ltb v 16) (ltb p 32) e)

-- the child has its parent's cell at one place more
pub one_copied : (group : ℕ → Bool) (now start : ℕ → ℕ → ℕ) (parent child c p w q : ℕ) → group w ≡ eqb w child → c ≡ now parent p → ((v r : ℕ) → now v r ≡ cond (eqb v child && ltb r p) (start parent r) (start v r))
    → cond (group w && eqb q p) c (now w q) ≡ cond (eqb w child && ltb q (p + 1)) (start parent q) (start w q)
one_copied group now start parent child c p w q is here h = ap (λ b. cond (b && eqb q p) c (now w q)) is ∙ ⊎_elim
    (λ (e : (eqb w child && eqb q p) ≡ true).
    let a = and_parts (eqb w child) (eqb q p) e in
    let y : q ≡ p = eqb-true q p a.1 in
    let none : ltb p p ≡ false = grind (arith, nat_tests) in
    let t : (eqb w child && ltb q (p + 1)) ≡ true = grind (arith, nat_tests) in
    cond-true _ _ _ e ∙ here ∙ h parent p ∙ cond-false _ _ _ (and_right (eqb parent child) (ltb p p) none) ∙ sym (cond-true _ _ _ t ∙ ap (start parent) y))
    (λ (e : (eqb w child && eqb q p) ≡ false).
    let t : (eqb w child && ltb q p) ≡ (eqb w child && ltb q (p + 1)) = grind (arith, nat_tests) in
    cond-false _ _ _ e ∙ h w q ∙ ap (λ b. cond b (start parent q) (start w q)) t) (cases_Bool (eqb w child && eqb q p))
