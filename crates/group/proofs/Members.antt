-- The members of a group after each operation.
use Rattle.std.proofs.Common.{◌≡◌, ℕ, zero, suc, ◌-◌, ◌^◌, ◌<◌, Bool, true, false, not, ◌&&◌, ◌||◌, eqb, ltb, ◌⊎◌, sym, refl, ap, ◌∙◌, inl, inr, ⊎_elim, arith}
use lib.Bits.{bit_or, bit_and}
use lib.Count.{count_trailing_zeros, ones}
use Rattle.std.proofs.lemmas.Nat.{and_le_r, pow_below}
use Rattle.std.proofs.lemmas.Bool.{cases_Bool, cond_both, ltb-true, lt-ltb, eqb-true, and_from, and_left, and_right, both_ways, cond-false}
use Rattle.std.proofs.lemmas.Bool.Decides.{nat_tests}
use Rattle.group.specs.declared.Group.{Group}
use Rattle.group.specs.Groups.{gathered, has, none, with, without, joined, shared, apart, is_empty, count}
use Rattle.group.proofs.Bits.{lit, lit_or, lit_and, lit_pow, lit_rest, bit_none, zeros_below, one_there, count_same, ones_count}

pub has_above : (g : Group) (w : ℕ) → ltb w 16 ≡ false → has g w ≡ false
unfolding has
has_above g w h = and_left (ltb w 16) (lit g.mask w) h

pub has_none : (w : ℕ) → has none w ≡ false
unfolding has
has_none w = let e = bit_none w in grind (arith, nat_tests)

pub has_joined : (g h : Group) (w : ℕ) → has (joined g h) w ≡ (has g w || has h w)
unfolding has
has_joined g h w = let e = lit_or g.mask h.mask w in grind (arith, nat_tests)

pub has_shared : (g h : Group) (w : ℕ) → has (shared g h) w ≡ (has g w && has h w)
unfolding has
has_shared g h w = let e = lit_and g.mask h.mask w in grind (arith, nat_tests)

pub has_apart : (g h : Group) (w : ℕ) → h.mask < 65536 → has (apart g h) w ≡ (has g w && not (has h w))
unfolding has
has_apart g h w l = ⊎_elim
    (λ (b : ltb w 16 ≡ true).
    let e = lit_and g.mask (65535 - h.mask) w in
    let f = lit_rest 16 h.mask w l (ltb-true w 16 b) in
    grind (arith, nat_tests))
    (λ (b : ltb w 16 ≡ false). simp b) (cases_Bool (ltb w 16))

pub has_with : (g : Group) (v w : ℕ) → has (with g v) w ≡ ((ltb v 16 && eqb w v) || has g w)
unfolding has with
has_with g v w = ⊎_elim
    (λ (b : ltb v 16 ≡ true).
    let e = lit_or g.mask (2 ^ v) w in
    let f = lit_pow v w in
    simp b (ways (ltb w 16) (lit (bit_or g.mask (2 ^ v)) w) (lit g.mask w) (lit (2 ^ v) w) (eqb w v) e f (λ q. inside q b)))
    (λ (b : ltb v 16 ≡ false). simp b) (cases_Bool (ltb v 16))
  where
    inside : eqb w v ≡ true → ltb v 16 ≡ true → ltb w 16 ≡ true
    inside q b = ap (λ x. ltb x 16) (eqb-true w v q) ∙ b

    ways : (t o a p q : Bool) → o ≡ (a || p) → p ≡ q → (q ≡ true → t ≡ true) → (t && o) ≡ (q || (t && a))
    ways true o true p true e f h = e
    ways true o true p false e f h = e
    ways true o false p true e f h = e ∙ f
    ways true o false p false e f h = e ∙ f
    ways false o a p true e f h = h refl
    ways false o a p false e f h = refl

-- a variant above 15 joins no group and leaves none
pub with_above : (g : Group) (v : ℕ) → ltb v 16 ≡ false → with g v ≡ g
unfolding with
with_above g v h = cond-false _ _ _ h

pub without_above : (g : Group) (v : ℕ) → ltb v 16 ≡ false → without g v ≡ g
unfolding without
without_above g v h = cond-false _ _ _ h

pub has_without : (g : Group) (v w : ℕ) → has (without g v) w ≡ (not (eqb w v) && has g w)
unfolding has without
has_without g v w = ⊎_elim
    (λ (b : ltb v 16 ≡ true). simp b (⊎_elim
    (λ (a : ltb w 16 ≡ true).
    let e = lit_and g.mask (65535 - 2 ^ v) w in
    let f = lit_rest 16 (2 ^ v) w (pow_below v 16 (ltb-true v 16 b)) (ltb-true w 16 a) in
    let p = lit_pow v w in
    simp a (ways (lit (bit_and g.mask (65535 - 2 ^ v)) w) (lit g.mask w) (lit (65535 - 2 ^ v) w) (lit (2 ^ v) w) (eqb w v) e f p))
    (λ (a : ltb w 16 ≡ false). simp a (sym (none_left (eqb w v)))) (cases_Bool (ltb w 16))))
    (λ (b : ltb v 16 ≡ false). simp b (outside (cases_Bool (eqb w v)) b)) (cases_Bool (ltb v 16))
  where
    none_left : (q : Bool) → (not q && false) ≡ false
    none_left true = refl
    none_left false = refl

    ways : (o a r p q : Bool) → o ≡ (a && r) → r ≡ not p → p ≡ q → o ≡ (not q && a)
    ways o true r p true e f h = e ∙ f ∙ ap not h
    ways o true r p false e f h = e ∙ f ∙ ap not h
    ways o false r p true e f h = e
    ways o false r p false e f h = e

    outside : (eqb w v ≡ true) ⊎ (eqb w v ≡ false) → ltb v 16 ≡ false → (ltb w 16 && lit g.mask w) ≡ (not (eqb w v) && (ltb w 16 && lit g.mask w))
    outside (inl q) b = let l : ltb w 16 ≡ false = ap (λ x. ltb x 16) (eqb-true w v q) ∙ b in simp (q, l)
    outside (inr q) b = simp q

pub empty_none : (g : Group) → is_empty g ≡ true → (w : ℕ) → has g w ≡ false
unfolding has is_empty
empty_none g h w = let e : g.mask ≡ 0 = eqb-true g.mask 0 h in let f = bit_none w in rw e (grind (arith, nat_tests))

-- a group with a member is not empty
pub has_not_empty : (g : Group) (w : ℕ) → has g w ≡ true → is_empty g ≡ false
has_not_empty g w h = ⊎_elim (λ (e : is_empty g ≡ true). absurd (both_ways (has g w) (empty_none g e w) h)) (λ e. e) (cases_Bool (is_empty g))

-- the smallest variant of a group that is not empty
pub least_first : (g : Group) → is_empty g ≡ false → g.mask < 65536 → (has g (count_trailing_zeros 16 g.mask) ≡ true) × ((w : ℕ) → w < count_trailing_zeros 16 g.mask → has g w ≡ false)
unfolding has is_empty
least_first g p h =
    let some : 0 < g.mask = grind (arith, nat_tests) in
    let at = one_there 16 g.mask some h in (
      and_from (ltb (count_trailing_zeros 16 g.mask) 16) (lit g.mask (count_trailing_zeros 16 g.mask)) (lt-ltb _ _ at.0) (ap (λ x. eqb x 1) at.1),
      λ w l. and_right (ltb w 16) (lit g.mask w) (ap (λ x. eqb x 1) (zeros_below 16 g.mask w l)),
    )

pub not_empty_least : (g : Group) → g.mask < 65536 → is_empty g ≡ false → (w : ℕ) × (has g w ≡ true)
not_empty_least g h e = (count_trailing_zeros 16 g.mask, (least_first g e h).0)

pub ones_members : (g : Group) → g.mask < 65536 → ones g.mask ≡ count (has g) 16
unfolding has
ones_members g h =
    ones_count 16 g.mask h
    ∙ count_same (lit g.mask) (λ v. ltb v 16 && lit g.mask v) 16 (λ v l. sym (ap (λ b. b && lit g.mask v) (lt-ltb v 16 l)))

-- a group gathered by a test has those that pass
pub has_gathered : (f : ℕ → Bool) (n w : ℕ) → has (gathered f n) w ≡ (ltb w 16 && (ltb w n && f w))
unfolding gathered
has_gathered f zero w = has_none w ∙ none_below w (f w)
  where
    none_below : (w : ℕ) (b : Bool) → false ≡ (ltb w 16 && (ltb w 0 && b))
    none_below w b = grind (arith, nat_tests)
has_gathered f (suc n) w =
    cond_both (f n) (with (gathered f n) n) (gathered f n) (λ g. has g w ≡ (ltb w 16 && (ltb w (suc n) && f w)))
    (λ t. has_with (gathered f n) n w ∙ ap (λ b. (ltb n 16 && eqb w n) || b) (has_gathered f n w) ∙ one_more w n (f w) (λ e. ap f e ∙ t))
    (λ t. has_gathered f n w ∙ no_more w n (f w) (λ e. ap f e ∙ t))
  where
    one_more : (w n : ℕ) (b : Bool) → (w ≡ n → b ≡ true) → ((ltb n 16 && eqb w n) || (ltb w 16 && (ltb w n && b))) ≡ (ltb w 16 && (ltb w (suc n) && b))
    one_more w n b h = grind (arith, nat_tests)

    no_more : (w n : ℕ) (b : Bool) → (w ≡ n → b ≡ false) → (ltb w 16 && (ltb w n && b)) ≡ (ltb w 16 && (ltb w (suc n) && b))
    no_more w n b h = grind (arith, nat_tests)

without_small : (g : Group) (v : ℕ) → v < 16 → (without g v).mask < 65536
unfolding without
without_small g v l = let b = lt-ltb v 16 l in let a = and_le_r g.mask (65535 - 2 ^ v) in simp b (omega arith)

-- a group that a variant has left is empty, or has another
pub not_empty_some : (g : Group) (v : ℕ) → v < 16 → is_empty (without g v) ≡ false → (w : ℕ) × (has (without g v) w ≡ true)
not_empty_some g v l e = not_empty_least (without g v) (without_small g v l) e
