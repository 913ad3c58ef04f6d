-- The order of slots case by case: by the keys first, then part by part, and what two tests make of an ordering.
use Rattle.std.proofs.Common.{◌≡◌, ℕ, Bool, true, false, cond, ◌&&◌, ◌||◌, ◌⊎◌, sym, refl, ap, ◌∙◌, subst, inl, inr, ⊎_elim, arith, Ordering, Less, Equal, Greater}
use Rattle.std.specs.Ordering.{ordering_reverse, is_lt, is_eq}
use Rattle.std.proofs.lemmas.Bool.{cases_Bool, both_ways}
use Rattle.std.proofs.lemmas.Bool.Decides.{nat_tests}
use Rattle.event.specs.declared.Key.{Key}
use Rattle.event.specs.Keys.{before, same, then}
use Rattle.event.proofs.Orders.{chain, apart, not_back, before_ne, same_not}
use Rattle.slot.specs.Laws.{by_first, by_same}
use Rattle.slot.specs.Slots.{by_key}

pub by_later : (k l : Key) (r : Bool) → before l k ≡ true → by_key k l r ≡ false
by_later k l r h =
    ap (λ b. b || (same k l && r)) (not_back l k h) ∙ ap (λ b. b && r) (same_not k l (λ e. before_ne l k h (sym e)))

-- keys neither of which comes before the other leave it to what follows
pub by_rest : (k l : Key) (r : Bool) → before k l ≡ false → before l k ≡ false → by_key k l r ≡ r
by_rest k l r a b = by_same k l r (apart k l a b)

-- the three ways of two keys
pub data Ways (k l : Key) : Type 0 where
  first : before k l ≡ true → Ways k l
  later : before l k ≡ true → Ways k l
  equal : k ≡ l → Ways k l

pub ways : (k l : Key) → Ways k l
ways k l = go (cases_Bool (before k l)) (cases_Bool (before l k))
  where
    go : (before k l ≡ true) ⊎ (before k l ≡ false) → (before l k ≡ true) ⊎ (before l k ≡ false) → Ways k l
    go (inl a) b = first a
    go (inr a) (inl b) = later b
    go (inr a) (inr b) = equal (apart k l a b)

pub by_one : (k l : Key) (p q : Bool) → (p ≡ true → q ≡ false) → by_key k l p ≡ true → by_key l k q ≡ false
by_one k l p q f h = go (ways k l)
  where
    go : Ways k l → by_key l k q ≡ false
    go (first a) = by_later l k q a
    go (later a) = absurd (both_ways (by_key k l p) (by_later k l p a) h)
    go (equal e) = by_same l k q (sym e) ∙ f (sym (by_same k l p e) ∙ h)

pub by_chain : (k l m : Key) (p q r : Bool) → (p ≡ true → q ≡ true → r ≡ true) → by_key k l p ≡ true → by_key l m q ≡ true → by_key k m r ≡ true
by_chain k l m p q r f h g = go (ways k l) (ways l m)
  where
    go : Ways k l → Ways l m → by_key k m r ≡ true
    go (later a) w = absurd (both_ways (by_key k l p) (by_later k l p a) h)
    go (first a) (later b) = absurd (both_ways (by_key l m q) (by_later l m q b) g)
    go (equal d) (later b) = absurd (both_ways (by_key l m q) (by_later l m q b) g)
    go (first a) (first b) = by_first k m r (chain k l m a b)
    go (first a) (equal e) = by_first k m r (subst (λ x. before k x ≡ true) e a)
    go (equal d) (first b) = by_first k m r (subst (λ x. before x m ≡ true) (sym d) b)
    go (equal d) (equal e) = by_same k m r (d ∙ e) ∙ f (sym (by_same k l p d) ∙ h) (sym (by_same l m q e) ∙ g)

pub by_apart : (k l : Key) (p q : Bool) → by_key k l p ≡ false → by_key l k q ≡ false → (k ≡ l) × (p ≡ false) × (q ≡ false)
by_apart k l p q h g = go (ways k l)
  where
    go : Ways k l → (k ≡ l) × (p ≡ false) × (q ≡ false)
    go (first a) = absurd (both_ways (by_key k l p) h (by_first k l p a))
    go (later a) = absurd (both_ways (by_key l k q) g (by_first l k q a))
    go (equal e) = (e, sym (by_same k l p e) ∙ h, sym (by_same l k q (sym e)) ∙ g)

pub by_more : (k l : Key) (p q : Bool) → (p ≡ true → q ≡ true) → by_key k l p ≡ true → by_key k l q ≡ true
by_more k l p q f h = go (ways k l)
  where
    go : Ways k l → by_key k l q ≡ true
    go (first a) = by_first k l q a
    go (later a) = absurd (both_ways (by_key k l p) (by_later k l p a) h)
    go (equal e) = by_same k l q e ∙ f (sym (by_same k l p e) ∙ h)

pub then_one : (a b : ℕ) (p q : Bool) → (p ≡ true → q ≡ false) → then a b p ≡ true → then b a q ≡ false
then_one a b p q f x = ⊎_elim (λ (e : p ≡ true). let z = f e in grind (arith, nat_tests)) (λ (e : p ≡ false). grind (arith, nat_tests)) (cases_Bool p)

pub then_chain : (a b c : ℕ) (p q r : Bool) → (p ≡ true → q ≡ true → r ≡ true) → then a b p ≡ true → then b c q ≡ true → then a c r ≡ true
then_chain a b c p q r f x y =
    ⊎_elim (λ (e : p ≡ true). ⊎_elim (λ (d : q ≡ true). let z = f e d in grind (arith, nat_tests)) (λ (d : q ≡ false). grind (arith, nat_tests)) (cases_Bool q))
    (λ (e : p ≡ false). grind (arith, nat_tests)) (cases_Bool p)

pub then_apart : (a b : ℕ) (p q : Bool) → then a b p ≡ false → then b a q ≡ false → (a ≡ b) × (p ≡ false) × (q ≡ false)
then_apart a b p q x y = (grind (arith, nat_tests), grind (arith, nat_tests), grind (arith, nat_tests))

-- an ordering by two tests, whether the first comes before and whether the second does: the earlier is the greater
abbrev pub by : Bool → Bool → Ordering
by a b = cond a Greater (cond b Less Equal)

pub by_flip : (a b : Bool) → (a ≡ true → b ≡ false) → by a b ≡ ordering_reverse (by b a)
by_flip true true f = absurd (both_ways true (f refl) refl)
by_flip true false f = refl
by_flip false true f = refl
by_flip false false f = refl

pub by_less : (a b : Bool) → by a b ≡ Less → (a ≡ false) × (b ≡ true)
by_less true b h = absurd (both_ways false refl (ap is_lt h))
by_less false true h = (refl, refl)
by_less false false h = absurd (both_ways false refl (ap is_lt h))

pub by_equal : (a b : Bool) → by a b ≡ Equal → (a ≡ false) × (b ≡ false)
by_equal true b h = absurd (both_ways false refl (ap is_eq h))
by_equal false true h = absurd (both_ways false refl (ap is_eq h))
by_equal false false h = (refl, refl)

pub less_by : (a b : Bool) → (b ≡ true → a ≡ false) → b ≡ true → by a b ≡ Less
less_by true b f h = absurd (both_ways true (f h) refl)
less_by false true f h = refl
less_by false false f h = absurd (both_ways false refl h)
