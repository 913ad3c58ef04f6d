-- Keys stand in a strict order that tells any two apart.
use Rattle.std.proofs.Common.{◌≡◌, ℕ, ◌<◌, Bool, true, false, cond, ◌&&◌, ◌||◌, ltb, eqb, Ordering, Less, Equal, Greater, sym, refl, ap, ◌∙◌, subst, ⊎_elim, arith, rules}
use Rattle.std.specs.Cmp.{IsTotalOrder, IsStrictWeakOrder, unsigned_tied, tied_then, tied_itself}
use Rattle.std.specs.Cmp.Rules.{comparing}
use Rattle.std.specs.Ordering.{is_lt, is_eq, nat_cmp, ordering_then, ordering_reverse}
use Rattle.std.proofs.lemmas.Bool.{cases_Bool, and_parts, eqb-true, both_ways}
use Rattle.std.proofs.lemmas.Bool.Decides.{nat_tests}
use Rattle.std.proofs.lemmas.List.MinMax.{ranks_by}
use Rattle.event.specs.declared.Key.{Key}
use Rattle.event.specs.Keys.{key_cmp, then, before, same, StrictOrder}

-- what `<` answers of numbers, and of two parts in turn
pub lt_nat : (a b : ℕ) → is_lt (nat_cmp a b) ≡ ltb a b
lt_nat a b = by_tests (ltb a b) (eqb a b)
  where
    by_tests : (s t : Bool) → is_lt (cond s Less (cond t Equal Greater)) ≡ s
    by_tests true t = refl
    by_tests false true = refl
    by_tests false false = refl

pub lt_then : (p q : Ordering) → is_lt (ordering_then p q) ≡ (is_lt p || (is_eq p && is_lt q))
lt_then Less q = refl
lt_then Equal q = refl
lt_then Greater q = refl

pub lt_nat_then : (a b : ℕ) (q : Ordering) → is_lt (ordering_then (nat_cmp a b) q) ≡ then a b (is_lt q)
lt_nat_then a b q = lt_then (nat_cmp a b) q ∙ (λ i. lt_nat a b i || (unsigned_tied a b i && is_lt q))

pub key_total : IsTotalOrder key_cmp
key_total = search (comparing, rules)

pub is_before : (a b : Key) → is_lt (key_cmp a b) ≡ before a b
unfolding before
is_before a b =
    lt_nat_then a.time b.time _
    ∙ ap (then a.time b.time) (lt_nat_then a.receiver b.receiver _ ∙ ap (then a.receiver b.receiver) (lt_nat_then a.sender b.sender _ ∙ ap (then a.sender b.sender) (lt_nat a.number b.number)))

pub is_same : (a b : Key) → is_eq (key_cmp a b) ≡ same a b
unfolding same
is_same a b =
    sym (tied_then (nat_cmp a.time b.time) _) ∙ (λ i. unsigned_tied a.time b.time i
    && (sym (tied_then (nat_cmp a.receiver b.receiver) _) ∙ (λ j. unsigned_tied a.receiver b.receiver j
    && (sym (tied_then (nat_cmp a.sender b.sender) (nat_cmp a.number b.number)) ∙ (λ k. unsigned_tied a.sender b.sender k && unsigned_tied a.number b.number k)) j)) i)

pub ranks : IsStrictWeakOrder before
ranks = subst IsStrictWeakOrder (λ i a b. is_before a b i) (ranks_by key_total (λ k. k))

-- of two keys, one does not come before the other
pub not_back : (a b : Key) → before a b ≡ true → before b a ≡ false
not_back = ranks.one_way

pub never : (a : Key) → before a a ≡ false
never a = ⊎_elim (λ (e : before a a ≡ true). not_back a a e) (λ e. e) (cases_Bool (before a a))

-- what comes before b comes before all that does not come before b
pub through : (a b c : Key) → before a b ≡ true → before c b ≡ false → before a c ≡ true
through a b c h k = ⊎_elim (λ e. e) (λ (e : before a c ≡ false). absurd (both_ways _ (ranks.chain a c b e k) h)) (cases_Bool (before a c))

pub chain : (a b c : Key) → before a b ≡ true → before b c ≡ true → before a c ≡ true
chain a b c h k = through a b c h (not_back b c k)

pub same_true : (a b : Key) → same a b ≡ true → a ≡ b
unfolding same
same_true a b h =
    let t = and_parts _ _ h in
    let r = and_parts _ _ t.1 in
    let s = and_parts _ _ r.1 in
    let t' = eqb-true _ _ t.0 in
    let r' = eqb-true _ _ r.0 in
    let s' = eqb-true _ _ s.0 in
    let n' = eqb-true _ _ s.1 in
    λ i. record { time = t' i; receiver = r' i; sender = s' i; number = n' i }

neither : (r : Ordering) → is_lt r ≡ false → is_lt (ordering_reverse r) ≡ false → is_eq r ≡ true
neither Less h k = sym h
neither Equal h k = refl
neither Greater h k = sym k

-- what a total order puts neither way, it holds equal
pub neither_way : {K : Type 0} {R : K → K → Ordering} → IsTotalOrder R → (x y : K) → is_lt (R x y) ≡ false → is_lt (R y x) ≡ false → is_eq (R x y) ≡ true
neither_way {K} {R} o x y h k = neither (R x y) h (ap is_lt (sym (o.antisymm y x)) ∙ k)

pub apart : (a b : Key) → before a b ≡ false → before b a ≡ false → a ≡ b
apart a b h k = same_true a b (sym (is_same a b) ∙ neither_way key_total a b (is_before a b ∙ h) (is_before b a ∙ k))

pub strict_order : StrictOrder
strict_order = record { never = never; chain = chain; apart = apart }

pub sooner : (a b : Key) → a.time < b.time → before a b ≡ true
unfolding before
sooner a b h = grind (arith, nat_tests)

pub before_ne : (a b : Key) → before a b ≡ true → a ≡ b → ⊥
before_ne a b h e = both_ways (before a b) (subst (λ k. before a k ≡ false) e (never a)) h

pub same_refl : (a : Key) → same a a ≡ true
same_refl a = sym (is_same a a) ∙ ap is_eq (tied_itself key_total a)

pub same_from : (a b : Key) → a ≡ b → same a b ≡ true
same_from a b e = subst (λ k. same a k ≡ true) e (same_refl a)

pub same_not : (a b : Key) → (a ≡ b → ⊥) → same a b ≡ false
same_not a b h = ⊎_elim (λ e. absurd (h (same_true a b e))) (λ e. e) (cases_Bool (same a b))
