-- The marks of cells.
use Rattle.std.proofs.Common.{◌≡◌, ℕ, zero, suc, ◌+◌, ◌<◌, ◌≤◌, Bool, true, false, ◌||◌, eqb, List, length, get_or, slice_set, sym, refl, ap, ◌∙◌, ⊎_elim, add-one, get_or-set_same, get_or-set_other, Some, None, arith}
use Rattle.std.proofs.lemmas.Bool.{cases_eq, eq-eqb, ne_eqb, cond-true, cond-false}
use Rattle.std.specs.List.{find, range_with_len}
use Rattle.account.specs.Account.{any_below}

-- none below 0, and one number more
pub any_none : (f : ℕ → Bool) → any_below f 0 ≡ false
unfolding any_below
any_none f = refl

pub any_more : (f : ℕ → Bool) (n : ℕ) → any_below f (n + 1) ≡ (f n || any_below f n)
unfolding any_below
any_more f n = ap (any_below f) (add-one n)

-- a cell is marked once that of v is too
pub one_marked : (marks : List Bool) (k c : ℕ) (f : ℕ → Bool) (v : ℕ) (before : Bool) → k < length marks → f v ≡ eqb k c → get_or marks c false ≡ (any_below f v || before) → get_or (slice_set marks k true) c false ≡ (any_below f (v + 1) || before)
one_marked marks k c f v before l e h =
    ⊎_elim
    (λ (s : k ≡ c). ap (λ i. get_or (slice_set marks k true) i false) (sym s) ∙ get_or-set_same marks k true false l ∙ sym (ap (λ b. (b || any_below f v) || before) (e ∙ eq-eqb k c s)))
    (λ (ne : k ≡ c → ⊥). get_or-set_other marks k c true false (λ s. ne (sym s)) ∙ h ∙ sym (ap (λ b. (b || any_below f v) || before) (e ∙ ne_eqb k c ne))) (cases_eq k c)
    ∙ sym (ap (λ b. b || before) (any_more f v))

-- and nothing is marked where v is not of them
pub none_marked : (f : ℕ → Bool) (v : ℕ) (before mark : Bool) → f v ≡ false → mark ≡ (any_below f v || before) → mark ≡ (any_below f (v + 1) || before)
none_marked f v before mark e h = h ∙ sym (ap (λ b. b || before) (any_more f v ∙ ap (λ b. b || any_below f v) e))

-- the first of some numbers that passes
pub finds_first : (f : ℕ → Bool) (a n c : ℕ) → a ≤ c → c < a + n → ((x : ℕ) → a ≤ x → x < c → f x ≡ false) → f c ≡ true → find f (range_with_len a n) ≡ Some c
finds_first f a zero c l m low at = absurd (omega (arith, l, m))
finds_first f a (suc n) c l m low at = ⊎_elim
    (λ (e : a ≡ c). cond-true _ _ _ (ap f e ∙ at) ∙ ap Some e)
    (λ (ne : a ≡ c → ⊥). cond-false _ _ _ (low a (omega arith) (omega (arith, l, ne))) ∙ ap (λ b. find f (range_with_len b n)) (add-one a) ∙ finds_first f (suc a) n c (omega (arith, l, ne)) (omega (arith, m)) (λ x b k. low x (omega (arith, b)) k) at) (cases_eq a c)

-- and none, where none passes
pub finds_none : (f : ℕ → Bool) (a n : ℕ) → ((x : ℕ) → a ≤ x → x < a + n → f x ≡ false) → find f (range_with_len a n) ≡ None
finds_none f a zero low = refl
finds_none f a (suc n) low = cond-false _ _ _ (low a (omega arith) (omega arith)) ∙ ap (λ b. find f (range_with_len b n)) (add-one a) ∙ finds_none f (suc a) n (λ x b k. low x (omega (arith, b)) (omega (arith, k)))
