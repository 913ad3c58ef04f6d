-- There are as many leaders as groups.
use Rattle.std.proofs.Common.{◌≡◌, ℕ, zero, suc, ◌+◌, Bool, true, false, cond, not, ◌&&◌, ◌||◌, ◌⊎◌, List, [], ◌∷◌, length, sym, refl, ap, ◌∙◌, inl, inr, ⊎_elim, arith}
use Rattle.std.specs.List.{AllByRecursion}
use Rattle.std.proofs.lemmas.Bool.{cases_Bool, cond_both}
use Rattle.std.proofs.lemmas.Bool.Decides.{nat_tests}
use Rattle.account.specs.Account.{ind, any_below, sum_below}
use Rattle.account.specs.Groups.{count, leads, LeadersCount}
use Rattle.account.proofs.Counts.{sum_plus}

pub sum_same : (f g : ℕ → ℕ) (n : ℕ) → ((v : ℕ) → f v ≡ g v) → sum_below f n ≡ sum_below g n
unfolding sum_below
sum_same f g zero h = refl
sum_same f g (suc n) h = let a = sum_same f g n h in let b = h n in omega arith

pub sum_none : (n : ℕ) → sum_below (λ v. 0) n ≡ 0
unfolding sum_below
sum_none zero = refl
sum_none (suc n) = let a = sum_none n in omega arith

pub any_same : (f g : ℕ → Bool) (n : ℕ) → ((v : ℕ) → f v ≡ g v) → any_below f n ≡ any_below g n
unfolding any_below
any_same f g zero h = refl
any_same f g (suc n) h = ap (λ b. b || any_below f n) (h n) ∙ ap (λ b. g n || b) (any_same f g n h)

abbrev pub least_in : ℕ → (ℕ → Bool) → Bool
least_in v g = g v && not (any_below g v)

-- one set has one least, if it has any
pub sum_first : (q : ℕ → Bool) (n : ℕ) → sum_below (λ v. ind (least_in v q)) n ≡ ind (any_below q n)
unfolding sum_below any_below
sum_first q zero = refl
sum_first q (suc n) = let a = sum_first q n in ⊎_elim (λ (e : q n ≡ true). ⊎_elim (λ (d : any_below q n ≡ true). grind (arith, nat_tests)) (λ (d : any_below q n ≡ false). grind (arith, nat_tests)) (cases_Bool (any_below q n))) (λ (e : q n ≡ false). grind (arith, nat_tests)) (cases_Bool (q n))

-- sets that are not empty are as many as their least ones
pub sets_least : (n : ℕ) (gs : List (ℕ → Bool)) → AllByRecursion (λ g. any_below g n ≡ true) gs → length gs ≡ sum_below (λ v. count (least_in v) gs) n
sets_least n [] h = sym (sum_none n)
sets_least n (g ∷ gs) h =
    let a = sum_first g n ∙ ap ind h.0 in let b = sets_least n gs h.1 in
    let d = sum_plus (λ v. ind (least_in v g)) (λ v. count (least_in v) gs) n in
    omega (arith, a, b, d)

-- which of its groups v is least in
count_of_least : (among : ℕ → Bool) (alike : ℕ → ℕ → Bool) (v : ℕ) (gs : List (ℕ → Bool)) → AllByRecursion (λ g. (v w : ℕ) → g v ≡ true → g w ≡ (among w && alike v w)) gs
    → count (least_in v) gs ≡ cond (any_below (λ w. among w && alike v w) v) 0 (count (λ g. g v) gs)
count_of_least among alike v [] h = cond_both (any_below (λ w. among w && alike v w) v) 0 0 (λ z. 0 ≡ z) (λ _. refl) (λ _. refl)
count_of_least among alike v (g ∷ gs) h = go (cases_Bool (g v)) (cases_Bool (any_below (λ w. among w && alike v w) v)) (count_of_least among alike v gs h.1)
  where
    b : Bool
    b = any_below (λ w. among w && alike v w) v

    go : (g v ≡ true) ⊎ (g v ≡ false) → (any_below (λ w. among w && alike v w) v ≡ true) ⊎ (any_below (λ w. among w && alike v w) v ≡ false)
        → count (least_in v) gs ≡ cond (any_below (λ w. among w && alike v w) v) 0 (count (λ g. g v) gs)
        → ind (least_in v g) + count (least_in v) gs ≡ cond (any_below (λ w. among w && alike v w) v) 0 (ind (g v) + count (λ g. g v) gs)
    go (inl e) (inl d) ih = let q = any_same g (λ w. among w && alike v w) v (λ w. h.0 v w e) ∙ d in grind (arith, nat_tests)
    go (inl e) (inr d) ih = let q = any_same g (λ w. among w && alike v w) v (λ w. h.0 v w e) ∙ d in grind (arith, nat_tests)
    go (inr e) (inl d) ih = grind (arith, nat_tests)
    go (inr e) (inr d) ih = grind (arith, nat_tests)

pub leaders_count : LeadersCount
leaders_count n among alike gs h = sets_least n gs h.filled ∙ sum_same _ _ n one
  where
    one : (v : ℕ) → count (least_in v) gs ≡ ind (leads among alike v)
    one v =
        let a = count_of_least among alike v gs h.whole in let b = h.once v in
        ⊎_elim (λ (e : among v ≡ true). ⊎_elim (λ (d : any_below (λ w. among w && alike v w) v ≡ true). grind (arith, nat_tests)) (λ (d : any_below (λ w. among w && alike v w) v ≡ false). grind (arith, nat_tests)) (cases_Bool (any_below (λ w. among w && alike v w) v)))
        (λ (e : among v ≡ false). grind (arith, nat_tests)) (cases_Bool (among v))
