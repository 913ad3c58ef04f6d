-- Load, branch, decide, waive and retire keep the account sound.
use Rattle.std.proofs.Common.{◌≡◌, ℕ, ◌<◌, true, false, not, ◌&&◌, ◌||◌, eqb, ◌⊎◌, List, sym, refl, ap, ◌∙◌, subst, inl, inr, ⊎_elim, arith}
use Rattle.std.specs.List.{AllByRecursion}
use Rattle.std.proofs.lemmas.Bool.{cases_Bool, both_ways, cond_both, cond-true, cond-false, cases_eq, eq-eqb, ne_eqb, eqb-true, or_cases, or_parts, or_from, or_left, or_right, and_parts, and_from, not_from_false}
use Rattle.std.proofs.lemmas.Bool.Decides.{nat_tests}
use Rattle.event.specs.declared.Start.{Start}
use Rattle.event.specs.declared.Key.{Key}
use Rattle.account.specs.Finds.{find}
use Rattle.model.specs.Meaning.{Meaning, Law}
use Rattle.day.specs.Day.{ordered, ordered_place}
use Rattle.day.specs.Tidy.{Tidy}
use Rattle.account.specs.Account.{Account, empty, origin, fed_load, fed_branch, fed_decide, fed_waive, fed_retire}
use Rattle.account.specs.Sound.{Sound}
use Rattle.day.proofs.Tidy.{tidy_order, tidy_starts}

pub empty_sound : (M : Meaning) → Sound M (empty M)
empty_sound M = record {
  given = λ v h. absurd (both_ways false refl h);
  few = omega arith;
  permitted = λ v h. absurd (both_ways false refl h);
  reached_self = λ v p. refl;
  marked_self = λ v k. refl;
  reached_sym = λ v w p. refl;
  marked_sym = λ v w k. refl;
  reached_through = λ u v w p a b c x y. refl;
  marked_through = λ u v w k m a b c f x y. refl;
  place_same = λ v w p a b x. refl;
  wait_same = λ v w k a b x. refl;
  tidy = λ v h. absurd (both_ways false refl h);
}

pub load_sound : (M : Meaning) → Law M → (A : Account) (l : List Start) (end : ℕ) → AllByRecursion (λ s. s.receiver < M.places) l → Sound M (fed_load M A l end)
load_sound M law A l end h = record {
  given = λ v e. grind (arith, nat_tests);
  few = omega arith;
  permitted = λ v h. absurd (both_ways false refl h);
  reached_self = λ v p. refl;
  marked_self = λ v k. refl;
  reached_sym = λ v w p. refl;
  marked_sym = λ v w k. refl;
  reached_through = λ u v w p a b c x y. refl;
  marked_through = λ u v w k m a b c f x y. refl;
  place_same = λ v w p a b x. refl;
  wait_same = λ v w k a b x. refl;
  tidy = λ v _. tidy_starts M law l h;
}

pub live_origin : (A : Account) (v : ℕ) → A.live v ≡ true → (x : ℕ) → (fed_branch A v).live x ≡ true → A.live (origin v A.made x) ≡ true
live_origin A v l x h = cond_both (eqb x A.made) v x (λ y. A.live y ≡ true) (λ _. l) (λ e. ⊎_elim (λ t. absurd (both_ways (eqb x A.made) e t)) (λ t. t) (or_cases (eqb x A.made) (A.live x) h))

pub branch_sound : (M : Meaning) (A : Account) (v : ℕ) → Sound M A → A.live v ≡ true → A.made < 16 → Sound M (fed_branch A v)
branch_sound M A v s l few = record {
  given = λ x h. let g = s.given x in grind (arith, nat_tests);
  few = few;
  permitted = λ x h. ⊎_elim (λ e. or_left _ _ e) (λ u. or_right _ _ (s.permitted x u)) (or_cases (eqb x A.made) (A.undecided x) h);
  reached_self = λ x p. s.reached_self (o x) p;
  marked_self = λ x k. s.marked_self (o x) k;
  reached_sym = λ x y p. s.reached_sym (o x) (o y) p;
  marked_sym = λ x y k. s.marked_sym (o x) (o y) k;
  reached_through = λ x y z p a b c. s.reached_through (o x) (o y) (o z) p (on x a) (on y b) (on z c);
  marked_through = λ x y z k m a b c. s.marked_through (o x) (o y) (o z) k m (on x a) (on y b) (on z c);
  place_same = λ x y p a b. s.place_same (o x) (o y) p (on x a) (on y b);
  wait_same = λ x y k a b. s.wait_same (o x) (o y) k (on x a) (on y b);
  tidy = λ x a. s.tidy (o x) (on x a);
}
  where
    o : ℕ → ℕ
    o x = origin v A.made x

    on : (x : ℕ) → (fed_branch A v).live x ≡ true → A.live (origin v A.made x) ≡ true
    on x h = live_origin A v l x h

-- for a parent and its child nothing is reached or marked
pub child_apart : (M : Meaning) (A : Account) (v : ℕ) → Sound M A → A.live v ≡ true → (p : ℕ) → (fed_branch A v).reached v A.made p ≡ false
child_apart M A v s l p =
    let n : (v ≡ A.made → ⊥) = λ e. let g = s.given v l in let z : ⊥ = omega arith in z in
    ap (λ x. A.reached x (origin v A.made A.made) p) (cond-false (eqb v A.made) v v (ne_eqb v A.made n))
    ∙ ap (λ x. A.reached v x p) (cond-true (eqb A.made A.made) v A.made (eq-eqb A.made A.made refl)) ∙ s.reached_self v p

pub waive_sound : (M : Meaning) (A : Account) (v : ℕ) → Sound M A → Sound M (fed_waive A v)
waive_sound M A v s = record {
  given = s.given;
  few = s.few;
  permitted = λ x h. s.permitted x (and_parts (A.undecided x) (not (eqb x v)) h).0;
  reached_self = s.reached_self;
  marked_self = s.marked_self;
  reached_sym = s.reached_sym;
  marked_sym = s.marked_sym;
  reached_through = s.reached_through;
  marked_through = s.marked_through;
  place_same = s.place_same;
  wait_same = s.wait_same;
  tidy = s.tidy;
}

pub retire_sound : (M : Meaning) (A : Account) (v : ℕ) → Sound M A → A.undecided v ≡ false → Sound M (fed_retire A v)
retire_sound M A v s d = record {
  permitted = λ x h. and_from (A.live x) (not (eqb x v)) (s.permitted x h) (not_from_false _ (ne_eqb x v (λ e. both_ways (A.undecided x) (ap A.undecided e ∙ d) h)));
  given = λ x h. s.given x (on x h);
  few = s.few;
  reached_self = s.reached_self;
  marked_self = s.marked_self;
  reached_sym = s.reached_sym;
  marked_sym = s.marked_sym;
  reached_through = λ x y z p a b c. s.reached_through x y z p (on x a) (on y b) (on z c);
  marked_through = λ x y z k m a b c. s.marked_through x y z k m (on x a) (on y b) (on z c);
  place_same = λ x y p a b. s.place_same x y p (on x a) (on y b);
  wait_same = λ x y k a b. s.wait_same x y k (on x a) (on y b);
  tidy = λ x a. s.tidy x (on x a);
}
  where
    on : (x : ℕ) → (fed_retire A v).live x ≡ true → A.live x ≡ true
    on x h = (and_parts (A.live x) (not (eqb x v)) h).0

pub decide_sound : (M : Meaning) (A : Account) (v place value : ℕ) → Sound M A → Sound M (fed_decide A v place value)
decide_sound M A v place value s = record {
  given = s.given;
  few = s.few;
  permitted = λ x h. s.permitted x (and_parts (A.undecided x) (not (eqb x v)) h).0;
  reached_self = λ x p. let a = s.reached_self x p in grind (arith, nat_tests);
  marked_self = s.marked_self;
  reached_sym = λ x y p. let a = s.reached_sym x y p in swapped x y p (cases_Bool (A.reached x y p));
  marked_sym = s.marked_sym;
  reached_through = λ x y z p a b c h k. through x y z p a b c h k;
  marked_through = λ x y z k m a b c f. s.marked_through x y z k m a b c (sym (waits x k) ∙ f);
  place_same = λ x y p a b h. places x y p a b h;
  wait_same = λ x y k a b h. waits x k ∙ s.wait_same x y k a b h ∙ sym (waits y k);
  tidy = λ x a. cond_both (eqb x v) (ordered (A.day v) place value) (A.day x) (Tidy M) (λ e. tidy_order M (A.day v) place value (s.tidy v (subst (λ y. A.live y ≡ true) (eqb-true x v e) a))) (λ _. s.tidy x a);
}
  where
    A' : Account
    A' = fed_decide A v place value

    waits : (x : ℕ) (k : Key) → find k (A'.day x).waiting ≡ find k (A.day x).waiting
    waits x k = cond_both (eqb x v) (ordered (A.day v) place value) (A.day x) (λ d. find k d.waiting ≡ find k (A.day x).waiting) (λ e. ap (λ y. find k (A.day y).waiting) (sym (eqb-true x v e))) (λ _. refl)

    swapped : (x y p : ℕ) → (A.reached x y p ≡ true) ⊎ (A.reached x y p ≡ false) → A'.reached x y p ≡ A'.reached y x p
    swapped x y p c = let a = s.reached_sym x y p in grind (arith, nat_tests)

    through : (x y z p : ℕ) → A.live x ≡ true → A.live y ≡ true → A.live z ≡ true → A'.reached x y p ≡ false → A'.reached y z p ≡ false → A'.reached x z p ≡ false
    through x y z p a b c h k =
        let h' = or_parts (A.reached x y p) _ h in let k' = or_parts (A.reached y z p) _ k in
        let o = s.reached_through x y z p a b c h'.0 k'.0 in
        let h'' = h'.1 in let k'' = k'.1 in
        or_from (A.reached x z p) _ o (grind (arith, nat_tests))

    places : (x y p : ℕ) → A.live x ≡ true → A.live y ≡ true → A'.reached x y p ≡ false → (A'.day x).place p ≡ (A'.day y).place p
    places x y p a b h =
        let h' = or_parts (A.reached x y p) _ h in
        let o = s.place_same x y p a b h'.0 in let h'' = h'.1 in
        go o h'' (cases_eq x y) (cases_eq p place) (cases_eq x v) (cases_eq y v)
      where
        -- the day of x, at p
        at : (x : ℕ) → (p ≡ place → x ≡ v → ⊥) → (A'.day x).place p ≡ (A.day x).place p
        at x n = cond_both (eqb x v) (ordered (A.day v) place value) (A.day x) (λ d. d.place p ≡ (A.day x).place p)
            (λ e. cond_both (eqb p place) (ordered_place ((A.day v).place place) value) ((A.day v).place p) (λ q. q ≡ (A.day x).place p) (λ f. absurd (n (eqb-true p place f) (eqb-true x v e))) (λ _. ap (λ y. (A.day y).place p) (sym (eqb-true x v e)))) (λ _. refl)

        go : (A.day x).place p ≡ (A.day y).place p → (eqb p place && (not (eqb x y) && (eqb x v || eqb y v))) ≡ false
            → (x ≡ y) ⊎ (x ≡ y → ⊥) → (p ≡ place) ⊎ (p ≡ place → ⊥) → (x ≡ v) ⊎ (x ≡ v → ⊥) → (y ≡ v) ⊎ (y ≡ v → ⊥) → (A'.day x).place p ≡ (A'.day y).place p
        go o f (inl e) q i j = ap (λ u. (A'.day u).place p) e
        go o f (inr e) (inr q) i j = at x (λ t _. q t) ∙ o ∙ sym (at y (λ t _. q t))
        go o f (inr e) (inl q) (inr i) (inr j) = at x (λ _ t. i t) ∙ o ∙ sym (at y (λ _ t. j t))
        go o f (inr e) (inl q) (inl i) j = absurd (let z : ⊥ = grind (arith, nat_tests) in z)
        go o f (inr e) (inl q) (inr i) (inl j) = absurd (let z : ⊥ = grind (arith, nat_tests) in z)
