-- Where likeness is an equivalence, its groups can be listed.
use Rattle.std.proofs.Common.{◌≡◌, ℕ, zero, suc, ◌<◌, ◌≤◌, Bool, true, false, not, ◌&&◌, ◌||◌, ◌⊎◌, List, [], ◌∷◌, sym, refl, ap, ◌∙◌, inl, inr, ⊎_elim, arith}
use Rattle.std.specs.List.{AllByRecursion}
use Rattle.std.proofs.lemmas.Bool.{cases_Bool, both_ways, and_left, and_right}
use Rattle.account.specs.Account.{ind, any_below}
use Rattle.account.specs.Groups.{count, leads, Groups}
use Rattle.account.proofs.Bounds.{any_from}
use Rattle.account.proofs.Leaders.{any_same}

module _ (n : ℕ) (among : ℕ → Bool) (alike : ℕ → ℕ → Bool)
    (self : (v : ℕ) → among v ≡ true → alike v v ≡ true)
    (turned : (v w : ℕ) → alike v w ≡ alike w v)
    (through : (u v w : ℕ) → among u ≡ true → among v ≡ true → among w ≡ true → alike u v ≡ true → alike v w ≡ true → alike u w ≡ true)
    (small : (v : ℕ) → among v ≡ true → v < n) where
  -- those that are like v
  abbrev group_of : ℕ → ℕ → Bool
  group_of v w = among w && alike v w

  -- like v is like whatever is like v
  alike_same : (u v w : ℕ) → among u ≡ true → among v ≡ true → among w ≡ true → alike u v ≡ true → alike u w ≡ alike v w
  alike_same u v w a b c e = go (cases_Bool (alike u w)) (cases_Bool (alike v w))
    where
      go : (alike u w ≡ true) ⊎ (alike u w ≡ false) → (alike v w ≡ true) ⊎ (alike v w ≡ false) → alike u w ≡ alike v w
      go (inl h) (inl k) = h ∙ sym k
      go (inr h) (inr k) = h ∙ sym k
      go (inl h) (inr k) = absurd (both_ways (alike v w) k (through v u w b a c (turned v u ∙ e) h))
      go (inr h) (inl k) = absurd (both_ways (alike u w) h (through u v w a b c e k))

  group_same : (u v w : ℕ) → among u ≡ true → among v ≡ true → alike u v ≡ true → group_of u w ≡ group_of v w
  group_same u v w a b e = go (cases_Bool (among w))
    where
      go : (among w ≡ true) ⊎ (among w ≡ false) → group_of u w ≡ group_of v w
      go (inl c) = ap (λ x. among w && x) (alike_same u v w a b c e)
      go (inr c) = and_left _ _ c ∙ sym (and_left _ _ c)

  -- one more group, where its least one leads it
  add : Bool → ℕ → List (ℕ → Bool) → List (ℕ → Bool)
  add true m gs = group_of m ∷ gs
  add false m gs = gs

  led : ℕ → List (ℕ → Bool)
  led zero = []
  led (suc m) = add (leads among alike m) m (led m)

  led_filled : (m : ℕ) → m ≤ n → AllByRecursion (λ g. any_below g n ≡ true) (led m)
  unfolding led add
  led_filled zero h = tt
  led_filled (suc m) h = go (led_filled m (omega arith)) (leads among alike m) refl
    where
      go : AllByRecursion (λ g. any_below g n ≡ true) (led m) → (b : Bool) → leads among alike m ≡ b → AllByRecursion (λ g. any_below g n ≡ true) (add b m (led m))
      go ih false e = ih
      go ih true e = let a = first_of e in (any_from (group_of m) n m (omega arith) (both a (self m a)), ih)
        where
          first_of : leads among alike m ≡ true → among m ≡ true
          first_of t = ⊎_elim (λ (k : among m ≡ true). k) (λ (k : among m ≡ false). absurd (both_ways true (sym t ∙ and_left _ _ k) refl)) (cases_Bool (among m))

          both : among m ≡ true → alike m m ≡ true → group_of m m ≡ true
          both x y = simp (x, y) refl

  led_whole : (m : ℕ) → AllByRecursion (λ g. (v w : ℕ) → g v ≡ true → g w ≡ (among w && alike v w)) (led m)
  unfolding led add
  led_whole zero = tt
  led_whole (suc m) = go (led_whole m) (leads among alike m) refl
    where
      go : AllByRecursion (λ g. (v w : ℕ) → g v ≡ true → g w ≡ (among w && alike v w)) (led m) → (b : Bool) → leads among alike m ≡ b → AllByRecursion (λ g. (v w : ℕ) → g v ≡ true → g w ≡ (among w && alike v w)) (add b m (led m))
      go ih false e = ih
      go ih true e = ((λ v w t. one v w t (cases_Bool (among m)) (cases_Bool (among v)) (cases_Bool (alike m v))), ih)
        where
          one : (v w : ℕ) → group_of m v ≡ true → (among m ≡ true) ⊎ (among m ≡ false) → (among v ≡ true) ⊎ (among v ≡ false) → (alike m v ≡ true) ⊎ (alike m v ≡ false) → group_of m w ≡ group_of v w
          one v w t (inl a) (inl b) (inl c) = group_same m v w a b c
          one v w t (inr a) y z = absurd (both_ways true (sym e ∙ and_left _ _ a) refl)
          one v w t x (inr b) z = absurd (both_ways true (sym t ∙ and_left _ _ b) refl)
          one v w t x y (inr c) = absurd (both_ways true (sym t ∙ and_right _ _ c) refl)

  -- v stands in none of the first groups, or in one, as none or some of the first are like it
  led_once : (m v : ℕ) → count (λ g. g v) (led m) ≡ ind (among v && any_below (λ l. among l && alike l v) m)
  unfolding any_below led add
  led_once zero v = sym (ap ind (and_right (among v) false refl))
  led_once (suc m) v = go (led_once m v) (leads among alike m) refl (cases_Bool (among v)) (cases_Bool (among m)) (cases_Bool (alike m v)) (cases_Bool (any_below (λ l. among l && alike l v) m))
    where
      -- who is like m is like v, where these two are alike
      moved : among v ≡ true → among m ≡ true → alike m v ≡ true → any_below (λ w. among w && alike m w) m ≡ any_below (λ l. among l && alike l v) m
      moved a b c = any_same _ _ m (λ w. group_same m v w b a c ∙ ap (λ x. among w && x) (turned v w))

      go : count (λ g. g v) (led m) ≡ ind (among v && any_below (λ l. among l && alike l v) m) → (b : Bool) → leads among alike m ≡ b → (among v ≡ true) ⊎ (among v ≡ false) → (among m ≡ true) ⊎ (among m ≡ false) → (alike m v ≡ true) ⊎ (alike m v ≡ false)
          → (any_below (λ l. among l && alike l v) m ≡ true) ⊎ (any_below (λ l. among l && alike l v) m ≡ false)
          → count (λ g. g v) (add b m (led m)) ≡ ind (among v && ((among m && alike m v) || any_below (λ l. among l && alike l v) m))
      go ih false e (inr a) y z w = simp a (ih ∙ ap ind (and_left _ _ a))
      go ih true e (inr a) y z w = let k : count (λ g. g v) (led m) ≡ 0 = ih ∙ ap ind (and_left _ _ a) in simp a (omega (arith, k))
      go ih false e (inl a) (inr b) z w = simp (a, b) (ih ∙ simp a refl)
      go ih true e (inl a) (inr b) z w = absurd (both_ways true (sym e ∙ and_left _ _ b) refl)
      go ih false e (inl a) (inl b) (inr c) w = simp (a, b, c) (ih ∙ simp a refl)
      go ih true e (inl a) (inl b) (inr c) w = let z : count (λ g. g v) (led m) ≡ ind (any_below (λ l. among l && alike l v) m) = ih ∙ simp a refl in simp (a, b, c) (omega (arith, z))
      go ih false e (inl a) (inl b) (inl c) (inl d) = simp (a, b, c, d) (ih ∙ simp (a, d) refl)
      go ih false e (inl a) (inl b) (inl c) (inr d) = absurd (both_ways true (sym (simp (b, moved a b c ∙ d) refl) ∙ e) refl)
      go ih true e (inl a) (inl b) (inl c) (inl d) = absurd (both_ways true (sym e ∙ and_right _ _ (ap not (moved a b c ∙ d))) refl)
      go ih true e (inl a) (inl b) (inl c) (inr d) = let z : count (λ g. g v) (led m) ≡ 0 = ih ∙ simp (a, d) refl in simp (a, b, c, d) (omega (arith, z))

  pub grouped : (gs : List (ℕ → Bool)) × Groups n among alike gs
  grouped = (led n, record { filled = led_filled n (omega arith); once = λ v. led_once n v ∙ ap ind (all v (cases_Bool (among v))); whole = led_whole n })
    where
      all : (v : ℕ) → (among v ≡ true) ⊎ (among v ≡ false) → (among v && any_below (λ l. among l && alike l v) n) ≡ among v
      all v (inl a) = simp (a, any_from (λ l. among l && alike l v) n v (small v a) (simp (a, self v a) refl)) refl
      all v (inr a) = and_left _ _ a ∙ sym a
