-- What is picked goes ahead of all that is noted.
use Rattle.std.specs.Prelude.{◌≡◌, ℕ, zero, suc, ◌+◌, ◌<◌, ◌≤◌, Bool, true, false, if◌then◌else◌, ◌⊎◌, List, [], ◌∷◌, ◌++◌, IfSome, Some, None, Option, fold, filter, MatchOption, nat_lt, ◌≢◌, refl}
use Rattle.std.proofs.Common.{sym, ap, ◌∙◌, subst, inl, inr, arith}
use Rattle.std.proofs.lemmas.Bool.{cases_Bool, cases_eq, cases_lt, cond-true, cond-false, cond_both, both_ways, ltb-true}
use Rattle.std.proofs.lemmas.Bool.Decides.{nat_tests}
use Rattle.std.specs.List.{find, range_with_len}
use Rattle.std.proofs.lemmas.List.Elements.{filter-append}
use Rattle.std.proofs.lemmas.List.Sums.{fold-append}
use Rattle.collection.specs.Bits.{has}
use Rattle.collection.specs.Choice.{rather, pick, Noted, Smallest, Chosen}

-- i is noted, and goes ahead of every other that is
pub record Foremost (ahead : ℕ → ℕ → Bool) (w n i : ℕ) : Type 0 where
  pub noted : Noted w n i
  pub first : (k : ℕ) → Noted w n k → (i ≡ k) ⊎ (ahead i k ≡ true)

noted_more : (w n i : ℕ) → Noted w n i → Noted w (suc n) i
noted_more w n i h = record { least = h.least; most = omega arith; bit = h.bit }

-- the last number, or one of those before
noted_ways : (w n k : ℕ) → Noted w (suc n) k → (k ≡ suc n) ⊎ Noted w n k
noted_ways w n k h = go (cases_lt n k)
  where
    go : (n < k) ⊎ (k ≤ n) → (k ≡ suc n) ⊎ Noted w n k
    go (inl more) = inl (omega arith)
    go (inr less) = inr (record { least = h.least; most = less; bit = h.bit })

noted_last : (w n : ℕ) → has w (suc n) ≡ true → Noted w (suc n) (suc n)
noted_last w n h = record { least = omega arith; most = omega arith; bit = h }

-- an order in which any two numbers stand one way
pub record LinesUp (ahead : ℕ → ℕ → Bool) : Type 0 where
  pub chain : (i k m : ℕ) → ahead i k ≡ true → ahead k m ≡ true → ahead i m ≡ true
  pub total : (i k : ℕ) → k < i → ahead i k ≡ false → ahead k i ≡ true

module _ (ahead : ℕ → ℕ → Bool) (o : LinesUp ahead) (w : ℕ) where
  -- the number after n is not noted
  foremost_skip : (n : ℕ) → has w (suc n) ≡ false → (r : Option ℕ) → Chosen (Foremost ahead) w n r → Chosen (Foremost ahead) w (suc n) r
  foremost_skip n e None h = λ k m. elim (noted_ways w n k m) [ inl l ↦ both_ways (has w (suc n)) e (subst (λ x. has w x ≡ true) l m.bit) | inr p ↦ h k p ]
  foremost_skip n e (Some i) h = record {
    noted = noted_more w n i h.noted;
    first = λ k m. elim (noted_ways w n k m) [ inl l ↦ absurd (both_ways (has w (suc n)) e (subst (λ x. has w x ≡ true) l m.bit)) | inr p ↦ h.first k p ];
  }

  -- it is noted, and goes ahead of the one before or does not
  foremost_more : (n : ℕ) → has w (suc n) ≡ true → (r : Option ℕ) → Chosen (Foremost ahead) w n r → Chosen (Foremost ahead) w (suc n) (rather ahead (suc n) r)
  foremost_more n e None h = record {
    noted = noted_last w n e;
    first = λ k m. elim (noted_ways w n k m) [ inl l ↦ inl (sym l) | inr p ↦ absurd (h k p) ];
  }
  foremost_more n e (Some i) h = go (cases_Bool (ahead (suc n) i))
    where
      go : (ahead (suc n) i ≡ true) ⊎ (ahead (suc n) i ≡ false) → Chosen (Foremost ahead) w (suc n) (if ahead (suc n) i then Some (suc n) else Some i)
      go (inl t) = subst (Chosen (Foremost ahead) w (suc n)) (sym (cond-true _ _ _ t)) (record {
        noted = noted_last w n e;
        first = λ k m. elim (noted_ways w n k m) [ inl l ↦ inl (sym l) | inr p ↦ inr (elim (h.first k p) [ inl s ↦ subst (λ x. ahead (suc n) x ≡ true) s t | inr a ↦ o.chain (suc n) i k t a ]) ];
      })
      go (inr t) = subst (Chosen (Foremost ahead) w (suc n)) (sym (cond-false _ _ _ t)) (record {
        noted = noted_more w n i h.noted;
        first = λ k m. elim (noted_ways w n k m) [ inl l ↦ inr (subst (λ x. ahead i x ≡ true) (sym l) (o.total (suc n) i (omega arith) t)) | inr p ↦ h.first k p ];
      })

  pub foremost : (n : ℕ) → Chosen (Foremost ahead) w n (pick ahead w n)
  foremost zero = λ k m. omega arith
  foremost (suc n) =
      let before = foremost n in
      cond_both (has w (suc n)) _ _ (Chosen (Foremost ahead) w (suc n)) (λ e. foremost_more n e (pick ahead w n) before) (λ e. foremost_skip n e (pick ahead w n) before)

-- what is picked is one of the numbers
pub within : (ahead : ℕ → ℕ → Bool) (w n m : ℕ) → n ≤ m → (r : Option ℕ) → Chosen (Foremost ahead) w n r → IfSome r (λ i. i ≤ m)
within ahead w n m l None h = tt
within ahead w n m l (Some i) h = omega arith

-- one number more
pub range_more : (a n : ℕ) → range_with_len a (suc n) ≡ range_with_len a n ++ (a + n) ∷ []
range_more a zero = ap (λ x. x ∷ []) (omega arith)
range_more a (suc n) =
    let e : a + 1 + n ≡ a + suc n = omega arith in
    ap (λ xs. a ∷ xs) (range_more (a + 1) n ∙ ap (λ x. range_with_len (a + 1) n ++ x ∷ []) e)

-- the choice, as a chain makes it of the numbers in turn
pub pick_folds : (ahead : ℕ → ℕ → Bool) (w n : ℕ) → pick ahead w n ≡ fold (λ best i. rather ahead i best) None (filter (has w) (range_with_len 1 n))
pick_folds ahead w zero = refl
pick_folds ahead w (suc n) =
    let last : List ℕ = filter (has w) (suc n ∷ []) in
    let more : filter (has w) (range_with_len 1 (suc n)) ≡ filter (has w) (range_with_len 1 n) ++ last =
    ap (filter (has w)) (range_more 1 n ∙ ap (λ x. range_with_len 1 n ++ x ∷ []) (let e : 1 + n ≡ suc n = omega arith in e)) ∙ filter-append (has w) (range_with_len 1 n) (suc n ∷ []) in
    let before = pick_folds ahead w n in
    sym (ap (fold (λ best i. rather ahead i best) None) more ∙ fold-append (λ best i. rather ahead i best) None (filter (has w) (range_with_len 1 n)) last
    ∙ ap (λ best. fold (λ best i. rather ahead i best) best last) (sym before) ∙ go (has w (suc n)))
  where
    go : (c : Bool) → fold (λ best i. rather ahead i best) (pick ahead w n) (if c then suc n ∷ [] else []) ≡ (if c then rather ahead (suc n) (pick ahead w n) else pick ahead w n)
    go true = refl
    go false = refl

-- what is foremost is right in words of its own
pub rightly : (ahead : ℕ → ℕ → Bool) (Right : ℕ → ℕ → ℕ → Type 0) (w n : ℕ) → ((i : ℕ) → Foremost ahead w n i → Right w n i)
    → (r : Option ℕ) → Chosen (Foremost ahead) w n r → Chosen Right w n r
rightly ahead Right w n f None h = h
rightly ahead Right w n f (Some i) h = f i h

-- by the smaller number
pub by_number : LinesUp nat_lt
by_number = record { chain = λ i k m a b. grind (arith, nat_tests); total = λ i k h a. grind (arith, nat_tests) }

pub smallest : (w n : ℕ) → Chosen Smallest w n (pick nat_lt w n)
smallest w n = rightly nat_lt Smallest w n made (pick nat_lt w n) (foremost nat_lt by_number w n)
  where
    made : (i : ℕ) → Foremost nat_lt w n i → Smallest w n i
    made i h = record { noted = h.noted; small = λ k m. elim (h.first k m) [ inl e ↦ omega arith | inr a ↦ omega (arith, ltb-true i k a) ] }

-- i is the first of the numbers from a to below a + n whose bit is set
pub record First (w a n i : ℕ) : Type 0 where
  pub least : a ≤ i
  pub most : i < a + n
  pub bit : has w i ≡ true
  pub before : (k : ℕ) → a ≤ k → k < i → has w k ≡ false

first_found : (w a n : ℕ) → MatchOption (find (has w) (range_with_len a n)) ((k : ℕ) → a ≤ k → k < a + n → has w k ≡ false) (First w a n)
first_found w a zero = λ k l m. absurd (omega arith)
first_found w a (suc n) = go (first_found w (a + 1) n) (has w a) refl
  where
    further : has w a ≡ false → (r : Option ℕ) → MatchOption r ((k : ℕ) → a + 1 ≤ k → k < a + 1 + n → has w k ≡ false) (First w (a + 1) n)
        → MatchOption r ((k : ℕ) → a ≤ k → k < a + suc n → has w k ≡ false) (First w a (suc n))
    further e None h = λ k l m. elim (cases_eq a k) [ inl s ↦ subst (λ x. has w x ≡ false) s e | inr s ↦ h k (let p : a ≢ k = s in omega arith) (omega arith) ]
    further e (Some i) h = record {
      least = omega (arith, h.least);
      most = omega (arith, h.most);
      bit = h.bit;
      before = λ k l m. elim (cases_eq a k) [ inl s ↦ subst (λ x. has w x ≡ false) s e | inr s ↦ h.before k (let p : a ≢ k = s in omega arith) m ];
    }

    go : MatchOption (find (has w) (range_with_len (a + 1) n)) ((k : ℕ) → a + 1 ≤ k → k < a + 1 + n → has w k ≡ false) (First w (a + 1) n)
        → (c : Bool) → has w a ≡ c → MatchOption (if c then Some a else find (has w) (range_with_len (a + 1) n)) ((k : ℕ) → a ≤ k → k < a + suc n → has w k ≡ false) (First w a (suc n))
    go later true e = record { least = omega arith; most = omega arith; bit = e; before = λ k l m. absurd (omega arith) }
    go later false e = further e (find (has w) (range_with_len (a + 1) n)) later

-- the first of the numbers that is noted is the smallest
pub find_smallest : (w n : ℕ) → Chosen Smallest w n (find (has w) (range_with_len 1 n))
find_smallest w n = go (find (has w) (range_with_len 1 n)) (first_found w 1 n)
  where
    go : (r : Option ℕ) → MatchOption r ((k : ℕ) → 1 ≤ k → k < 1 + n → has w k ≡ false) (First w 1 n) → Chosen Smallest w n r
    go None h = λ k m. both_ways (has w k) (h k m.least (omega (arith, m.most))) m.bit
    go (Some i) h = record {
      noted = record { least = h.least; most = omega (arith, h.most); bit = h.bit };
      small = λ k m. elim (cases_lt k i) [ inl less ↦ absurd (both_ways (has w k) (h.before k m.least less) m.bit) | inr more ↦ more ];
    }

-- there is only one smallest
pub only_smallest : (w n : ℕ) (q r : Option ℕ) → Chosen Smallest w n q → Chosen Smallest w n r → q ≡ r
only_smallest w n None None g h = refl
only_smallest w n None (Some k) g h = absurd (g k h.noted)
only_smallest w n (Some i) None g h = absurd (h i g.noted)
only_smallest w n (Some i) (Some k) g h = let p = g.small k h.noted in let q = h.small i g.noted in ap Some (let e : i ≡ k = omega arith in e)
