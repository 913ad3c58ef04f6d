-- A walk for a slot that joins, from where it may begin.
use Rattle.std.proofs.Common.{◌≡◌, inl, inr, ℕ, ◌+◌, ◌<◌, ◌≤◌, true, List, ◌∷◌, ◌++◌, length, map, take, get_or, Some, None, Option, sym, ◌∙◌, subst, arith}
use Rattle.std.specs.List.{AllByRecursion}
use Rattle.std.proofs.ByRecursion.{All-weaker}
use Rattle.std.proofs.lemmas.List.{length-append}
use Rattle.slot.specs.Rank.{Rising}
use Rattle.slot.specs.declared.Slot.{Slot}
use Rattle.slot.specs.Slots.{earlier}
use Rattle.bucket_calendar.specs.Buckets.{bucket_of}
use Rattle.bucket_calendar.specs.Chains.{Runs, at, Among, Linked}
use Rattle.bucket_calendar.specs.Cuts.{Cut}
use Rattle.bucket_calendar.specs.Hints.{Near, Begins}
use Rattle.bucket_calendar.proofs.Cuts.{back_all, among_split}
use Rattle.bucket_calendar.proofs.Links.{at_take, row_rising, row_short, below, long_ys, old_slots}
use Rattle.bucket_calendar.proofs.Walks.{runs_from, cut_behind}

-- a chain from o, of which a cut tells one of the whole row
pub record Began (nx : List (Option ℕ)) (xs : List Slot) (s : Slot) (row : List ℕ) (o : Option ℕ) : Type 0 where
  pub places : List ℕ
  pub runs : Runs nx o places
  pub within : AllByRecursion (λ p. p < length xs) places
  pub short : length places ≤ length xs
  pub whole : (r : Option ℕ) → Cut xs s places r → Cut xs s row r

pub behind_short : (front back : List ℕ) (n : ℕ) → length (front ++ back) ≤ n → length back ≤ n
behind_short front back n h = let e : length (front ++ back) ≡ length front + length back = length-append front back in omega (arith, h, e)

module _ (hs nx : List (Option ℕ)) (xs : List Slot) (i : ℕ) (l : i < length xs) (few : length xs ≤ 512) (d : Linked hs nx (take i xs)) where
  abbrev b : ℕ
  b = bucket_of (at xs i)

  b_in : b < 64
  b_in = omega arith

  inside : AllByRecursion (λ p. p < length xs) (d.row b)
  inside = All-weaker (λ p. p < i) (λ p. p < length xs) (λ p e. omega (arith, e, l)) (d.row b) (below hs nx xs i l few d b b_in)

  short : length (d.row b) ≤ length xs
  short = let s = row_short hs nx (take i xs) d b b_in in omega (arith, s, long_ys hs nx xs i l few d, l)

  rising : Rising earlier (map (at xs) (d.row b))
  rising = subst (Rising earlier) (sym (d.listed b b_in) ∙ old_slots hs nx xs i l few d (d.row b) (below hs nx xs i l few d b b_in)) (row_rising b (take i xs))

  from : (o : Option ℕ) (p : ℕ) → o ≡ Some p → Near (take i xs) (at xs i) p → (front back : List ℕ) → d.row b ≡ front ++ p ∷ back → Began nx xs (at xs i) (d.row b) o
  from o p e n front back w =
      let in_row : p < i = omega (arith, n.within, long_ys hs nx xs i l few d) in
      record {
        places = p ∷ back;
        runs = subst (λ t. Runs nx t (p ∷ back)) (sym e) (runs_from nx (get_or hs b None) front back p (subst (Runs nx (get_or hs b None)) w (d.runs b b_in)));
        within = back_all (λ q. q < length xs) front (p ∷ back) (subst (AllByRecursion (λ q. q < length xs)) w inside);
        short = behind_short front (p ∷ back) (length xs) (subst (λ ps. length ps ≤ length xs) w short);
        whole = λ r c. subst (λ ps. Cut xs (at xs i) ps r) (sym w) (cut_behind xs (at xs i) front back p r (subst (λ ps. Rising earlier (map (at xs) ps)) w rising) (subst (λ s. earlier s (at xs i) ≡ true) (at_take xs i p in_row) n.sooner) c);
      }

  pub began : (o : Option ℕ) → Begins hs (take i xs) (at xs i) i o → Began nx xs (at xs i) (d.row b) o
  began o (inl e) = record { places = d.row b; runs = subst (λ t. Runs nx t (d.row b)) (sym e) (d.runs b b_in); within = inside; short = short; whole = λ r c. c }
  began o (inr (p, e, n, near)) =
      let t = among_split p (d.row b) (subst (λ k. Among p (d.row k)) near.alike (d.placed p near.within)) in
      from o p e near t.0 t.1 t.2
