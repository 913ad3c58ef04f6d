-- A walk that begins at a place whose slot comes before another.
use Rattle.std.proofs.Common.{◌≡◌, ◌≢◌, ℕ, true, false, List, [], ◌∷◌, ◌++◌, map, Some, Option, append_assoc, sym, refl, ap, ◌∙◌, subst, ⊎_elim}
use Rattle.std.specs.List.{AllByRecursion}
use Rattle.std.proofs.lemmas.Bool.{cases_Bool, both_ways}
use Rattle.std.proofs.lemmas.Option.{none-some}
use Rattle.slot.specs.Rank.{Rising}
use Rattle.slot.specs.declared.Slot.{Slot}
use Rattle.slot.specs.Slots.{earlier}
use Rattle.slot.specs.Laws.{strictly}
use Rattle.slot.proofs.Picks.{through}
use Rattle.bucket_calendar.specs.Chains.{Runs, at}
use Rattle.bucket_calendar.specs.Cuts.{end_of, Stops, Cut, LeadsTo}
use Rattle.bucket_calendar.proofs.Cuts.{back_all, both_all}
use Rattle.bucket_calendar.proofs.Links.{unmap}

-- the rest of a chain from one of its places
pub runs_from : (nx : List (Option ℕ)) (o : Option ℕ) (front back : List ℕ) (p : ℕ) → Runs nx o (front ++ p ∷ back) → Runs nx (Some p) (p ∷ back)
runs_from nx o [] back p h = (refl, h.1, h.2)
runs_from nx o (q ∷ front) back p h = runs_from nx _ front back p h.2

-- what stands in front of a slot that comes before s comes before s
all_sooner : (xs : List Slot) (s : Slot) (p : ℕ) (front back : List ℕ) → Rising earlier (map (at xs) (front ++ p ∷ back)) → earlier (at xs p) s ≡ true → AllByRecursion (λ q. earlier (at xs q) s ≡ true) front
all_sooner xs s p [] back r e = tt
all_sooner xs s p (q ∷ front) back r e =
    let a = back_all (λ t. earlier (at xs t) (at xs q) ≡ false) front (p ∷ back) (unmap (λ y. earlier y (at xs q) ≡ false) (at xs) (front ++ p ∷ back) r.0) in (
      ⊎_elim (λ h. h) (λ (h : earlier (at xs q) s ≡ false). absurd (both_ways (earlier (at xs p) (at xs q)) a.0 (through earlier strictly (at xs p) s (at xs q) e h))) (cases_Bool (earlier (at xs q) s)),
      all_sooner xs s p front back r.1 e,
    )

end_behind : (front back : List ℕ) (q : ℕ) → end_of (front ++ q ∷ back) ≡ end_of (q ∷ back)
end_behind [] back q = refl
end_behind (p ∷ []) back q = refl
end_behind (p ∷ r ∷ front) back q = end_behind (r ∷ front) back q

-- so a cut of the rest is one of the whole
pub cut_behind : (xs : List Slot) (s : Slot) (front back : List ℕ) (p : ℕ) (o : Option ℕ) → Rising earlier (map (at xs) (front ++ p ∷ back)) → earlier (at xs p) s ≡ true → Cut xs s (p ∷ back) o → Cut xs s (front ++ p ∷ back) o
cut_behind xs s front back p o r e c = go c.front c.parts c.passed c.ends
  where
    go : (f : List ℕ) → p ∷ back ≡ f ++ c.back → AllByRecursion (λ q. earlier (at xs q) s ≡ true) f → end_of f ≡ o → Cut xs s (front ++ p ∷ back) o
    go [] w a g = absurd (both_ways (earlier (at xs p) s) (subst (Stops xs s) (sym w) c.stops) e)
    go (q ∷ f) w a g = record {
      front = front ++ q ∷ f;
      back = c.back;
      parts = ap (λ l. front ++ l) w ∙ sym (append_assoc front (q ∷ f) c.back);
      passed = both_all (λ t. earlier (at xs t) s ≡ true) front (q ∷ f) (all_sooner xs s p front back r e) a;
      stops = c.stops;
      ends = end_behind front f q ∙ g;
    }

-- and what leads to a place in the rest does so in the whole
pub leads_behind : (k q p : ℕ) (front back : List ℕ) → LeadsTo k q (p ∷ back) → LeadsTo k q (front ++ p ∷ back)
leads_behind k q p front back t = go t.front t.parts t.ends
  where
    go : (f : List ℕ) → p ∷ back ≡ f ++ q ∷ t.back → end_of f ≡ Some k → LeadsTo k q (front ++ p ∷ back)
    go [] w g = absurd (none-some k g)
    go (r ∷ f) w g = record {
      front = front ++ r ∷ f;
      back = t.back;
      parts = ap (λ l. front ++ l) w ∙ sym (append_assoc front (r ∷ f) (q ∷ t.back));
      ends = end_behind front f r ∙ g;
    }

-- a slot that does not come before itself is not in front of one that comes before it
pub not_in_front : (xs : List Slot) (m p : ℕ) (front back : List ℕ) → Rising earlier (map (at xs) (front ++ p ∷ back)) → earlier (at xs p) (at xs m) ≡ true → earlier (at xs m) (at xs m) ≡ false → AllByRecursion (λ q. q ≢ m) (p ∷ back) → AllByRecursion (λ q. q ≢ m) (front ++ p ∷ back)
not_in_front xs m p front back r e n a = both_all (λ q. q ≢ m) front (p ∷ back) (others front (all_sooner xs (at xs m) p front back r e)) a
  where
    others : (ps : List ℕ) → AllByRecursion (λ q. earlier (at xs q) (at xs m) ≡ true) ps → AllByRecursion (λ q. q ≢ m) ps
    others [] h = tt
    others (q ∷ ps) h = ((λ z. both_ways (earlier (at xs m) (at xs m)) n (subst (λ t. earlier (at xs t) (at xs m) ≡ true) z h.0)), others ps h.1)
