-- The steps of the loops that choose among slots.
use Rattle.std.proofs.Common.{◌≡◌, ℕ, ◌+◌, Bool, true, false, ◌&&◌, List, [], ◌∷◌, Some, None, filter, sym, refl, ap, ◌∙◌, add-one}
use Rattle.std.specs.List.{AllByRecursion}
use Rattle.std.proofs.lemmas.List.Elements.{filter_agree}
use Rattle.std.proofs.ByRecursion.{All-weaker}
use Rattle.std.proofs.lemmas.Bool.{and_parts, and_from}
use Rattle.event.specs.Lists.{first as head}
use Rattle.std.specs.List.{slice_get}
use Rattle.slot.specs.Rank.{ranked}
use Rattle.slot.specs.declared.Slot.{Slot}
use Rattle.slot.specs.Slots.{earlier, ahead, leads_all, steady}
use Rattle.slot.specs.Passes.{admits}
use Rattle.slot.specs.Laws.{strictly, ahead_earlier}
use Rattle.slot.proofs.Picks.{Climbs, climbs_kept, kept_both, next_at, at_zero}

pub all_from_leads : (x : Slot) (l : List Slot) → leads_all x l ≡ true → AllByRecursion (λ y. ahead x y ≡ true) l
all_from_leads x [] h = tt
all_from_leads x (y ∷ l) h = let p = and_parts (ahead x y) (leads_all x l) h in (p.0, all_from_leads x l p.1)

pub all_leads : (x : Slot) (l : List Slot) → AllByRecursion (λ y. ahead x y ≡ true) l → leads_all x l ≡ true
all_leads x [] h = refl
all_leads x (y ∷ l) h = and_from (ahead x y) (leads_all x l) h.0 (all_leads x l h.1)

pub climbs_from : (l : List Slot) → steady l ≡ true → Climbs ahead l
unfolding steady
climbs_from [] h = tt
climbs_from (x ∷ l) h = let p = and_parts (leads_all x l) (steady l) h in (all_from_leads x l p.0, climbs_from l p.1)

pub steady_from : (l : List Slot) → Climbs ahead l → steady l ≡ true
unfolding steady
steady_from [] h = refl
steady_from (x ∷ l) h = and_from (leads_all x l) (steady l) (all_leads x l h.0) (steady_from l h.1)

pub climbs_earlier : (l : List Slot) → Climbs ahead l → Climbs earlier l
climbs_earlier [] h = tt
climbs_earlier (x ∷ l) h = (All-weaker (λ y. ahead x y ≡ true) (λ y. earlier x y ≡ true) (λ y k. ahead_earlier x y k) l h.0, climbs_earlier l h.1)

-- the first that passes, the next after x, and none
pub nth_start : (p : Slot → Bool) (xs : List Slot) → head (filter (admits p None) (ranked earlier xs)) ≡ slice_get (filter p (ranked earlier xs)) 0
nth_start p xs = ap head (filter_agree (admits p None) p (λ x. and_true (p x)) (ranked earlier xs)) ∙ sym (at_zero (filter p (ranked earlier xs)))
  where
    and_true : (b : Bool) → (b && true) ≡ b
    and_true true = refl
    and_true false = refl

pub nth_next : (p : Slot → Bool) (xs : List Slot) (k : ℕ) (x : Slot) → steady (ranked earlier xs) ≡ true → Some x ≡ slice_get (filter p (ranked earlier xs)) k
    → head (filter (admits p (Some x)) (ranked earlier xs)) ≡ slice_get (filter p (ranked earlier xs)) (k + 1)
nth_next p xs k x s e =
    ap head (kept_both p (earlier x) (ranked earlier xs))
    ∙ next_at earlier strictly (filter p (ranked earlier xs)) k x (climbs_kept earlier p (ranked earlier xs) (climbs_earlier (ranked earlier xs) (climbs_from (ranked earlier xs) s))) (sym e)
    ∙ sym (ap (slice_get (filter p (ranked earlier xs))) (add-one k))
