-- The first and the second of those with the smallest key.
use Rattle.std.proofs.Common.{◌≡◌, ℕ, zero, suc, ◌<◌, Bool, true, false, cond, List, [], ◌∷◌, length, get_or, Some, filter, sym, refl, ap, ◌∙◌, ⊎_elim, arith}
use Rattle.std.specs.List.{AllByRecursion}
use Rattle.std.specs.Option.{option_map}
use Rattle.std.proofs.lemmas.Bool.{cases_Bool}
use Rattle.calendar.specs.declared.Held.{Held}
use Rattle.event.proofs.Orders.{same_refl}
use Rattle.event.specs.Lists.{first as head}
use Rattle.event.specs.Keys.{same}
use Rattle.std.specs.List.{slice_get}
use Rattle.calendar.specs.Calls.{key_of_held, leading}
use Rattle.slot.specs.Rank.{ranked, Strict}
use Rattle.slot.proofs.Ranks.{all_ranked}
use Rattle.slot.specs.declared.Slot.{Slot}
use Rattle.slot.specs.Slots.{earlier, bare, bares, in_order}
use Rattle.slot.proofs.Picks.{sooner, head_ins}

-- what comes before no other is the first
pub first_least : {X : Type 0} (lt : X → X → Bool) (o : Strict lt) (t : List X) (m : X) (j : ℕ) (d : X) → j < length t → get_or t j d ≡ m → AllByRecursion (λ y. lt y m ≡ false) t → head (ranked lt t) ≡ Some m
first_least lt o [] m j d h e a = absurd (let z : ⊥ = omega arith in z)
first_least {X} lt o (y ∷ t) m zero d h e a = head_ins lt o y (ranked lt t) ∙ go (ranked lt t) (all_ranked lt o (λ z. lt z m ≡ false) t a.1)
  where
    go : (r : List X) → AllByRecursion (λ z. lt z m ≡ false) r → sooner lt (head r) y ≡ Some m
    go [] k = ap Some e
    go (b ∷ r) k = ⊎_elim
        (λ (f : lt y b ≡ true). ap (λ w. cond w (Some y) (Some b)) f ∙ ap Some e)
        (λ (f : lt y b ≡ false). ap (λ w. cond w (Some y) (Some b)) f ∙ ap Some (o.apart b m k.0 (ap (λ u. lt u b) (sym e) ∙ f))) (cases_Bool (lt y b))
first_least lt o (y ∷ t) m (suc j) d h e a =
    head_ins lt o y (ranked lt t) ∙ ap (λ r. sooner lt r y) (first_least lt o t m j d (let k : j < length t = omega arith in k) e a.1) ∙ ap (λ w. cond w (Some y) (Some m)) a.0

-- another key that does not come before comes after
kept_front : (x : Held) (l : List Held) → filter (λ z. same (key_of_held x) (key_of_held z)) (x ∷ l) ≡ x ∷ filter (λ z. same (key_of_held x) (key_of_held z)) l
kept_front x l = ap (λ b. cond b (x ∷ filter (λ z. same (key_of_held x) (key_of_held z)) l) (filter (λ z. same (key_of_held x) (key_of_held z)) l)) (same_refl (key_of_held x))

pub look_first : (xs : List Slot) (x : Slot) (l : List Slot) → ranked earlier xs ≡ x ∷ l → option_map bare (Some x) ≡ slice_get (leading (in_order xs)) 0
look_first xs x l e = sym (ap (λ t. slice_get t 0) (ap (λ r. leading (bares r)) e ∙ kept_front (bare x) (bares l)))

pub at_one : {X : Type 0} (l : List X) (x : X) → slice_get (x ∷ l) 1 ≡ head l
at_one [] x = refl
at_one (y ∷ l) x = refl
