-- A walk along a chain, up to the last slot that comes before another.
use Rattle.std.proofs.Common.{◌≡◌, ◌≢◌, inl, inr, ℕ, zero, suc, ◌+◌, ◌≤◌, true, false, List, [], ◌∷◌, ◌++◌, length, get_or, Some, None, Option, append_assoc, append-nil, sym, refl, ap, ◌∙◌, subst, arith}
use Rattle.std.specs.List.{AllByRecursion, slice_get}
use Rattle.std.proofs.lemmas.Option.{none-some, same_Some}
use Rattle.std.proofs.lemmas.List.{length-append}
use Rattle.slot.proofs.Picks.{at_none}
use Rattle.slot.specs.declared.Slot.{Slot}
use Rattle.slot.specs.Slots.{earlier}
use Rattle.bucket_calendar.specs.Chains.{Runs, at, Among}
use Rattle.bucket_calendar.specs.Cuts.{end_of, Stops, Cut, LeadsTo}

pub front_all : {X : Type 0} (P : X → Type 0) (xs ys : List X) → AllByRecursion P (xs ++ ys) → AllByRecursion P xs
front_all P [] ys h = tt
front_all P (x ∷ xs) ys h = (h.0, front_all P xs ys h.1)

pub back_all : {X : Type 0} (P : X → Type 0) (xs ys : List X) → AllByRecursion P (xs ++ ys) → AllByRecursion P ys
back_all P [] ys h = h
back_all P (x ∷ xs) ys h = back_all P xs ys h.1

pub both_all : {X : Type 0} (P : X → Type 0) (xs ys : List X) → AllByRecursion P xs → AllByRecursion P ys → AllByRecursion P (xs ++ ys)
both_all P [] ys h k = k
both_all P (x ∷ xs) ys h k = (h.0, both_all P xs ys h.1 k)

-- places of lists
pub among_more : (p i : ℕ) (front back : List ℕ) → Among p (front ++ back) → Among p (front ++ i ∷ back)
among_more p i [] back h = inr h
among_more p i (q ∷ front) back (inl e) = inl e
among_more p i (q ∷ front) back (inr h) = inr (among_more p i front back h)

pub among_there : (i : ℕ) (front back : List ℕ) → Among i (front ++ i ∷ back)
among_there i [] back = inl refl
among_there i (q ∷ front) back = inr (among_there i front back)

pub among_rest : (p q : ℕ) (ps : List ℕ) → p ≢ q → Among p (q ∷ ps) → Among p ps
among_rest p q ps n (inl e) = absurd (n e)
among_rest p q ps n (inr h) = h

pub among_other : (p q i : ℕ) (front back : List ℕ) → p ≢ q → Among p (front ++ q ∷ back) → Among p (front ++ i ∷ back)
among_other p q i [] back n h = inr (among_rest p q back n h)
among_other p q i (r ∷ front) back n (inl e) = inl e
among_other p q i (r ∷ front) back n (inr h) = inr (among_other p q i front back n h)

pub among_all : (P : ℕ → Type 0) (p : ℕ) (ps : List ℕ) → Among p ps → AllByRecursion P ps → P p
among_all P p [] h a = elim h [ ]
among_all P p (q ∷ ps) (inl e) a = subst P (sym e) a.0
among_all P p (q ∷ ps) (inr h) a = among_all P p ps h a.1

pub among_split : (p : ℕ) (ps : List ℕ) → Among p ps → (front : List ℕ) × (back : List ℕ) × (ps ≡ front ++ p ∷ back)
among_split p [] h = elim h [ ]
among_split p (q ∷ ps) (inl e) = ([], ps, ap (λ k. k ∷ ps) (sym e))
among_split p (q ∷ ps) (inr h) = let r = among_split p ps h in (q ∷ r.0, r.1, ap (λ l. q ∷ l) r.2)

pub end_push : (ps : List ℕ) (p : ℕ) → end_of (ps ++ p ∷ []) ≡ Some p
end_push [] p = refl
end_push (q ∷ []) p = refl
end_push (q ∷ r ∷ ps) p = end_push (r ∷ ps) p

-- number i of a list parted behind as many
at_seam : (front back : List ℕ) (i : ℕ) → i + length back ≡ length (front ++ back) → slice_get (front ++ back) i ≡ slice_get back 0
at_seam [] back i e = ap (slice_get back) (omega (arith, e))
at_seam (p ∷ front) back zero e = let n : length (front ++ back) ≡ length front + length back = length-append front back in absurd (let z : ⊥ = omega (arith, e, n) in z)
at_seam (p ∷ front) back (suc i) e = at_seam front back i (omega (arith, e))

-- the walk has passed a front, and what is left goes on from here
pub record Walked (P : ℕ → Type 0) (next : List (Option ℕ)) (ps : List ℕ) (i : ℕ) (last here : Option ℕ) : Type 0 where
  pub front : List ℕ
  pub back : List ℕ
  pub parts : ps ≡ front ++ back
  pub passed : AllByRecursion P front
  pub ends : end_of front ≡ last
  pub rest : Runs next here back
  pub count : i + length back ≡ length ps

pub walk_start : (P : ℕ → Type 0) (next : List (Option ℕ)) (ps : List ℕ) (o : Option ℕ) → Runs next o ps → Walked P next ps 0 None o
walk_start P next ps o h = record { front = []; back = ps; parts = refl; passed = tt; ends = refl; rest = h; count = omega arith }

-- the next place of a chain
pub next_place : (next : List (Option ℕ)) (o : Option ℕ) (k : ℕ) (ps : List ℕ) → Runs next o ps → o ≡ Some k → (qs : List ℕ) × (ps ≡ k ∷ qs) × Runs next (get_or next k None) qs
next_place next o k [] h e = absurd (none-some k (sym h ∙ e))
next_place next o k (p ∷ qs) h e =
    let z : p ≡ k = same_Some p k (sym h.0 ∙ e) in (qs, ap (λ q. q ∷ qs) z, subst (λ q. Runs next (get_or next q None) qs) z h.2)

no_place : (next : List (Option ℕ)) (o : Option ℕ) (ps : List ℕ) → Runs next o ps → o ≡ None → ps ≡ []
no_place next o [] h e = refl
no_place next o (p ∷ ps) h e = absurd (none-some p (sym e ∙ h.0))

module _ (P : ℕ → Type 0) (next : List (Option ℕ)) (ps : List ℕ) (i : ℕ) (last here : Option ℕ) (w : Walked P next ps i last here) where
  pub walk_in : (Q : ℕ → Type 0) (k : ℕ) → here ≡ Some k → AllByRecursion Q ps → Q k
  walk_in Q k e h =
      let r = next_place next here k w.back w.rest e in
      let a : AllByRecursion Q (w.front ++ w.back) = subst (AllByRecursion Q) w.parts h in
      (subst (AllByRecursion Q) r.1 (back_all Q w.front w.back a)).0

  pub walk_on : (k : ℕ) → here ≡ Some k → P k → Walked P next ps (i + 1) (Some k) (get_or next k None)
  walk_on k e h =
      let r = next_place next here k w.back w.rest e in
      record {
        front = w.front ++ k ∷ [];
        back = r.0;
        parts = w.parts ∙ ap (λ l. w.front ++ l) r.1 ∙ sym (append_assoc w.front (k ∷ []) r.0);
        passed = both_all P w.front (k ∷ []) w.passed (h, tt);
        ends = end_push w.front k;
        rest = r.2;
        count = let l : length w.back ≡ suc (length r.0) = ap length r.1 in omega (arith, w.count, l);
      }

  walked_out : length ps ≤ i → w.back ≡ []
  walked_out h = nothing w.back (omega (arith, w.count, h))
    where
      nothing : (l : List ℕ) → length l ≡ 0 → l ≡ []
      nothing [] e = refl
      nothing (x ∷ l) e = absurd (let z : ⊥ = omega (arith, e) in z)

  -- all are passed, at the end of the chain or after as many turns
  all_passed : w.back ≡ [] → AllByRecursion P ps
  all_passed e = subst (AllByRecursion P) (sym (append-nil w.front) ∙ ap (λ l. w.front ++ l) (sym e) ∙ sym w.parts) w.passed

  pub passed_none : here ≡ None → AllByRecursion P ps
  passed_none e = all_passed (no_place next here w.back w.rest e)

  pub passed_full : length ps ≤ i → AllByRecursion P ps
  passed_full h = all_passed (walked_out h)

  -- where the walk stands is number i
  pub walk_nth : here ≡ slice_get ps i
  walk_nth = front_place w.back w.rest ∙ sym (ap (λ l. slice_get l i) w.parts ∙ at_seam w.front w.back i (w.count ∙ ap length w.parts))
    where
      front_place : (l : List ℕ) → Runs next here l → here ≡ slice_get l 0
      front_place [] h = h
      front_place (p ∷ l) h = h.0

  pub walk_short : (j : ℕ) → here ≡ None → i ≤ j → None ≡ slice_get ps j
  walk_short j e h = sym (at_none ps i j (sym walk_nth ∙ e) h)

  -- the next but one
  pub walk_found : (k q : ℕ) → here ≡ Some k → get_or next k None ≡ Some q → LeadsTo k q ps
  walk_found k q e f =
      let r = next_place next here k w.back w.rest e in
      let t = next_place next (get_or next k None) q r.0 r.2 f in
      record {
        front = w.front ++ k ∷ [];
        back = t.0;
        parts = w.parts ∙ ap (λ l. w.front ++ l) (r.1 ∙ ap (λ l. k ∷ l) t.1) ∙ sym (append_assoc w.front (k ∷ []) (q ∷ t.0));
        ends = end_push w.front k;
      }

module _ (xs : List Slot) (s : Slot) (next : List (Option ℕ)) (ps : List ℕ) (i : ℕ) (last here : Option ℕ) (w : Walked (λ p. earlier (at xs p) s ≡ true) next ps i last here) where
  cut_at : Stops xs s w.back → Cut xs s ps last
  cut_at z = record { front = w.front; back = w.back; parts = w.parts; passed = w.passed; stops = z; ends = w.ends }

  pub walk_none : here ≡ None → Cut xs s ps last
  walk_none e = cut_at (subst (Stops xs s) (sym (no_place next here w.back w.rest e)) tt)

  pub walk_stop : (k : ℕ) → here ≡ Some k → earlier (at xs k) s ≡ false → Cut xs s ps last
  walk_stop k e h = let r = next_place next here k w.back w.rest e in cut_at (subst (Stops xs s) (sym r.1) h)

  pub walk_full : length ps ≤ i → Cut xs s ps last
  walk_full h = cut_at (subst (Stops xs s) (sym (walked_out _ next ps i last here w h)) tt)
