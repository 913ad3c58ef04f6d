-- Where a group is to be parted from others on its cell, and no more than 128 groups are left after, a cell is free.
use Rattle.std.proofs.Common.{◌≡◌, ℕ, ◌<◌, ◌≤◌, Bool, true, false, not, ◌&&◌, ◌||◌, is_some, unwrap_or, Some, Option, sym, ap, ◌∙◌, subst, arith}
use Rattle.std.proofs.lemmas.Bool.{cond_both, eq-eqb, eqb-true, both_ways, and_from, and_parts, not-true, not-false, not_from_false, or_parts}
use Rattle.event.specs.declared.Key.{Key}
use Rattle.group.specs.declared.Group.{Group}
use Rattle.group.specs.Groups.{has}
use Rattle.calendar.specs.declared.Held.{Held}
use Rattle.model.specs.Meaning.{Meaning, Law}
use Rattle.day.specs.declared.place.Place.{Place}
use Rattle.account.specs.Account.{Account, ind, sum_below, least, reached_by, fed_step_at}
use Rattle.account.specs.Groups.{leads, copies}
use Rattle.account.specs.Sound.{Sound}
use Rattle.account.proofs.Bounds.{any_from}
use Rattle.account.proofs.Counts.{sum_le}
use Rattle.account.proofs.Step.{step_sound_at}
use Rattle.copies.specs.Sharing.{crowded, free, shares, used}
use Rattle.follows.specs.View.{View}
use Rattle.follows.specs.Follows.{Follows, CellsFollow}
use Rattle.follows.specs.Steps.{group_in}
use Rattle.follows.proofs.Mid.{Mid, Spare, done, group_after, place_mid, reached_mid}
use Rattle.follows.proofs.Below.{any_at}
use Rattle.follows.proofs.Copies.{eqb_turned, used_copies}
use Rattle.follows.proofs.Parting.{Finer, ind_le, ind_less, leads_on, new_leader}
use Rattle.follows.proofs.Step.{Head, Finds, at_receiver, group_same, inside}
use Rattle.follows.proofs.Sums.{find_passes, some_fails, sum_less}
use Rattle.follows.proofs.Taking.{small}

-- an account to come, and cells as they are now, by which all share that share then
module _ (M : Meaning) (B : Account) (s : Sound M B) (live : Group) (same : (v : ℕ) → has live v ≡ B.live v) (cell : ℕ → ℕ → ℕ) (content : ℕ → Place) (place : ℕ → ℕ → Place) (reached : ℕ → ℕ → ℕ → Bool)
    (c : CellsFollow M.places B.live cell content place reached) (finer : (p x y : ℕ) → B.reached x y p ≡ false → reached x y p ≡ false) where
  abbrev now : ℕ → ℕ → ℕ → Bool
  now p x y = not (reached x y p)

  abbrev then : ℕ → ℕ → ℕ → Bool
  then p x y = not (B.reached x y p)

  finer_at : (p : ℕ) → p < M.places → Finer B.live (now p) (then p)
  finer_at p l = record {
    few = small M B s;
    now_turned = λ x y a b. sym (c.shared x y p a b l) ∙ eqb_turned (cell x p) (cell y p) ∙ c.shared y x p b a l;
    now_through = λ x y z a b d e g. sym (c.shared x z p a d l) ∙ eq-eqb _ _ (eqb-true _ _ (c.shared x y p a b l ∙ e) ∙ eqb-true _ _ (c.shared y z p b d l ∙ g));
    then_self = λ x. not_from_false _ (s.reached_self x p);
    then_turned = λ x y. ap not (s.reached_sym x y p);
    then_through = λ x y z a b d e g. not_from_false _ (s.reached_through x y z p a b d (not-true _ e) (not-true _ g));
    finer = λ x y e. not_from_false _ (finer p x y (not-true _ e));
  }

  module _ (r n u : ℕ) (inside : r < M.places) (n_lives : B.live n ≡ true) (u_lives : B.live u ≡ true) (one_cell : cell n r ≡ cell u r) (parted : B.reached n u r ≡ true) (room : copies M B ≤ 128) where
    -- fewer cells are in use than groups are left
    fewer : sum_below (λ k. ind (used M.places cell live k)) 128 < copies M B
    fewer =
        let a = used_copies M.places live B.live cell content place reached same c in
        let v = new_leader B.live (now r) (then r) (finer_at r inside) n u n_lives u_lives (sym (c.shared n u r n_lives u_lives inside) ∙ eq-eqb _ _ one_cell) (ap not parted) in
        let b : sum_below (λ p. sum_below (λ v. ind (leads B.live (now p) v)) 16) M.places < copies M B =
        sum_less _ _ M.places r (λ p l. sum_le _ _ 16 (λ v m. ind_le _ _ (leads_on B.live (now p) (then p) (finer_at p l) v))) inside
        (sum_less _ _ 16 v.0 (λ v m. ind_le _ _ (leads_on B.live (now r) (then r) (finer_at r inside) v)) v.1 (ind_less _ _ v.2 v.3)) in
        omega (arith, a, b)

    -- so a free one is found
    found : (t : ℕ) × (free M.places cell live ≡ Some t) × (t < 128) × (used M.places cell live t ≡ false)
    found =
        let a = some_fails (used M.places cell live) 128 (let a = fewer in omega (arith, a, room)) in
        let t = find_passes (λ k. not (used M.places cell live k)) 0 128 a.0 (omega arith) (let l = a.1 in omega arith) (not_from_false _ a.2) in
        (t.0, t.1, (let l = t.2 in omega arith), not-true _ t.3)

    pub free_found : is_some (free M.places cell live) ≡ true
    free_found = ap is_some found.1

    pub free_spare : (group : ℕ → Bool) (own : ℕ) → Spare M.places B.live cell group r (unwrap_or (free M.places cell live) own)
    free_spare group own = subst (λ (o : Option ℕ). Spare M.places B.live cell group r (unwrap_or o own)) (sym found.1) (record { inside = found.2; apart = λ x q l m e. absurd (served x q l m e) })
      where
        served : (x q : ℕ) → B.live x ≡ true → q < M.places → cell x q ≡ found.0 → ⊥
        served x q l m e = both_ways (used M.places cell live found.0) found.3 (any_from _ M.places q m (any_from _ 16 x (small M B s x l) (and_from (has live x) _ (same x ∙ l) (eq-eqb _ _ e))))

-- in a step
module _ (M : Meaning) (law : Law M) (A : Account) (s : Sound M A) (k : Key) (e : least A 16 ≡ Some k) (V : View) (f : Follows M V A) (room : copies M (fed_step_at M A (Some k)) ≤ 128) where
  module _ (n : ℕ) (W : View) (h : Held) (c : Mid M A k n W) (d : Head M law A s k e V f n h) (y : crowded W.cell W.live (group_in W h n) h.message.receiver n ≡ true) where
    finer : (p x y : ℕ) → reached_by A k x y p ≡ false → reached_mid A k n x y p ≡ false
    finer p x y q = cond_both (done A k n x || done A k n y) (reached_by A k x y p) (A.reached x y p) (λ b. b ≡ false) (λ _. q) (λ _. (or_parts (A.reached x y p) _ q).0)

    -- one outside the group that has n's cell
    other : (u : ℕ) × (A.live u ≡ true) × (W.cell n h.message.receiver ≡ W.cell u h.message.receiver) × (reached_by A k n u h.message.receiver ≡ true)
    other =
        let w = any_at (λ u. has W.live u && (shares W.cell h.message.receiver u n && not (has (group_in W h n) u))) 16 y in
        let a = and_parts (has W.live w.0) _ w.2 in
        let b = and_parts (shares W.cell h.message.receiver w.0 n) _ a.1 in
        let l : A.live w.0 ≡ true = sym (c.same_live w.0) ∙ a.0 in
        let g : group_after A k n w.0 ≡ false = sym (group_same M law A s k e V f n h d n W c w.0) ∙ not-true _ b.1 in
        (w.0, l, sym (eqb-true _ _ b.0), ap (λ q. reached_by A k n w.0 q) (at_receiver M law A s k e V f n h d) ∙ not-false _ (sym (ap (λ t. t && not (reached_by A k n w.0 k.receiver)) l) ∙ g))

    pub step_found : is_some (free M.places W.cell W.live) ≡ true
    step_found =
        free_found M (fed_step_at M A (Some k)) (step_sound_at M law A s k e) W.live c.same_live W.cell W.content (place_mid M A k n) (reached_mid A k n) c.cells finer h.message.receiver n other.0 (inside M law A s k e V f n h d) d.alive
        other.1 other.2 other.3 room

    step_spare : Spare M.places A.live W.cell (has (group_in W h n)) h.message.receiver (unwrap_or (free M.places W.cell W.live) (W.cell n h.message.receiver))
    step_spare =
        free_spare M (fed_step_at M A (Some k)) (step_sound_at M law A s k e) W.live c.same_live W.cell W.content (place_mid M A k n) (reached_mid A k n) c.cells finer h.message.receiver n other.0 (inside M law A s k e V f n h d) d.alive
        other.1 other.2 other.3 room (has (group_in W h n)) (W.cell n h.message.receiver)

  pub step_finds : Finds M law A s k e V f
  step_finds n W h c d y = step_spare n W h c d y
