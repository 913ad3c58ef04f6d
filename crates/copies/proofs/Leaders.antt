-- The smallest of those that share a cell, taken group by group.
use Rattle.std.proofs.Common.{◌≡◌, ℕ, ◌<◌, ◌≤◌, Bool, true, false, eqb, ltb, not, ◌&&◌, ◌||◌, List, length, drop, ◌⊎◌, inl, inr, sym, refl, ap, ◌∙◌, ⊎_elim, arith}
use Rattle.std.proofs.lemmas.Bool.{cases_Bool, cases_eq, cases_lt, both_ways, and_parts, and_from, and_right, eq-eqb, eqb-true, ne_eqb, lt-ltb, not_from_false}
use Rattle.std.proofs.lemmas.List.{drop_all}
use Rattle.group.specs.declared.Group.{Group}
use Rattle.group.specs.Groups.{has}
use Rattle.group.proofs.Members.{has_gathered}
use Rattle.event.specs.Lists.{first}
use Rattle.calendar.specs.declared.Held.{Held}
use Rattle.calendar.specs.Calls.{waiting}
use Rattle.account.specs.Account.{any_below}
use Rattle.account.proofs.Bounds.{any_from}
use Rattle.copies.specs.Sharing.{leads_at, sharers, shares}
use Rattle.copies.specs.Executions.{leads_message}
use Rattle.copies.proofs.Leads.{any_at}
use Rattle.copies.proofs.Members.{member_small}

-- of a group all that share a cell with one that has been taken are gone, and of each such cell its smallest leads
pub record Parted (cell : ℕ → ℕ → ℕ) (group : Group) (p : ℕ) (leaders rest : Group) : Type 0 where
  pub left : (w : ℕ) → has rest w ≡ true → has group w ≡ true
  pub whole : (u w : ℕ) → has rest w ≡ true → has group u ≡ true → cell u p ≡ cell w p → has rest u ≡ true
  pub led : (w : ℕ) → has leaders w ≡ ((has group w && not (has rest w)) && leads_at cell group p w)

-- the smallest that is left leads, and those that share its cell go with it
module _ (cell : ℕ → ℕ → ℕ) (group : Group) (p : ℕ) (leaders rest leaders' rest' : Group) (v : ℕ) (h : Parted cell group p leaders rest) (is : has rest v ≡ true) (low : (w : ℕ) → w < v → has rest w ≡ false)
    (l : (w : ℕ) → has leaders' w ≡ ((ltb v 16 && eqb w v) || has leaders w)) (r : (w : ℕ) → has rest' w ≡ (has rest w && not (has (sharers cell group p v) w))) where
  member : has group v ≡ true
  member = h.left v is

  shared : (w u : ℕ) → has (sharers cell group p w) u ≡ true → (has group u ≡ true) × (cell u p ≡ cell w p)
  shared w u e =
      let a = and_parts (ltb u 16) _ (sym (has_gathered (λ x. has group x && shares cell p x w) 16 u) ∙ e) in
      let b = and_parts (ltb u 16) _ a.1 in
      let d = and_parts (has group u) _ b.1 in
      (d.0, eqb-true _ _ d.1)

  to_shared : (w u : ℕ) → has group u ≡ true → cell u p ≡ cell w p → has (sharers cell group p w) u ≡ true
  to_shared w u e s =
      let small = lt-ltb u 16 (member_small group u e) in
      has_gathered (λ x. has group x && shares cell p x w) 16 u ∙ and_from (ltb u 16) _ small (and_from (ltb u 16) _ small (and_from (has group u) _ e (eq-eqb _ _ s)))

  leads : leads_at cell group p v ≡ true
  leads = ⊎_elim
      (λ (e : any_below (has (sharers cell group p v)) v ≡ true).
      let a = any_at (has (sharers cell group p v)) v e in
      let s = shared v a.0 a.2 in
      absurd (both_ways (has rest a.0) (low a.0 a.1) (h.whole a.0 v is s.0 s.1)))
      (λ (e : any_below (has (sharers cell group p v)) v ≡ false). not_from_false _ e) (cases_Bool (any_below (has (sharers cell group p v)) v))

  follows : (w : ℕ) → has group w ≡ true → cell w p ≡ cell v p → v < w → leads_at cell group p w ≡ false
  follows w e s k = ap not (any_from (has (sharers cell group p w)) w v k (to_shared w v member (sym s)))

  -- v is not left then
  pub parted_fewer : has rest' v ≡ false
  parted_fewer = r v ∙ ap (λ b. has rest v && not b) (to_shared v v member refl) ∙ and_right (has rest v) false refl

  pub parted_more : Parted cell group p leaders' rest'
  parted_more = record {
    left = λ w e. h.left w (and_parts (has rest w) _ (sym (r w) ∙ e)).0;
    whole = λ u w e g s.
        let a = and_parts (has rest w) _ (sym (r w) ∙ e) in
        let k = h.whole u w a.0 g s in
        r u ∙ and_from (has rest u) _ k (⊎_elim
        (λ (t : has (sharers cell group p v) u ≡ true). absurd (both_ways (not (has (sharers cell group p v) w)) (ap not (to_shared v w (h.left w a.0) (sym s ∙ (shared v u t).1))) a.1))
        (λ (t : has (sharers cell group p v) u ≡ false). not_from_false _ t) (cases_Bool (has (sharers cell group p v) u)));
    led = λ w. l w ∙ go w (cases_Bool (has rest w)) (cases_Bool (has (sharers cell group p v) w)) (cases_eq w v) ∙ sym (ap (λ b. (has group w && not b) && leads_at cell group p w) (r w));
  }
    where
      small : ltb v 16 ≡ true
      small = lt-ltb v 16 (member_small group v member)

      go : (w : ℕ) → (has rest w ≡ true) ⊎ (has rest w ≡ false) → (has (sharers cell group p v) w ≡ true) ⊎ (has (sharers cell group p v) w ≡ false) → (w ≡ v) ⊎ (w ≡ v → ⊥)
          → ((ltb v 16 && eqb w v) || has leaders w) ≡ ((has group w && not (has rest w && not (has (sharers cell group p v) w))) && leads_at cell group p w)
      go w (inr a) s (inl e) = absurd (both_ways (has rest w) a (ap (has rest) e ∙ is))
      go w (inr a) s (inr ne) = simp (ne_eqb w v ne, small, a) (h.led w ∙ ap (λ b. (has group w && not b) && leads_at cell group p w) a)
      go w (inl a) (inl s) (inl e) = simp (eq-eqb w v e, small, a, s, h.left w a, ap (leads_at cell group p) e ∙ leads) refl
      go w (inl a) (inl s) (inr ne) =
          let d : v < w = ⊎_elim (λ (k : w < v). absurd (both_ways (has rest w) (low w k) a)) (λ (k : v ≤ w). omega (arith, k, ne)) (cases_lt w v) in
          simp (ne_eqb w v ne, small, a, s, h.left w a, follows w (h.left w a) (shared v w s).1 d) (h.led w ∙ simp (a, h.left w a) refl)
      go w (inl a) (inr s) (inl e) = absurd (both_ways (has (sharers cell group p v) w) s (to_shared v w (h.left w a) (ap (λ x. cell x p) e)))
      go w (inl a) (inr s) (inr ne) = simp (ne_eqb w v ne, small, a, s, h.left w a) (h.led w ∙ simp (a, h.left w a) refl)

-- no message is left to lead
pub none_left : (cell : ℕ → ℕ → ℕ) (heads : List Held) (i v : ℕ) (leads seen told : Bool) → length heads ≤ i → (leads || (not seen && leads_message cell v (first (waiting v (drop i heads))))) ≡ told → leads ≡ told
none_left cell heads i v leads seen told l h = none leads seen ∙ sym (ap (λ xs. leads || (not seen && leads_message cell v (first (waiting v xs)))) (drop_all i heads l)) ∙ h
  where
    none : (a b : Bool) → a ≡ (a || (not b && false))
    none true b = refl
    none false true = refl
    none false false = refl
