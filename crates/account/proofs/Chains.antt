-- A chain reaches what is reached: the claim, and load, branch, decide, waive and retire keep it so.
use Rattle.std.proofs.Common.{◌≡◌, ℕ, suc, ◌<◌, Bool, true, false, not, ◌&&◌, ◌||◌, eqb, ◌⊎◌, List, [], ◌∷◌, ◌++◌, map, length, Some, sym, refl, ap, ◌∙◌, subst, inl, inr, ⊎_elim, arith}
use Rattle.std.specs.List.{AllByRecursion}
use Rattle.std.proofs.ByRecursion.{All-weaker, All-push}
use Rattle.std.proofs.lemmas.Bool.{cases_Bool, both_ways, cond_both, cond-true, cond-false, cases_eq, eq-eqb, ne_eqb, eqb-true, eqb-false, or_cases, or_parts, or_from, or_left, or_right, and_parts, and_from, not-true}
use Rattle.event.specs.declared.Message.{Message}
use Rattle.event.specs.declared.Start.{Start}
use Rattle.event.specs.declared.Key.{Key}
use Rattle.event.specs.Keys.{key_of}
use Rattle.event.specs.Lists.{first}
use Rattle.account.specs.Finds.{find}
use Rattle.model.specs.Meaning.{Meaning}
use Rattle.day.specs.Day.{ordered}
use Rattle.day.specs.Alone.{Order, alone}
use Rattle.account.specs.Orders.{Given, plain, alone_under}
use Rattle.std.proofs.lemmas.List.{map-append}
use Rattle.account.specs.Account.{Account, empty, origin, sent_at, fed_load, fed_branch, fed_decide, fed_waive, fed_retire}
use Rattle.account.specs.Chain.{Run, In, Runs, Sends, Moment, set, ran, Since, Touched, by_order, by_message, Carried, run_of}
use Rattle.account.proofs.Calls.{live_origin}
use Rattle.day.proofs.Alone.{alone_before}

abbrev pub duo : Account → (Bool → ℕ) → Bool → Run
duo A u x = run_of A (u x)

abbrev pub Live : Account → (Bool → ℕ) → Type 0
Live A u = (x : Bool) → A.live (u x) ≡ true

pub record Chained (M : Meaning) (A : Account) : Type 0 where
  pub named : (w : ℕ) → A.live w ≡ true → AllByRecursion (λ o. (A.undecided o.by ≡ false) × (o.by < A.made)) (A.orders w)
  pub reached_to : (u : Bool → ℕ) (p : ℕ) → Live A u → A.reached (u true) (u false) p ≡ true → (t : Moment) × Touched M A.end A.load (duo A u) t p
  pub reached_from : (u : Bool → ℕ) (p : ℕ) (t : Moment) → Live A u → Touched M A.end A.load (duo A u) t p → A.reached (u true) (u false) p ≡ true
  pub marked_to : (u : Bool → ℕ) (x : Bool) (k : Key) (m : Message) → Live A u → A.marked (u true) (u false) k ≡ true → find k (A.day (u x)).waiting ≡ Some m → Carried M A.end A.load (duo A u) x m
  pub marked_from : (u : Bool → ℕ) (x : Bool) (k : Key) (m : Message) → Live A u → find k (A.day (u x)).waiting ≡ Some m → Carried M A.end A.load (duo A u) x m → A.marked (u true) (u false) k ≡ true
  pub joint_to : (u : Bool → ℕ) (i : ℕ) → Live A u → i < length (A.day (u true)).journal → A.joint (u true) (u false) i ≡ true
      → (j : ℕ) × (m : Message) × Runs M A.end A.load (run_of A (u true)) i m × Runs M A.end A.load (run_of A (u false)) j m × (Carried M A.end A.load (duo A u) true m → ⊥)
  pub joint_from : (u : Bool → ℕ) (i j : ℕ) (m : Message) → Live A u → Runs M A.end A.load (run_of A (u true)) i m → Runs M A.end A.load (run_of A (u false)) j m
      → (Carried M A.end A.load (duo A u) true m → ⊥) → A.joint (u true) (u false) i ≡ true

module _ (M : Meaning) (end : ℕ) (load : List Start) (r r' : Bool → Run) where
  -- the second history goes on from the first
  pub record Grows : Type 0 where
    pub own_in : (x : Bool) (o : Given) → In o (r x).orders → In o (r' x).orders
    pub own_out : (x : Bool) (o : Given) → In o (r x).orders → (In o (r (not x)).orders → ⊥) → In o (r' (not x)).orders → ⊥
    pub runs : (x : Bool) (i : ℕ) (m : Message) → Runs M end load (r x) i m → Runs M end load (r' x) i m
    pub sends : (x : Bool) (i : ℕ) (m₀ m : Message) → Runs M end load (r x) i m₀ → Sends M end load (r x) i m → Sends M end load (r' x) i m

  pub since_grows : Grows → (t : Moment) (k : Key) → Since M end load r t k → Since M end load r' t k
  since_grows g (set x n) k s = (s.0, s.1, g.runs x s.0 s.1 s.2, s.3, s.4)
  since_grows g (ran j) k s = s

  pub touched_grows : Grows → {t : Moment} {p : ℕ} → Touched M end load r t p → Touched M end load r' t p
  touched_grows g (by_order x o a b) = by_order x o (g.own_in x o a) (g.own_out x o a b)
  touched_grows g (by_message {t} x i j m₀ m T R S D R') = by_message x i j m₀ m (touched_grows g T) (g.runs x i m₀ R) (since_grows g t (key_of m₀) S) (g.sends x i m₀ m R D) (g.runs x j m R')

  pub carried_grows : Grows → (x : Bool) (m : Message) → Carried M end load r x m → Carried M end load r' x m
  carried_grows g x m c = record {
    i = c.i;
    m₀ = c.m₀;
    t = c.t;
    touched = touched_grows g c.touched;
    runs = g.runs x c.i c.m₀ c.runs;
    since = since_grows g c.t (key_of c.m₀) c.since;
    sends = g.sends x c.i c.m₀ m c.runs c.sends;
  }

-- where nobody has an order, nothing is touched
untouched : (M : Meaning) (end : ℕ) (load : List Start) (r : Bool → Run) → ((x : Bool) → (r x).orders ≡ []) → {t : Moment} {p : ℕ} → Touched M end load r t p → ⊥
untouched M end load r h (by_order x o a b) = subst (In o) (h x) a
untouched M end load r h (by_message x i j m₀ m T R S D R') = untouched M end load r h T

pub empty_chained : (M : Meaning) → Chained M (empty M)
empty_chained M = record {
  named = λ w h. tt;
  reached_to = λ u p l h. absurd (both_ways false refl h);
  reached_from = λ u p t l T. absurd (untouched M 0 [] (duo (empty M) u) (λ x. refl) T);
  marked_to = λ u x k m l h f. absurd (both_ways false refl h);
  marked_from = λ u x k m l f c. absurd (untouched M 0 [] (duo (empty M) u) (λ x. refl) c.touched);
  joint_to = λ u i l h j. absurd (both_ways false refl (l true));
  joint_from = λ u i j m l a b n. refl;
}

pub load_chained : (M : Meaning) (A : Account) (l : List Start) (end : ℕ) → Chained M (fed_load M A l end)
load_chained M A ls end = record {
  named = λ w h. tt;
  reached_to = λ u p l h. absurd (both_ways false refl h);
  reached_from = λ u p t l T. absurd (untouched M end ls (duo (fed_load M A ls end) u) (λ x. refl) T);
  marked_to = λ u x k m l h f. absurd (both_ways false refl h);
  marked_from = λ u x k m l f c. absurd (untouched M end ls (duo (fed_load M A ls end) u) (λ x. refl) c.touched);
  joint_to = λ u i l h j. absurd (let z : ⊥ = omega arith in z);
  joint_from = λ u i j m l a b n. refl;
}

pub branch_chained : (M : Meaning) (A : Account) (v : ℕ) → A.live v ≡ true → Chained M A → Chained M (fed_branch A v)
branch_chained M A v l c = record {
  named = λ w h. All-weaker (λ o. (A.undecided o.by ≡ false) × (o.by < A.made)) (λ o. ((eqb o.by A.made || A.undecided o.by) ≡ false) × (o.by < suc A.made))
      (λ o n. let a = n.0 in let b = n.1 in (or_from _ _ (ne_eqb o.by A.made (λ e. let z : ⊥ = omega arith in z)) a, (let z : o.by < suc A.made = omega arith in z))) (A.orders (origin v A.made w)) (c.named (origin v A.made w) (live_origin A v l w h));
  reached_to = λ u p h. c.reached_to (λ x. origin v A.made (u x)) p (λ x. live_origin A v l (u x) (h x));
  reached_from = λ u p t h. c.reached_from (λ x. origin v A.made (u x)) p t (λ x. live_origin A v l (u x) (h x));
  marked_to = λ u x k m h. c.marked_to (λ x. origin v A.made (u x)) x k m (λ x. live_origin A v l (u x) (h x));
  marked_from = λ u x k m h. c.marked_from (λ x. origin v A.made (u x)) x k m (λ x. live_origin A v l (u x) (h x));
  joint_to = λ u i h. c.joint_to (λ x. origin v A.made (u x)) i (λ x. live_origin A v l (u x) (h x));
  joint_from = λ u i j m h. c.joint_from (λ x. origin v A.made (u x)) i j m (λ x. live_origin A v l (u x) (h x));
}

pub waive_chained : (M : Meaning) (A : Account) (v : ℕ) → Chained M A → Chained M (fed_waive A v)
waive_chained M A v c = record {
  named = λ w h. All-weaker (λ o. (A.undecided o.by ≡ false) × (o.by < A.made)) (λ o. ((A.undecided o.by && not (eqb o.by v)) ≡ false) × (o.by < A.made))
      (λ o n. (Rattle.std.proofs.lemmas.Bool.and_left _ _ n.0, n.1)) (A.orders w) (c.named w h);
  reached_to = c.reached_to;
  reached_from = c.reached_from;
  marked_to = c.marked_to;
  marked_from = c.marked_from;
  joint_to = c.joint_to;
  joint_from = c.joint_from;
}

pub retire_chained : (M : Meaning) (A : Account) (v : ℕ) → Chained M A → Chained M (fed_retire A v)
retire_chained M A v c = record {
  named = λ w h. c.named w (on w h);
  reached_to = λ u p h. c.reached_to u p (λ x. on (u x) (h x));
  reached_from = λ u p t h. c.reached_from u p t (λ x. on (u x) (h x));
  marked_to = λ u x k m h. c.marked_to u x k m (λ x. on (u x) (h x));
  marked_from = λ u x k m h. c.marked_from u x k m (λ x. on (u x) (h x));
  joint_to = λ u i h. c.joint_to u i (λ x. on (u x) (h x));
  joint_from = λ u i j m h. c.joint_from u i j m (λ x. on (u x) (h x));
}
  where
    on : (x : ℕ) → (fed_retire A v).live x ≡ true → A.live x ≡ true
    on x h = (and_parts (A.live x) (not (eqb x v)) h).0

in_push : (o q : Given) (os : List Given) → In o (os ++ q ∷ []) → In o os ⊎ (o ≡ q)
in_push o q [] (inl e) = inr e
in_push o q [] (inr h) = absurd h
in_push o q (x ∷ os) (inl e) = inl (inl e)
in_push o q (x ∷ os) (inr h) = ⊎_elim (λ a. inl (inr a)) (λ e. inr e) (in_push o q os h)

in_front : (o q : Given) (os : List Given) → In o os → In o (os ++ q ∷ [])
in_front o q [] h = absurd h
in_front o q (x ∷ os) (inl e) = inl e
in_front o q (x ∷ os) (inr h) = inr (in_front o q os h)

in_last : (q : Given) (os : List Given) → In q (os ++ q ∷ [])
in_last q [] = inl refl
in_last q (x ∷ os) = inr (in_last q os)

-- what holds of each order as a day takes it holds of each as it was given
pub all_plain : (P : Order → Type 0) (os : List Given) → AllByRecursion P (map plain os) → AllByRecursion (λ o. P (plain o)) os
all_plain P [] h = tt
all_plain P (o ∷ os) h = (h.0, all_plain P os h.1)

pub all_in : (P : Given → Type 0) (os : List Given) (o : Given) → AllByRecursion P os → In o os → P o
all_in P [] o h i = absurd i
all_in P (x ∷ os) o h (inl e) = subst P (sym e) h.0
all_in P (x ∷ os) o h (inr i) = all_in P os o h.1 i

module _ (M : Meaning) (A : Account) (v place value : ℕ) (free : A.undecided v ≡ true) (lv : A.live v ≡ true) (c : Chained M A) where
  abbrev A' : Account
  A' = fed_decide A v place value

  abbrev new : Given
  new = record { by = v; position = length (A.day v).journal; place = place; value = value }

  journal : (x : ℕ) → (A'.day x).journal ≡ (A.day x).journal
  journal x = cond_both (eqb x v) (ordered (A.day v) place value) (A.day x) (λ d. d.journal ≡ (A.day x).journal) (λ e. ap (λ u. (A.day u).journal) (sym (eqb-true x v e))) (λ _. refl)

  waiting : (x : ℕ) → (A'.day x).waiting ≡ (A.day x).waiting
  waiting x = cond_both (eqb x v) (ordered (A.day v) place value) (A.day x) (λ d. d.waiting ≡ (A.day x).waiting) (λ e. ap (λ u. (A.day u).waiting) (sym (eqb-true x v e))) (λ _. refl)

  -- the days before now are the same
  days : (x i : ℕ) → i < length (A.day x).journal → alone_under M A.end A.load (A'.orders x) i ≡ alone_under M A.end A.load (A.orders x) i
  days x i l = cond_both (eqb x v) (A.orders v ++ new ∷ []) (A.orders x) (λ os. alone_under M A.end A.load os i ≡ alone_under M A.end A.load (A.orders x) i)
      (λ e. let q = eqb-true x v e in
      ap (λ (os : List Order). alone M A.end A.load os i) (map-append plain (A.orders v) (new ∷ []))
      ∙ alone_before M A.end A.load (map plain (A.orders v)) (plain new) i (subst (λ y. i < length (A.day y).journal) q l) ∙ ap (λ y. alone_under M A.end A.load (A.orders y) i) (sym q)) (λ _. refl)

  runs_on : (x i : ℕ) (m : Message) → Runs M A.end A.load (run_of A x) i m → Runs M A.end A.load (run_of A' x) i m
  runs_on x i m h = record { early = subst (λ js. i < length js) (sym (journal x)) h.early; head = ap (λ d. first d.waiting) (days x i h.early) ∙ h.head }

  runs_back : (x i : ℕ) (m : Message) → Runs M A.end A.load (run_of A' x) i m → Runs M A.end A.load (run_of A x) i m
  runs_back x i m h =
      let e = subst (λ js. i < length js) (journal x) h.early in
      record { early = e; head = ap (λ d. first d.waiting) (sym (days x i e)) ∙ h.head }

  sends_like : (x i : ℕ) (m : Message) → i < length (A.day x).journal → (Sends M A.end A.load (run_of A x) i m → Sends M A.end A.load (run_of A' x) i m) × (Sends M A.end A.load (run_of A' x) i m → Sends M A.end A.load (run_of A x) i m)
  sends_like x i m l =
      let e = ap (λ d. find (key_of m) (sent_at M A.end d (first d.waiting))) (days x i l) in
      ((λ h. e ∙ h), (λ h. sym e ∙ h))

  -- v's number stands on no order yet
  not_in : (w : ℕ) → A.live w ≡ true → In new (A.orders w) → ⊥
  not_in w l i = both_ways (A.undecided v) (all_in (λ o. (A.undecided o.by ≡ false) × (o.by < A.made)) (A.orders w) new (c.named w l) i).0 free

  other : (x : ℕ) → (x ≡ v → ⊥) → A'.orders x ≡ A.orders x
  other x n = cond-false (eqb x v) (A.orders v ++ new ∷ []) (A.orders x) (ne_eqb x v n)

  mine : (x : ℕ) → x ≡ v → A'.orders x ≡ A.orders x ++ new ∷ []
  mine x e = cond-true (eqb x v) (A.orders v ++ new ∷ []) (A.orders x) (eq-eqb x v e) ∙ ap (λ y. A.orders y ++ new ∷ []) (sym e)

  in_on : (x : ℕ) (o : Given) → In o (A.orders x) → In o (A'.orders x)
  in_on x o h = ⊎_elim (λ e. subst (In o) (sym (mine x e)) (in_front o new (A.orders x) h)) (λ n. subst (In o) (sym (other x n)) h) (cases_eq x v)

  in_back : (x : ℕ) (o : Given) → In o (A'.orders x) → In o (A.orders x) ⊎ ((o ≡ new) × (x ≡ v))
  in_back x o h = ⊎_elim (λ e. ⊎_elim (λ a. inl a) (λ a. inr (a, e)) (in_push o new (A.orders x) (subst (In o) (mine x e) h))) (λ n. inl (subst (In o) (other x n) h)) (cases_eq x v)

  module _ (u : Bool → ℕ) (l : Live A u) where
    abbrev r : Bool → Run
    r = duo A u

    abbrev r' : Bool → Run
    r' = duo A' u

    grows : Grows M A.end A.load (duo A u) (duo A' u)
    grows = record {
      own_in = λ x o h. in_on (u x) o h;
      own_out = λ x o h n i. ⊎_elim n (λ (e : (o ≡ new) × (u (not x) ≡ v)). not_in (u x) (l x) (subst (λ q. In q (A.orders (u x))) e.0 h)) (in_back (u (not x)) o i);
      runs = λ x i m h. runs_on (u x) i m h;
      sends = λ x i m₀ m h d. (sends_like (u x) i m h.early).0 d;
    }

    since_back : (t : Moment) (k : Key) → Since M A.end A.load (duo A' u) t k → Since M A.end A.load (duo A u) t k
    since_back (set x n) k s = (s.0, s.1, runs_back (u x) s.0 s.1 s.2, s.3, s.4)
    since_back (ran j) k s = s

    -- only the new order touches anything new
    abbrev New : Moment → ℕ → Type 0
    New t p = (x : Bool) × (t ≡ set x (length (A.day (u x)).journal)) × (p ≡ place) × (u x ≡ v) × (u true ≡ u false → ⊥)

    -- nothing has run since
    too_late : (t : Moment) (p : ℕ) (k : Key) → New t p → Since M A.end A.load (duo A' u) t k → ⊥
    too_late t p k n s =
        let s' = subst (λ t. Since M A.end A.load (duo A' u) t k) n.1 s in
        let a = (runs_back (u n.0) s'.0 s'.1 s'.2).early in let b = s'.4 in omega (arith, a, b)

    parted : (x : Bool) (o : Given) → In o (A'.orders (u x)) → (In o (A'.orders (u (not x))) → ⊥) → u true ≡ u false → ⊥
    parted true o a b e = b (subst (λ y. In o (A'.orders y)) e a)
    parted false o a b e = b (subst (λ y. In o (A'.orders y)) (sym e) a)

    strip : {t : Moment} {p : ℕ} → Touched M A.end A.load (duo A' u) t p → Touched M A.end A.load (duo A u) t p ⊎ New t p
    strip (by_order x o a b) = ⊎_elim (λ h. inl (by_order x o h (λ i. b (in_on (u (not x)) o i))))
        (λ e. inr (x, ap (λ q. set x q.position) e.0 ∙ ap (λ y. set x (length (A.day y).journal)) (sym e.1), ap (λ q. q.place) e.0, e.1, parted x o a b)) (in_back (u x) o a)
    strip (by_message {t} x i j m₀ m T R S D R') =
        let R₀ = runs_back (u x) i m₀ R in
        ⊎_elim (λ T₀. inl (by_message x i j m₀ m T₀ R₀ (since_back t (key_of m₀) S) ((sends_like (u x) i m R₀.early).1 D) (runs_back (u x) j m R')))
        (λ n. absurd (too_late t m₀.receiver (key_of m₀) n S)) (strip T)

    to : (p : ℕ) → A'.reached (u true) (u false) p ≡ true → (t : Moment) × Touched M A.end A.load (duo A' u) t p
    to p h = ⊎_elim (λ o. let T = c.reached_to u p l o in (T.0, touched_grows M A.end A.load (duo A u) (duo A' u) grows T.1)) fresh (or_cases (A.reached (u true) (u false) p) _ h)
      where
        one : (x : Bool) → p ≡ place → u x ≡ v → (u (not x) ≡ v → ⊥) → (t : Moment) × Touched M A.end A.load (duo A' u) t p
        one x e q n = (
          set x (length (A.day v).journal),
          subst (λ p. Touched M A.end A.load (duo A' u) (set x (length (A.day v).journal)) p) (sym e)
              (by_order x new (subst (In new) (sym (mine (u x) q)) (in_last new (A.orders (u x)))) (λ i. not_in (u (not x)) (l (not x)) (subst (In new) (other (u (not x)) n) i))),
        )

        fresh : (eqb p place && (not (eqb (u true) (u false)) && (eqb (u true) v || eqb (u false) v))) ≡ true → (t : Moment) × Touched M A.end A.load (duo A' u) t p
        fresh f =
            let a = and_parts (eqb p place) _ f in let b = and_parts (not (eqb (u true) (u false))) _ a.1 in
            let e = eqb-true p place a.0 in let n = eqb-false (u true) (u false) (not-true _ b.0) in
            ⊎_elim (λ q. let q' = eqb-true (u true) v q in one true e q' (λ w. n (q' ∙ sym w))) (λ q. let q' = eqb-true (u false) v q in one false e q' (λ w. n (w ∙ sym q'))) (or_cases (eqb (u true) v) (eqb (u false) v) b.1)

    from : (p : ℕ) (t : Moment) → Touched M A.end A.load (duo A' u) t p → A'.reached (u true) (u false) p ≡ true
    from p t T = ⊎_elim (λ T₀. or_left _ _ (c.reached_from u p t l T₀)) (λ n. or_right _ _ (and_from _ _ (eq-eqb p place n.2) (and_from _ _ (Rattle.std.proofs.lemmas.Bool.not_from_false _ (ne_eqb _ _ n.4)) (which n.0 n.3)))) (strip T)
      where
        which : (x : Bool) → u x ≡ v → (eqb (u true) v || eqb (u false) v) ≡ true
        which true e = or_left _ _ (eq-eqb (u true) v e)
        which false e = or_right _ _ (eq-eqb (u false) v e)

    carried_back : (x : Bool) (m : Message) → Carried M A.end A.load (duo A' u) x m → Carried M A.end A.load (duo A u) x m
    carried_back x m h =
        let R₀ = runs_back (u x) h.i h.m₀ h.runs in
        ⊎_elim (λ T₀. record { i = h.i; m₀ = h.m₀; t = h.t; touched = T₀; runs = R₀; since = since_back h.t (key_of h.m₀) h.since; sends = (sends_like (u x) h.i m R₀.early).1 h.sends })
        (λ n. absurd (too_late h.t h.m₀.receiver (key_of h.m₀) n h.since)) (strip h.touched)

  pub decide_chained : A.made ≡ A.made → v < A.made → Chained M (fed_decide A v place value)
  decide_chained _ given = record {
    named = λ w h. cond_both (eqb w v) (A.orders v ++ new ∷ []) (A.orders w) (AllByRecursion (λ o. ((A.undecided o.by && not (eqb o.by v)) ≡ false) × (o.by < A.made)))
        (λ e. All-push (λ o. ((A.undecided o.by && not (eqb o.by v)) ≡ false) × (o.by < A.made)) (A.orders v) new (old v lv) (Rattle.std.proofs.lemmas.Bool.and_right (A.undecided v) (not (eqb v v)) (Rattle.std.proofs.lemmas.Bool.not_from_true (eqb v v) (eq-eqb v v refl)), given))
        (λ _. old w h);
    reached_to = λ u p l. to u l p;
    reached_from = λ u p t l. from u l p t;
    marked_to = λ u x k m l h f. carried_grows M A.end A.load (duo A u) (duo A' u) (grows u l) x m (c.marked_to u x k m l h (ap (find k) (sym (waiting (u x))) ∙ f));
    marked_from = λ u x k m l f h. c.marked_from u x k m l (ap (find k) (sym (waiting (u x))) ∙ f) (carried_back u l x m h);
    joint_to = λ u i l h q. let n = c.joint_to u i l (subst (λ js. i < length js) (journal (u true)) h) q in
        (n.0, n.1, runs_on (u true) i n.1 n.2, runs_on (u false) n.0 n.1 n.3, λ C. n.4 (carried_back u l true n.1 C));
    joint_from = λ u i j m l a b n. c.joint_from u i j m l (runs_back (u true) i m a) (runs_back (u false) j m b) (λ C. n (carried_grows M A.end A.load (duo A u) (duo A' u) (grows u l) true m C));
  }
    where
      old : (w : ℕ) → A.live w ≡ true → AllByRecursion (λ o. ((A.undecided o.by && not (eqb o.by v)) ≡ false) × (o.by < A.made)) (A.orders w)
      old w h = All-weaker (λ o. (A.undecided o.by ≡ false) × (o.by < A.made)) (λ o. ((A.undecided o.by && not (eqb o.by v)) ≡ false) × (o.by < A.made)) (λ o n. (Rattle.std.proofs.lemmas.Bool.and_left _ _ n.0, n.1)) (A.orders w) (c.named w h)
