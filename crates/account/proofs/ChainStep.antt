-- A chain reaches what is reached: a step keeps it so.
use Rattle.std.proofs.Common.{◌≡◌, ℕ, suc, ◌<◌, ◌≤◌, Bool, true, false, cond, not, ◌&&◌, ◌||◌, eqb, ◌⊎◌, map, length, Some, None, Option, sym, refl, ap, ◌∙◌, subst, inl, inr, ⊎_elim, add-one, arith}
use Rattle.std.specs.List.{AllByRecursion}
use Rattle.std.proofs.lemmas.List.{length_push}
use Rattle.std.proofs.lemmas.Bool.{cases_Bool, both_ways, cond_both, cond-true, cond-false, cases_eq, eq-eqb, ne_eqb, eqb-true, or_cases, or_parts, or_from, or_left, or_right, and_parts, and_from, and_right}
use Rattle.event.specs.declared.Message.{Message}
use Rattle.event.specs.declared.Key.{Key}
use Rattle.event.specs.Keys.{key_of, before, same}
use Rattle.event.specs.Lists.{first}
use Rattle.account.specs.Finds.{find, some, either}
use Rattle.model.specs.Meaning.{Meaning, Law}
use Rattle.day.specs.Day.{posted_by}
use Rattle.account.specs.Orders.{alone_under, plain}
use Rattle.account.specs.Account.{Account, least, runs, sends, sent_at, reached_by, fed_step_at, fed_step}
use Rattle.account.specs.Sound.{Sound, Faithful}
use Rattle.account.specs.Chain.{Runs, Sends, Moment, set, ran, Since, Touched, by_order, by_message, Carried, run_of}
use Rattle.event.proofs.Orders.{never}
use Rattle.std.proofs.lemmas.Option.{none-some}
use Rattle.account.proofs.Finding.{find_key, all_find}
use Rattle.account.proofs.Events.{all_first}
use Rattle.account.proofs.Step.{Ran, ran_from, who, one_way, some_is, some_from, sends_ran, sends_runs, sends_over, marked_sent, marked_kept, find_ran, find_old, day_ran, day_idle, reached_sym'}
use Rattle.account.proofs.Clock.{Clock, Ahead, sent_ahead}
use Rattle.account.proofs.Past.{number_below, ran_in, sent_from}
use Rattle.account.proofs.Chains.{duo, Live, Chained, Grows, touched_grows, carried_grows, all_in, all_plain}

module _ (M : Meaning) (law : Law M) (A : Account) (s : Sound M A) (f : Faithful M A) (clock : Clock A) (c : Chained M A) (k : Key) (is : least A 16 ≡ Some k) where
  abbrev A' : Account
  A' = fed_step_at M A (Some k)

  abbrev count : ℕ → ℕ
  count v = length (A.day v).journal

  abbrev RunsOf : ℕ → ℕ → Message → Type 0
  RunsOf v i m = Runs M A.end A.load (run_of A v) i m

  abbrev RunsOf' : ℕ → ℕ → Message → Type 0
  RunsOf' v i m = Runs M A.end A.load (run_of A' v) i m

  count_ran : (v : ℕ) (m : Message) → Ran A k v m → length (A'.day v).journal ≡ suc (length (A.day v).journal)
  count_ran v m r = ap (λ d. length d.journal) (day_ran M law A s k is v m r) ∙ length_push (A.day v).journal m ∙ add-one (length (A.day v).journal)

  count_idle : (v : ℕ) → runs A k v ≡ false → length (A'.day v).journal ≡ length (A.day v).journal
  count_idle v h = ap (λ d. length d.journal) (day_idle M law A s k is v h)

  runs_keep : (v i : ℕ) (m : Message) → A.live v ≡ true → RunsOf v i m → RunsOf' v i m
  runs_keep v i m l h = record { early = go (who M law A s k is v l); head = h.head }
    where
      go : ((m : Message) × Ran A k v m) ⊎ ((runs A k v ≡ false) × (find k (A.day v).waiting ≡ None)) → i < length (A'.day v).journal
      go (inl x) = let a = count_ran v x.0 x.1 in let b = h.early in subst (λ n. i < n) (sym a) (let z : i < suc (length (A.day v).journal) = omega (arith, b) in z)
      go (inr x) = subst (λ n. i < n) (sym (count_idle v x.0)) h.early

  runs_new : (v : ℕ) (m : Message) → A.live v ≡ true → Ran A k v m → RunsOf' v (length (A.day v).journal) m
  runs_new v m l r = record {
    early = subst (λ n. length (A.day v).journal < n) (sym (count_ran v m r)) (let z : length (A.day v).journal < suc (length (A.day v).journal) = omega arith in z);
    head = ap (λ d. first d.waiting) (sym ((f v l).day)) ∙ r.head;
  }

  runs_split : (v i : ℕ) (m : Message) → A.live v ≡ true → RunsOf' v i m → RunsOf v i m ⊎ ((i ≡ length (A.day v).journal) × Ran A k v m)
  runs_split v i m l h = go (who M law A s k is v l) (cases_eq i (length (A.day v).journal))
    where
      go : ((m : Message) × Ran A k v m) ⊎ ((runs A k v ≡ false) × (find k (A.day v).waiting ≡ None)) → (i ≡ length (A.day v).journal) ⊎ (i ≡ length (A.day v).journal → ⊥) → RunsOf v i m ⊎ ((i ≡ length (A.day v).journal) × Ran A k v m)
      go (inr x) e = inl (record { early = subst (λ n. i < n) (count_idle v x.0) h.early; head = h.head })
      go (inl x) (inl e) =
          let g : Some x.0 ≡ Some m = sym x.1.head ∙ ap (λ d. first d.waiting) ((f v l).day) ∙ ap (λ j. first (alone_under M A.end A.load (A.orders v) j).waiting) (sym e) ∙ h.head in
          inr (e, subst (Ran A k v) (some_is x.0 m g) x.1)
      go (inl x) (inr ne) = inl (record { early = (let a = subst (λ n. i < n) (count_ran v x.0 x.1) h.early in let z : i < length (A.day v).journal = omega (arith, a, ne) in z); head = h.head })

  -- what ran before comes before k
  runs_before : (v w i : ℕ) (m y : Message) → A.live v ≡ true → A.live w ≡ true → RunsOf v i m → Ran A k w y → before (key_of m) k ≡ true
  runs_before v w i m y lv lw h r =
      subst (λ j. before (key_of m) j ≡ true) r.key
      (all_first (λ q. before (key_of m) (key_of q) ≡ true) (A.day w).waiting y
      (ran_in M A.end A.load (map plain (A.orders v)) (λ j. Ahead (key_of j) (A.day w).waiting) i (length (A.day v).journal) m h.early h.head
      (subst (λ d. AllByRecursion (λ j. Ahead (key_of j) (A.day w).waiting) d.journal) ((f v lv).day) (clock v w lv lw))) r.head)

  -- what is sent now comes after k
  sent_now : (v : ℕ) (m₀ m : Message) → A.live v ≡ true → Ran A k v m₀ → Sends M A.end A.load (run_of A v) (length (A.day v).journal) m → find (key_of m) (posted_by M A.end ((A.day v).place m₀.receiver) m₀) ≡ Some m
  sent_now v m₀ m l r h =
      ap (λ o. find (key_of m) (sent_at M A.end (A.day v) o)) (sym r.head) ∙ ap (λ d. find (key_of m) (sent_at M A.end d (first d.waiting))) ((f v l).day) ∙ h

  now_sent : (v : ℕ) (m₀ m : Message) → A.live v ≡ true → Ran A k v m₀ → find (key_of m) (posted_by M A.end ((A.day v).place m₀.receiver) m₀) ≡ Some m → Sends M A.end A.load (run_of A v) (length (A.day v).journal) m
  now_sent v m₀ m l r h =
      ap (λ d. find (key_of m) (sent_at M A.end d (first d.waiting))) (sym ((f v l).day)) ∙ ap (λ o. find (key_of m) (sent_at M A.end (A.day v) o)) r.head ∙ h

  sends_after : (v : ℕ) (m₀ m : Message) → A.live v ≡ true → Ran A k v m₀ → Sends M A.end A.load (run_of A v) (length (A.day v).journal) m → before k (key_of m) ≡ true
  sends_after v m₀ m l r h =
      subst (λ j. before j (key_of m) ≡ true) r.key (all_find (λ y. before (key_of m₀) (key_of y) ≡ true) (key_of m) (posted_by M A.end ((A.day v).place m₀.receiver) m₀) m (sent_ahead M law A.end (A.day v) m₀) (sent_now v m₀ m l r h))

  module _ (u : Bool → ℕ) (l : Live A u) where
    grows : Grows M A.end A.load (duo A u) (duo A' u)
    grows = record { own_in = λ x o h. h; own_out = λ x o h n i. n i; runs = λ x i m h. runs_keep (u x) i m (l x) h; sends = λ x i m₀ m h d. d }

    -- only the receiver is newly touched, by a message that was carried
    record New (t : Moment) (p : ℕ) : Type 0 where
      pub moment : t ≡ ran k
      pub at : p ≡ k.receiver
      pub x : Bool
      pub m : Message
      pub did : Ran A k (u x) m
      pub carried : Carried M A.end A.load (duo A u) x m

    never_before : (j : Key) → j ≡ k → before j k ≡ true → ⊥
    never_before j e h = both_ways (before k k) (never k) (subst (λ i. before i k ≡ true) e h)

    since_back : (y : Bool) (i : ℕ) (m₀ : Message) (t : Moment) → RunsOf (u y) i m₀ → Since M A.end A.load (duo A' u) t (key_of m₀) → Since M A.end A.load (duo A u) t (key_of m₀)
    since_back y i m₀ (ran j) R h = h
    since_back y i m₀ (set x n) R h = ⊎_elim (λ R₀. (h.0, h.1, R₀, h.3, h.4))
        (λ q. absurd (never_before (key_of m₀) (sym h.3 ∙ q.1.key) (runs_before (u y) (u x) i m₀ h.1 (l y) (l x) R q.1))) (runs_split (u x) h.0 h.1 (l x) h.2)

    -- no event before now is since the new moment
    too_late : (t : Moment) (p : ℕ) (y : Bool) (i : ℕ) (m₀ : Message) → New t p → RunsOf (u y) i m₀ → Since M A.end A.load (duo A' u) t (key_of m₀) → ⊥
    too_late t p y i m₀ n R h =
        both_ways (before (key_of m₀) k) (subst (λ t. Since M A.end A.load (duo A' u) t (key_of m₀)) n.moment h) (runs_before (u y) (u n.x) i m₀ n.m (l y) (l n.x) R n.did)

    -- what is sent now is not run yet
    not_yet : (x : Bool) (j : ℕ) (m₀ m : Message) → Ran A k (u x) m₀ → Sends M A.end A.load (run_of A (u x)) (length (A.day (u x)).journal) m → RunsOf' (u x) j m → ⊥
    not_yet x j m₀ m r D R' =
        let a = sends_after (u x) m₀ m (l x) r D in
        ⊎_elim (λ R₀. both_ways (before k (key_of m)) (one_way (key_of m) k (runs_before (u x) (u x) j m m₀ (l x) (l x) R₀ r)) a)
        (λ q. both_ways (before k k) (never k) (subst (λ i. before k i ≡ true) q.1.key a)) (runs_split (u x) j m (l x) R')

    strip : {t : Moment} {p : ℕ} → Touched M A.end A.load (duo A' u) t p → Touched M A.end A.load (duo A u) t p ⊎ New t p
    strip (by_order x o a b) = inl (by_order x o a b)
    strip (by_message {t} x i j m₀ m T R S D R') = go (runs_split (u x) i m₀ (l x) R) (strip T) (runs_split (u x) j m (l x) R')
      where
        go : RunsOf (u x) i m₀ ⊎ ((i ≡ length (A.day (u x)).journal) × Ran A k (u x) m₀) → Touched M A.end A.load (duo A u) t m₀.receiver ⊎ New t m₀.receiver → RunsOf (u x) j m ⊎ ((j ≡ length (A.day (u x)).journal) × Ran A k (u x) m)
            → Touched M A.end A.load (duo A u) (ran (key_of m)) m.receiver ⊎ New (ran (key_of m)) m.receiver
        go (inr q) T₀ R'' = absurd (not_yet x j m₀ m q.1 (subst (λ n. Sends M A.end A.load (run_of A (u x)) n m) q.0 D) R')
        go (inl R₀) (inr n) R'' = absurd (too_late t m₀.receiver x i m₀ n R₀ S)
        go (inl R₀) (inl T₀) (inl R'') = inl (by_message x i j m₀ m T₀ R₀ (since_back x i m₀ t R₀ S) D R'')
        go (inl R₀) (inl T₀) (inr q) = inr (record {
          moment = ap ran q.1.key;
          at = ap (λ j. j.receiver) q.1.key;
          x = x;
          m = m;
          did = q.1;
          carried = record { i = i; m₀ = m₀; t = t; touched = T₀; runs = R₀; since = since_back x i m₀ t R₀ S; sends = D };
        })

    -- whichever side ran
    some_ran : (x : Bool) → runs A k (u x) ≡ true → (runs A k (u true) || runs A k (u false)) ≡ true
    some_ran true h = or_left _ _ h
    some_ran false h = or_right _ _ h

    from : (p : ℕ) (t : Moment) → Touched M A.end A.load (duo A' u) t p → A'.reached (u true) (u false) p ≡ true
    from p t T = ⊎_elim (λ T₀. or_left _ _ (c.reached_from u p t l T₀))
        (λ (n : New t p). or_right _ _ (and_from _ _ (eq-eqb p k.receiver n.at) (and_from _ _ (some_ran n.x n.did.ran) (c.marked_from u n.x k n.m l n.did.found n.carried)))) (strip T)

    -- a carried message is run: its receiver is touched
    touch : (x : Bool) (m : Message) → Ran A k (u x) m → A.marked (u true) (u false) k ≡ true → Touched M A.end A.load (duo A' u) (ran k) k.receiver
    touch x m r h =
        let C = carried_grows M A.end A.load (duo A u) (duo A' u) grows x m (c.marked_to u x k m l h r.found) in
        subst (λ j. Touched M A.end A.load (duo A' u) (ran j) j.receiver) r.key
        (by_message x C.i (length (A.day (u x)).journal) C.m₀ m C.touched C.runs C.since C.sends (runs_new (u x) m (l x) r))

    which_ran : (runs A k (u true) || runs A k (u false)) ≡ true → (x : Bool) × (m : Message) × Ran A k (u x) m
    which_ran h = ⊎_elim (λ t. let r = ran_from A k (u true) t in (true, r.0, r.1)) (λ t. let r = ran_from A k (u false) t in (false, r.0, r.1)) (or_cases (runs A k (u true)) (runs A k (u false)) h)

    to : (p : ℕ) → A'.reached (u true) (u false) p ≡ true → (t : Moment) × Touched M A.end A.load (duo A' u) t p
    to p h = ⊎_elim (λ o. let T = c.reached_to u p l o in (T.0, touched_grows M A.end A.load (duo A u) (duo A' u) grows T.1))
        (λ (g : (eqb p k.receiver && ((runs A k (u true) || runs A k (u false)) && A.marked (u true) (u false) k)) ≡ true).
        let a = and_parts (eqb p k.receiver) _ g in let b = and_parts (runs A k (u true) || runs A k (u false)) _ a.1 in
        let r = which_ran b.0 in
        (ran k, subst (Touched M A.end A.load (duo A' u) (ran k)) (sym (eqb-true p k.receiver a.0)) (touch r.0 r.1 r.2 b.1)))
        (or_cases (A.reached (u true) (u false) p) _ h)

    -- where both ran, whatever touched a place did so before this event
    since_now : ((y : Bool) → (m : Message) × Ran A k (u y) m) → {t : Moment} {p : ℕ} → Touched M A.end A.load (duo A u) t p → Since M A.end A.load (duo A' u) t k
    since_now all (by_order x o a b) =
        (length (A.day (u x)).journal, (all x).0, runs_new (u x) (all x).0 (l x) (all x).1, (all x).1.key, all_in (λ o. o.position ≤ length (A.day (u x)).journal) (A.orders (u x)) o (all_plain (λ o. o.position ≤ length (A.day (u x)).journal) (A.orders (u x)) (f (u x) (l x)).past) a)
    since_now all (by_message x i j m₀ m T R S D R') = one_way (key_of m) k (runs_before (u x) (u x) j m (all x).0 (l x) (l x) R' (all x).1)

    -- with an unmarked key, if one ran, both did
    both_ran : A.marked (u true) (u false) k ≡ false → (x : Bool) (m : Message) → Ran A k (u x) m → (y : Bool) → (m : Message) × Ran A k (u y) m
    both_ran h true m r true = (m, r)
    both_ran h false m r false = (m, r)
    both_ran h true m r false = ⊎_elim (λ q. q) (λ q. absurd (none-some m (sym q.1 ∙ sym (s.wait_same (u true) (u false) k (l true) (l false) h) ∙ r.found))) (who M law A s k is (u false) (l false))
    both_ran h false m r true = ⊎_elim (λ q. q) (λ q. absurd (none-some m (sym q.1 ∙ s.wait_same (u true) (u false) k (l true) (l false) h ∙ r.found))) (who M law A s k is (u true) (l true))

    touched_now : (x : Bool) (m : Message) → Ran A k (u x) m → reached_by A k (u true) (u false) k.receiver ≡ true → (t : Moment) × Touched M A.end A.load (duo A' u) t k.receiver × Since M A.end A.load (duo A' u) t k
    touched_now x m r h = go (cases_Bool (A.marked (u true) (u false) k))
      where
        go : (A.marked (u true) (u false) k ≡ true) ⊎ (A.marked (u true) (u false) k ≡ false) → (t : Moment) × Touched M A.end A.load (duo A' u) t k.receiver × Since M A.end A.load (duo A' u) t k
        go (inl q) = (ran k, touch x m r q, never k)
        go (inr q) =
            let o : A.reached (u true) (u false) k.receiver ≡ true = ⊎_elim (λ a. a) (λ a. absurd (both_ways (A.marked (u true) (u false) k) q (and_parts (runs A k (u true) || runs A k (u false)) _ (and_parts (eqb k.receiver k.receiver) _ a).1).1)) (or_cases (A.reached (u true) (u false) k.receiver) _ h) in
            let T = c.reached_to u k.receiver l o in
            (T.0, touched_grows M A.end A.load (duo A u) (duo A' u) grows T.1, since_now (both_ran q x m r) T.1)

    -- either side's sending marks
    one_sends : (x : Bool) (j : Key) → sends M A k (u x) j ≡ true → (sends M A k (u true) j || sends M A k (u false) j) ≡ true
    one_sends true j h = or_left _ _ h
    one_sends false j h = or_right _ _ h

    none_sends : (x : Bool) (j : Key) → sends M A k (u x) j ≡ false → sends M A k (u (not x)) j ≡ false → A'.marked (u true) (u false) j ≡ A.marked (u true) (u false) j
    none_sends true j a b = marked_kept M law A s k is (u true) (u false) j a b
    none_sends false j a b = marked_kept M law A s k is (u true) (u false) j b a

    turn : (x : Bool) (p : ℕ) → reached_by A k (u (not x)) (u x) p ≡ reached_by A k (u true) (u false) p
    turn true p = reached_sym' M law A s k is (u false) (u true) p
    turn false p = refl

    turn_same : (x : Bool) (j : Key) → A.marked (u true) (u false) j ≡ false → find j (A.day (u x)).waiting ≡ find j (A.day (u (not x))).waiting
    turn_same true j h = s.wait_same (u true) (u false) j (l true) (l false) h
    turn_same false j h = sym (s.wait_same (u true) (u false) j (l true) (l false) h)

    -- what is sent now
    new_message : (x : Bool) (j : Key) (m : Message) → sends M A k (u x) j ≡ true → find j (A'.day (u x)).waiting ≡ Some m → (m₀ : Message) × Ran A k (u x) m₀ × (find (key_of m) (posted_by M A.end ((A.day (u x)).place m₀.receiver) m₀) ≡ Some m)
    new_message x j m h e =
        let r = ran_from A k (u x) (sends_runs M A k (u x) j h) in
        let y = some_from (find j (posted_by M A.end ((A.day (u x)).place r.0.receiver) r.0)) (sym (sends_ran M A k (u x) r.0 j r.1) ∙ h) in
        let g : find j (A'.day (u x)).waiting ≡ Some y.0 = find_ran M law A s k is (u x) r.0 j (l x) r.1 ∙ ap (λ o. either o (cond (same j k) None (find j (A.day (u x)).waiting))) y.1 in
        let q : find j (posted_by M A.end ((A.day (u x)).place r.0.receiver) r.0) ≡ Some m = y.1 ∙ sym g ∙ e in
        (r.0, r.1, subst (λ i. find i (posted_by M A.end ((A.day (u x)).place r.0.receiver) r.0) ≡ Some m) (sym (find_key j _ m q)) q)

    -- a key that is sent now did not wait
    fresh : (x : Bool) (j : Key) → sends M A k (u x) j ≡ true → find j (A.day (u x)).waiting ≡ None
    fresh x j h = go (find j (A.day (u x)).waiting) refl
      where
        go : (o : Option Message) → find j (A.day (u x)).waiting ≡ o → o ≡ None
        go None e = refl
        go (Some q) e =
            let r = ran_from A k (u x) (sends_runs M A k (u x) j h) in
            let y = some_from (find j (posted_by M A.end ((A.day (u x)).place r.0.receiver) r.0)) (sym (sends_ran M A k (u x) r.0 j r.1) ∙ h) in
            let ky = find_key j _ y.0 y.1 in
            let kq = find_key j (A.day (u x)).waiting q e in
            let g = sent_from M A.end (A.day (u x)) r.0 y.0 (subst (λ i. find i (posted_by M A.end ((A.day (u x)).place r.0.receiver) r.0) ≡ Some y.0) (sym ky) y.1) in
            let sq : q.sender ≡ r.0.receiver = ap (λ i. i.sender) (kq ∙ sym ky) ∙ g.sender in
            let nq : q.number ≡ y.0.number = ap (λ i. i.number) (kq ∙ sym ky) in
            let inside = all_first (λ z. z.receiver < M.places) (A.day (u x)).waiting r.0 (s.tidy (u x) (l x)).received r.1.head in
            let b = all_find (λ z. z.sender < M.places → z.number < ((A.day (u x)).place z.sender).sent) j (A.day (u x)).waiting q (s.tidy (u x) (l x)).numbered e (subst (λ p. p < M.places) (sym sq) inside) in
            let b' : q.number < ((A.day (u x)).place r.0.receiver).sent = subst (λ p. q.number < ((A.day (u x)).place p).sent) sq b in
            let a = g.least in
            absurd (let z : ⊥ = omega (arith, a, b', nq) in z)

    -- and one that is not sent now did
    old_message : (x : Bool) (j : Key) (m : Message) → sends M A k (u x) j ≡ false → find j (A'.day (u x)).waiting ≡ Some m → find j (A.day (u x)).waiting ≡ Some m
    old_message x j m h e = cond_both (same j k) None (find j (A.day (u x)).waiting) (λ o. o ≡ Some m → find j (A.day (u x)).waiting ≡ Some m) (λ _ q. absurd (none-some m q)) (λ _ q. q) (sym (find_old M law A s k is (u x) j (l x) h) ∙ e)

    marked_to' : (x : Bool) (j : Key) (m : Message) → A'.marked (u true) (u false) j ≡ true → find j (A'.day (u x)).waiting ≡ Some m → Carried M A.end A.load (duo A' u) x m
    marked_to' x j m h e = go (cases_Bool (sends M A k (u x) j)) (cases_Bool (sends M A k (u (not x)) j))
      where
        before_now : A.marked (u true) (u false) j ≡ true → sends M A k (u x) j ≡ false → Carried M A.end A.load (duo A' u) x m
        before_now q a = carried_grows M A.end A.load (duo A u) (duo A' u) grows x m (c.marked_to u x j m l q (old_message x j m a e))

        go : (sends M A k (u x) j ≡ true) ⊎ (sends M A k (u x) j ≡ false) → (sends M A k (u (not x)) j ≡ true) ⊎ (sends M A k (u (not x)) j ≡ false) → Carried M A.end A.load (duo A' u) x m
        go (inl a) b =
            let n = new_message x j m a e in
            let T = touched_now x n.0 n.1 (sym (marked_sent M law A s k is (u true) (u false) j (one_sends x j a)) ∙ h) in
            record {
              i = length (A.day (u x)).journal;
              m₀ = n.0;
              t = T.0;
              touched = subst (Touched M A.end A.load (duo A' u) T.0) (sym (ap (λ i. i.receiver) n.1.key)) T.1;
              runs = runs_new (u x) n.0 (l x) n.1;
              since = subst (Since M A.end A.load (duo A' u) T.0) (sym n.1.key) T.2;
              sends = now_sent (u x) n.0 m (l x) n.1 n.2;
            }
        go (inr a) (inr b) = before_now (sym (none_sends x j a b) ∙ h) a
        go (inr a) (inl b) = before_now (⊎_elim (λ q. q) (λ q. absurd (none-some m (sym (fresh (not x) j b) ∙ sym (turn_same x j q) ∙ old_message x j m a e))) (cases_Bool (A.marked (u true) (u false) j))) a

    marked_from' : (x : Bool) (j : Key) (m : Message) → find j (A'.day (u x)).waiting ≡ Some m → Carried M A.end A.load (duo A' u) x m → A'.marked (u true) (u false) j ≡ true
    marked_from' x j m e h = go (cases_Bool (sends M A k (u x) j)) (runs_split (u x) h.i h.m₀ (l x) h.runs)
      where
        go : (sends M A k (u x) j ≡ true) ⊎ (sends M A k (u x) j ≡ false) → RunsOf (u x) h.i h.m₀ ⊎ ((h.i ≡ length (A.day (u x)).journal) × Ran A k (u x) h.m₀) → A'.marked (u true) (u false) j ≡ true
        go (inl a) (inl R) =
            let n = new_message x j m a e in
            let g = sent_from M A.end (A.day (u x)) n.0 m n.2 in
            let b = subst (λ d. m.number < (d.place m.sender).sent) (sym ((f (u x) (l x)).day)) (number_below M A.end A.load (map plain (A.orders (u x))) h.i (length (A.day (u x)).journal) m R.early h.sends) in
            let b' : m.number < ((A.day (u x)).place n.0.receiver).sent = subst (λ p. m.number < ((A.day (u x)).place p).sent) g.sender b in
            let a' = g.least in
            absurd (let z : ⊥ = omega (arith, a', b') in z)
        go (inl a) (inr q) = marked_sent M law A s k is (u true) (u false) j (one_sends x j a) ∙ subst (λ p. reached_by A k (u true) (u false) p ≡ true) (ap (λ i. i.receiver) q.1.key) (from h.m₀.receiver h.t h.touched)
        go (inr a) (inr q) =
            let d = sent_now (u x) h.m₀ m (l x) q.1 (subst (λ n. Sends M A.end A.load (run_of A (u x)) n m) q.0 h.sends) in
            let km = find_key j (A'.day (u x)).waiting m e in
            absurd (both_ways (sends M A k (u x) j) a (sends_ran M A k (u x) h.m₀ j q.1 ∙ ap some (subst (λ i. find i (posted_by M A.end ((A.day (u x)).place h.m₀.receiver) h.m₀) ≡ Some m) km d)))
        go (inr a) (inl R) = ⊎_elim (λ T₀. last (c.marked_from u x j m l (old_message x j m a e) (record { i = h.i; m₀ = h.m₀; t = h.t; touched = T₀; runs = R; since = since_back x h.i h.m₀ h.t R h.since; sends = h.sends })) (cases_Bool (sends M A k (u (not x)) j)) (cases_Bool (reached_by A k (u true) (u false) k.receiver)))
            (λ (n : New h.t h.m₀.receiver). absurd (too_late h.t h.m₀.receiver x h.i h.m₀ n R h.since)) (strip h.touched)
          where
            last : A.marked (u true) (u false) j ≡ true → (sends M A k (u (not x)) j ≡ true) ⊎ (sends M A k (u (not x)) j ≡ false) → (reached_by A k (u true) (u false) k.receiver ≡ true) ⊎ (reached_by A k (u true) (u false) k.receiver ≡ false) → A'.marked (u true) (u false) j ≡ true
            last q (inr b) w = none_sends x j a b ∙ q
            last q (inl b) (inl w) = marked_sent M law A s k is (u true) (u false) j (one_sends (not x) j b) ∙ w
            last q (inl b) (inr w) = absurd (both_ways (sends M A k (u x) j) a (sends_over M law A s k is (u (not x)) (u x) j (l (not x)) (l x) b (turn x k.receiver ∙ w)))

    -- what has run was carried before this step, if at all
    carried_back : (x : Bool) (j : ℕ) (m : Message) → RunsOf' (u x) j m → Carried M A.end A.load (duo A' u) x m → Carried M A.end A.load (duo A u) x m
    carried_back x j m R' h = go (runs_split (u x) h.i h.m₀ (l x) h.runs) (strip h.touched)
      where
        go : RunsOf (u x) h.i h.m₀ ⊎ ((h.i ≡ length (A.day (u x)).journal) × Ran A k (u x) h.m₀) → Touched M A.end A.load (duo A u) h.t h.m₀.receiver ⊎ New h.t h.m₀.receiver → Carried M A.end A.load (duo A u) x m
        go (inr q) T = absurd (not_yet x j h.m₀ m q.1 (subst (λ n. Sends M A.end A.load (run_of A (u x)) n m) q.0 h.sends) R')
        go (inl R) (inr n) = absurd (too_late h.t h.m₀.receiver x h.i h.m₀ n R h.since)
        go (inl R) (inl T) = record { i = h.i; m₀ = h.m₀; t = h.t; touched = T; runs = R; since = since_back x h.i h.m₀ h.t R h.since; sends = h.sends }

    abbrev Joint : ℕ → Type 0
    Joint i = (j : ℕ) × (m : Message) × RunsOf' (u true) i m × RunsOf' (u false) j m × (Carried M A.end A.load (duo A' u) true m → ⊥)

    joint_to' : (i : ℕ) → i < length (A'.day (u true)).journal → A'.joint (u true) (u false) i ≡ true → Joint i
    joint_to' i h q = go (cases_Bool (runs A k (u true) && eqb i (length (A.day (u true)).journal)))
      where
        early : (runs A k (u true) && eqb i (length (A.day (u true)).journal)) ≡ false → i < length (A.day (u true)).journal
        early e = side (who M law A s k is (u true) (l true))
          where
            side : ((m : Message) × Ran A k (u true) m) ⊎ ((runs A k (u true) ≡ false) × (find k (A.day (u true)).waiting ≡ None)) → i < length (A.day (u true)).journal
            side (inl x) = let a = subst (λ n. i < n) (count_ran (u true) x.0 x.1) h in let b = x.1.ran in
                let ne : (i ≡ length (A.day (u true)).journal → ⊥) = λ d. both_ways (runs A k (u true) && eqb i (length (A.day (u true)).journal)) e (and_from _ _ b (eq-eqb _ _ d)) in omega (arith, a, ne)
            side (inr x) = subst (λ n. i < n) (count_idle (u true) x.0) h

        go : ((runs A k (u true) && eqb i (length (A.day (u true)).journal)) ≡ true) ⊎ ((runs A k (u true) && eqb i (length (A.day (u true)).journal)) ≡ false) → Joint i
        go (inr e) =
            let n = c.joint_to u i l (early e) (sym (cond-false (runs A k (u true) && eqb i (length (A.day (u true)).journal)) (runs A k (u false) && not (A.marked (u true) (u false) k)) (A.joint (u true) (u false) i) e) ∙ q) in
            let R = runs_keep (u true) i n.1 (l true) n.2 in
            (n.0, n.1, R, runs_keep (u false) n.0 n.1 (l false) n.3, λ C. n.4 (carried_back true i n.1 R C))
        go (inl e) =
            let b = and_parts (runs A k (u true)) _ e in
            let d = and_parts (runs A k (u false)) _ (sym (cond-true (runs A k (u true) && eqb i (length (A.day (u true)).journal)) (runs A k (u false) && not (A.marked (u true) (u false) k)) (A.joint (u true) (u false) i) e) ∙ q) in
            let clear = Rattle.std.proofs.lemmas.Bool.not-true _ d.1 in
            let v = ran_from A k (u true) b.0 in let w = ran_from A k (u false) d.0 in
            let m = v.0 in
            let same-m : w.0 ≡ m = some_is w.0 m (sym w.1.found ∙ sym (s.wait_same (u true) (u false) k (l true) (l false) clear) ∙ v.1.found) in
            let R = runs_new (u true) m (l true) v.1 in
            let R₁ = subst (λ n. RunsOf' (u true) n m) (sym (eqb-true i _ b.1)) R in (
              length (A.day (u false)).journal,
              m,
              R₁,
              runs_new (u false) m (l false) (subst (Ran A k (u false)) same-m w.1),
              λ C. both_ways (A.marked (u true) (u false) k) clear (c.marked_from u true k m l v.1.found (carried_back true (length (A.day (u true)).journal) m R C)),
            )

    joint_from' : (i j : ℕ) (m : Message) → RunsOf' (u true) i m → RunsOf' (u false) j m → (Carried M A.end A.load (duo A' u) true m → ⊥) → A'.joint (u true) (u false) i ≡ true
    joint_from' i j m R₁ R₂ n = go (runs_split (u true) i m (l true) R₁) (runs_split (u false) j m (l false) R₂)
      where
        n₀ : Carried M A.end A.load (duo A u) true m → ⊥
        n₀ C = n (carried_grows M A.end A.load (duo A u) (duo A' u) grows true m C)

        go : RunsOf (u true) i m ⊎ ((i ≡ length (A.day (u true)).journal) × Ran A k (u true) m) → RunsOf (u false) j m ⊎ ((j ≡ length (A.day (u false)).journal) × Ran A k (u false) m) → A'.joint (u true) (u false) i ≡ true
        go (inl a) (inl b) = cond-false (runs A k (u true) && eqb i (length (A.day (u true)).journal)) _ _ (and_right _ _ (ne_eqb i _ (λ e. let z = a.early in let y : ⊥ = omega (arith, z, e) in y))) ∙ c.joint_from u i j m l a b n₀
        go (inl a) (inr b) = absurd (never_before (key_of m) b.1.key (runs_before (u true) (u false) i m m (l true) (l false) a b.1))
        go (inr a) (inl b) = absurd (never_before (key_of m) a.1.key (runs_before (u false) (u true) j m m (l false) (l true) b a.1))
        go (inr a) (inr b) = cond-true (runs A k (u true) && eqb i (length (A.day (u true)).journal)) _ _ (and_from _ _ a.1.ran (eq-eqb _ _ a.0))
            ∙ and_from _ _ b.1.ran (Rattle.std.proofs.lemmas.Bool.not_from_false _ (⊎_elim (λ t. absurd (n₀ (c.marked_to u true k m l t a.1.found))) (λ t. t) (cases_Bool (A.marked (u true) (u false) k))))

  pub step_chained_at : Chained M (fed_step_at M A (Some k))
  step_chained_at = record {
    named = c.named;
    reached_to = λ u p l. to u l p;
    reached_from = λ u p t l. from u l p t;
    marked_to = λ u x j m l. marked_to' u l x j m;
    marked_from = λ u x j m l. marked_from' u l x j m;
    joint_to = λ u i l. joint_to' u l i;
    joint_from = λ u i j m l. joint_from' u l i j m;
  }

pub step_chained : (M : Meaning) → Law M → (A : Account) → Sound M A → Faithful M A → Clock A → Chained M A → Chained M (fed_step M A)
step_chained M law A s f clock c = go (least A 16) refl
  where
    go : (o : Option Key) → least A 16 ≡ o → Chained M (fed_step_at M A o)
    go None e = c
    go (Some k) e = step_chained_at M law A s f clock c k e
