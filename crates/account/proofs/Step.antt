-- A step keeps the account sound.
use Rattle.std.proofs.Common.{◌≡◌, ℕ, zero, suc, ◌<◌, Bool, true, false, cond, ◌&&◌, ◌||◌, eqb, ◌⊎◌, Some, None, Option, sym, refl, ap, ◌∙◌, subst, inl, inr, ⊎_elim, arith}
use Rattle.std.proofs.lemmas.Bool.{cases_Bool, both_ways, cond_both, cond-true, cond-false, cases_eq, eq-eqb, ne_eqb, or_parts, or_from, or_left, or_right, and_parts, and_from, and_left, and_right}
use Rattle.std.proofs.lemmas.Bool.Decides.{nat_tests}
use Rattle.event.specs.declared.Message.{Message}
use Rattle.event.specs.declared.Key.{Key}
use Rattle.event.specs.Keys.{key_of, before, same}
use Rattle.event.specs.Lists.{first}
use Rattle.account.specs.Finds.{find, some, either}
use Rattle.model.specs.Meaning.{Meaning, Law}
use Rattle.day.specs.Day.{posted_by, place_after, event_at, event}
use Rattle.day.specs.Tidy.{Tidy}
use Rattle.account.specs.Account.{Account, earlier, least, is_key, runs, sent_at, sends, reached_by, fed_step_at, fed_step}
use Rattle.account.specs.Sound.{Sound}
use Rattle.event.proofs.Orders.{never, chain, apart, same_true, same_from}
use Rattle.std.proofs.lemmas.Option.{none-some}
use Rattle.account.proofs.Finding.{find_key, first_find, find_first}
use Rattle.event.proofs.Insertion.{rising_back}
use Rattle.account.proofs.Events.{find_event}
use Rattle.day.proofs.Tidy.{tidy_event}

pub one_way : (a b : Key) → before a b ≡ true → before b a ≡ false
one_way a b h = ⊎_elim (λ t. absurd (both_ways (before a a) (never a) (chain a b a h t))) (λ t. t) (cases_Bool (before b a))

not_before : (a b c : Key) → before a b ≡ false → before b c ≡ false → before a c ≡ false
not_before a b c x y = go (cases_Bool (before a c)) (cases_Bool (before c b))
  where
    go : (before a c ≡ true) ⊎ (before a c ≡ false) → (before c b ≡ true) ⊎ (before c b ≡ false) → before a c ≡ false
    go (inr t) u = t
    go (inl t) (inl u) = absurd (both_ways (before a b) x (chain a c b t u))
    go (inl t) (inr u) = absurd (both_ways (before a b) x (subst (λ j. before a j ≡ true) (sym (apart b c y u)) t))

pub some_is : {A : Type 0} (x y : A) → Some x ≡ Some y → x ≡ y
some_is x y e = cc

earlier_first : (o : Option Message) (j : Option Key) (k : Key) (x : Message) → earlier o j ≡ Some k → o ≡ Some x → before (key_of x) k ≡ false
earlier_first None j k x e f = absurd (none-some x f)
earlier_first (Some m) None k x e f = subst (λ i. before (key_of x) i ≡ false) (ap key_of (sym (some_is m x f)) ∙ some_is (key_of m) k e) (never (key_of x))
earlier_first (Some m) (Some j) k x e f = go (cases_Bool (before j (key_of m)))
  where
    go : (before j (key_of m) ≡ true) ⊎ (before j (key_of m) ≡ false) → before (key_of x) k ≡ false
    go (inl t) =
        let a : j ≡ k = some_is j k (sym (cond-true (before j (key_of m)) (Some j) (Some (key_of m)) t) ∙ e) in
        let b : before (key_of m) k ≡ false = subst (λ i. before (key_of m) i ≡ false) a (one_way j (key_of m) t) in
        subst (λ y. before (key_of y) k ≡ false) (some_is m x f) b
    go (inr t) =
        let a : key_of m ≡ k = some_is (key_of m) k (sym (cond-false (before j (key_of m)) (Some j) (Some (key_of m)) t) ∙ e) in
        subst (λ i. before (key_of x) i ≡ false) (ap key_of (sym (some_is m x f)) ∙ a) (never (key_of x))

earlier_last : (o : Option Message) (j k : Key) → earlier o (Some j) ≡ Some k → before j k ≡ false
earlier_last None j k e = subst (λ i. before j i ≡ false) (some_is j k e) (never j)
earlier_last (Some m) j k e = go (cases_Bool (before j (key_of m)))
  where
    go : (before j (key_of m) ≡ true) ⊎ (before j (key_of m) ≡ false) → before j k ≡ false
    go (inl t) = subst (λ i. before j i ≡ false) (some_is j k (sym (cond-true (before j (key_of m)) (Some j) (Some (key_of m)) t) ∙ e)) (never j)
    go (inr t) = subst (λ i. before j i ≡ false) (some_is (key_of m) k (sym (cond-false (before j (key_of m)) (Some j) (Some (key_of m)) t) ∙ e)) t

earlier_none : (o : Option Message) (j : Option Key) → earlier o j ≡ None → (o ≡ None) × (j ≡ None)
earlier_none None j e = (refl, e)
earlier_none (Some m) None e = absurd (none-some (key_of m) (sym e))
earlier_none (Some m) (Some j) e = absurd (cond_both (before j (key_of m)) (Some j) (Some (key_of m)) (λ o. o ≡ None → ⊥) (λ _ f. none-some j (sym f)) (λ _ f. none-some (key_of m) (sym f)) e)

split : (v n : ℕ) → v < suc n → (v ≡ n) ⊎ (v < n)
split v n h = ⊎_elim (λ e. inl e) (λ ne. inr (omega (arith, ne))) (cases_eq v n)

pub least_none : (A : Account) (n : ℕ) → least A n ≡ None → (v : ℕ) → v < n → A.live v ≡ true → first (A.day v).waiting ≡ None
unfolding least
least_none A zero e v h l = absurd (let z : ⊥ = omega arith in z)
least_none A (suc n) e v h l = go (cases_Bool (A.live n)) (split v n h) (least_none A n)
  where
    go : (A.live n ≡ true) ⊎ (A.live n ≡ false) → (v ≡ n) ⊎ (v < n) → (least A n ≡ None → (v : ℕ) → v < n → A.live v ≡ true → first (A.day v).waiting ≡ None) → first (A.day v).waiting ≡ None
    go (inl t) (inl q) ih = ap (λ u. first (A.day u).waiting) q ∙ (earlier_none (first (A.day n).waiting) (least A n) (sym (cond-true (A.live n) _ _ t) ∙ e)).0
    go (inl t) (inr q) ih = ih (earlier_none (first (A.day n).waiting) (least A n) (sym (cond-true (A.live n) _ _ t) ∙ e)).1 v q l
    go (inr t) (inl q) ih = absurd (both_ways (A.live n) t (subst (λ u. A.live u ≡ true) q l))
    go (inr t) (inr q) ih = ih (sym (cond-false (A.live n) _ _ t) ∙ e) v q l

-- no live variant has a message before the smallest key
pub least_first : (A : Account) (n : ℕ) (k : Key) → least A n ≡ Some k → (v : ℕ) → v < n → A.live v ≡ true → (x : Message) → first (A.day v).waiting ≡ Some x → before (key_of x) k ≡ false
unfolding least
least_first A zero k e v h l x f = absurd (let z : ⊥ = omega arith in z)
least_first A (suc n) k e v h l x f = go (cases_Bool (A.live n)) (split v n h) (λ j d q. least_first A n j d v q l x f)
  where
    go : (A.live n ≡ true) ⊎ (A.live n ≡ false) → (v ≡ n) ⊎ (v < n) → ((j : Key) → least A n ≡ Some j → v < n → before (key_of x) j ≡ false) → before (key_of x) k ≡ false
    go (inl t) (inl q) ih = earlier_first (first (A.day n).waiting) (least A n) k x (sym (cond-true (A.live n) _ _ t) ∙ e) (ap (λ u. first (A.day u).waiting) (sym q) ∙ f)
    go (inl t) (inr q) ih = which (least A n) refl (sym (cond-true (A.live n) _ _ t) ∙ e)
      where
        which : (o : Option Key) → least A n ≡ o → earlier (first (A.day n).waiting) (least A n) ≡ Some k → before (key_of x) k ≡ false
        which None d g = absurd (none-some x (sym (least_none A n d v q l) ∙ f))
        which (Some j) d g = not_before (key_of x) j k (ih j d q) (earlier_last (first (A.day n).waiting) j k (ap (earlier (first (A.day n).waiting)) (sym d) ∙ g))
    go (inr t) (inl q) ih = absurd (both_ways (A.live n) t (subst (λ u. A.live u ≡ true) q l))
    go (inr t) (inr q) ih = ih k (sym (cond-false (A.live n) _ _ t) ∙ e) q

-- v runs m, whose key is k
pub record Ran (A : Account) (k : Key) (v : ℕ) (m : Message) : Type 0 where
  pub ran : runs A k v ≡ true
  pub head : first (A.day v).waiting ≡ Some m
  pub key : key_of m ≡ k
  pub found : find k (A.day v).waiting ≡ Some m

pub runs_live : (A : Account) (k : Key) (v : ℕ) → runs A k v ≡ true → A.live v ≡ true
unfolding runs
runs_live A k v h = (and_parts (A.live v) _ h).0

pub runs_from : (A : Account) (k : Key) (v : ℕ) (m : Message) → A.live v ≡ true → first (A.day v).waiting ≡ Some m → key_of m ≡ k → runs A k v ≡ true
unfolding runs
runs_from A k v m l f e = and_from (A.live v) _ l (ap (is_key k) f ∙ same_from k (key_of m) (sym e))

runs_found : (A : Account) (k : Key) (v : ℕ) → runs A k v ≡ true → (m : Message) × (first (A.day v).waiting ≡ Some m) × (key_of m ≡ k)
unfolding runs
runs_found A k v h = go (first (A.day v).waiting) refl (and_parts (A.live v) _ h).1
  where
    go : (o : Option Message) → first (A.day v).waiting ≡ o → is_key k (first (A.day v).waiting) ≡ true → (m : Message) × (first (A.day v).waiting ≡ Some m) × (key_of m ≡ k)
    go None e g = absurd (both_ways (is_key k (first (A.day v).waiting)) (ap (is_key k) e) g)
    go (Some m) e g = (m, e, sym (same_true k (key_of m) (sym (ap (is_key k) e) ∙ g)))

pub ran_from : (A : Account) (k : Key) (v : ℕ) → runs A k v ≡ true → (m : Message) × Ran A k v m
ran_from A k v h =
    let g = runs_found A k v h in
    (g.0, record { ran = h; head = g.1; key = g.2; found = ap (λ j. find j (A.day v).waiting) (sym g.2) ∙ first_find (A.day v).waiting g.0 g.1 })

pub sends_ran : (M : Meaning) (A : Account) (k : Key) (v : ℕ) (m : Message) (j : Key) → Ran A k v m → sends M A k v j ≡ some (find j (posted_by M A.end ((A.day v).place m.receiver) m))
unfolding sends
sends_ran M A k v m j r = ap (λ b. b && some (find j (sent_at M A.end (A.day v) (first (A.day v).waiting)))) r.ran ∙ ap (λ o. some (find j (sent_at M A.end (A.day v) o))) r.head

pub sends_idle : (M : Meaning) (A : Account) (k : Key) (v : ℕ) (j : Key) → runs A k v ≡ false → sends M A k v j ≡ false
unfolding sends
sends_idle M A k v j h = and_left (runs A k v) _ h

pub sends_runs : (M : Meaning) (A : Account) (k : Key) (v : ℕ) (j : Key) → sends M A k v j ≡ true → runs A k v ≡ true
unfolding sends
sends_runs M A k v j h = (and_parts (runs A k v) _ h).0

pub none_from : {A : Type 0} (o : Option A) → some o ≡ false → o ≡ None
none_from None h = refl
none_from (Some x) h = absurd (both_ways true h refl)

pub some_from : {A : Type 0} (o : Option A) → some o ≡ true → (x : A) × (o ≡ Some x)
some_from None h = absurd (both_ways false refl h)
some_from (Some x) h = (x, refl)

module _ (M : Meaning) (law : Law M) (A : Account) (s : Sound M A) (k : Key) (is : least A 16 ≡ Some k) where
  abbrev pub A' : Account
  A' = fed_step_at M A (Some k)

  -- a live variant that waits for k runs it
  pub who : (v : ℕ) → A.live v ≡ true → ((m : Message) × Ran A k v m) ⊎ ((runs A k v ≡ false) × (find k (A.day v).waiting ≡ None))
  who v l = go (find k (A.day v).waiting) refl (cases_Bool (runs A k v))
    where
      go : (o : Option Message) → find k (A.day v).waiting ≡ o → (runs A k v ≡ true) ⊎ (runs A k v ≡ false) → ((m : Message) × Ran A k v m) ⊎ ((runs A k v ≡ false) × (find k (A.day v).waiting ≡ None))
      go o e (inl t) = inl (ran_from A k v t)
      go None e (inr t) = inr (t, e)
      go (Some m) e (inr t) =
          let f = find_first k (A.day v).waiting m (rising_back key_of (A.day v).journal (A.day v).waiting (s.tidy v l).rising) e (least_first A 16 k is v (let g = s.given v l in let h = s.few in let z : v < 16 = omega arith in z) l) in
          absurd (both_ways (runs A k v) t (runs_from A k v m l f (find_key k (A.day v).waiting m e)))

  pub record Agreed (v w : ℕ) (m : Message) : Type 0 where
    pub ran_w : Ran A k w m
    pub place : (A.day v).place m.receiver ≡ (A.day w).place m.receiver
    pub apart : A.reached v w k.receiver ≡ false
    pub unmarked : A.marked v w k ≡ false

  pub receiver : (v : ℕ) (m : Message) → Ran A k v m → m.receiver ≡ k.receiver
  receiver v m r = ap (λ j. j.receiver) r.key

  -- two that share the receiver after the step ran the same there
  pub agree : (v w : ℕ) (m : Message) → A.live v ≡ true → A.live w ≡ true → Ran A k v m → reached_by A k v w k.receiver ≡ false → Agreed v w m
  agree v w m lv lw r h = go (who w lw)
    where
      h' : (A.reached v w k.receiver ≡ false) × ((eqb k.receiver k.receiver && ((runs A k v || runs A k w) && A.marked v w k)) ≡ false)
      h' = or_parts (A.reached v w k.receiver) _ h

      clear : A.marked v w k ≡ false
      clear = let a = h'.1 in let b = r.ran in let c = eq-eqb k.receiver k.receiver refl in grind (arith, nat_tests)

      also : find k (A.day w).waiting ≡ Some m
      also = sym (s.wait_same v w k lv lw clear) ∙ r.found

      go : ((m : Message) × Ran A k w m) ⊎ ((runs A k w ≡ false) × (find k (A.day w).waiting ≡ None)) → Agreed v w m
      go (inr x) = absurd (none-some m (sym x.1 ∙ also))
      go (inl x) = record {
        ran_w = subst (Ran A k w) (some_is x.0 m (sym x.1.found ∙ also)) x.1;
        place = subst (λ p. (A.day v).place p ≡ (A.day w).place p) (sym (receiver v m r)) (s.place_same v w k.receiver lv lw h'.0);
        apart = h'.0;
        unmarked = clear;
      }

  pub reached_sym' : (v w p : ℕ) → reached_by A k v w p ≡ reached_by A k w v p
  reached_sym' v w p = let a = s.reached_sym v w p in let b = s.marked_sym v w k in grind (arith, nat_tests)

  reached_self' : (v p : ℕ) → reached_by A k v v p ≡ false
  reached_self' v p = let a = s.reached_self v p in let b = s.marked_self v k in grind (arith, nat_tests)

  reached_through' : (u v w p : ℕ) → A.live u ≡ true → A.live v ≡ true → A.live w ≡ true → reached_by A k u v p ≡ false → reached_by A k v w p ≡ false → reached_by A k u w p ≡ false
  reached_through' u v w p lu lv lw x y =
      or_from (A.reached u w p) _ (s.reached_through u v w p lu lv lw (or_parts (A.reached u v p) _ x).0 (or_parts (A.reached v w p) _ y).0)
      (go (cases_eq p k.receiver) (cases_Bool (runs A k u)) (cases_Bool (runs A k w)))
    where
      by_u : p ≡ k.receiver → runs A k u ≡ true → A.marked u w k ≡ false
      by_u e t =
          let m = ran_from A k u t in
          let a = agree u v m.0 lu lv m.1 (subst (λ q. reached_by A k u v q ≡ false) e x) in
          let b = agree v w m.0 lv lw a.ran_w (subst (λ q. reached_by A k v w q ≡ false) e y) in
          s.marked_through u v w k m.0 lu lv lw m.1.found a.unmarked b.unmarked

      by_w : p ≡ k.receiver → runs A k w ≡ true → runs A k u ≡ true
      by_w e t =
          let m = ran_from A k w t in
          let a = agree w v m.0 lw lv m.1 (reached_sym' w v k.receiver ∙ subst (λ q. reached_by A k v w q ≡ false) e y) in
          let b = agree v u m.0 lv lu a.ran_w (reached_sym' v u k.receiver ∙ subst (λ q. reached_by A k u v q ≡ false) e x) in
          b.ran_w.ran

      go : (p ≡ k.receiver) ⊎ (p ≡ k.receiver → ⊥) → (runs A k u ≡ true) ⊎ (runs A k u ≡ false) → (runs A k w ≡ true) ⊎ (runs A k w ≡ false)
          → (eqb p k.receiver && ((runs A k u || runs A k w) && A.marked u w k)) ≡ false
      go (inr n) t f = and_left (eqb p k.receiver) _ (ne_eqb p k.receiver n)
      go (inl e) (inl t) f = and_right (eqb p k.receiver) _ (and_right (runs A k u || runs A k w) _ (by_u e t))
      go (inl e) (inr t) (inl f) = absurd (both_ways (runs A k u) t (by_w e f))
      go (inl e) (inr t) (inr f) = and_right (eqb p k.receiver) _ (and_left (runs A k u || runs A k w) _ (or_from (runs A k u) (runs A k w) t f))

  pub day_ran : (v : ℕ) (m : Message) → Ran A k v m → A'.day v ≡ event_at M A.end (A.day v) (Some m)
  day_ran v m r = cond-true (runs A k v) (event M A.end (A.day v)) (A.day v) r.ran ∙ ap (event_at M A.end (A.day v)) r.head

  pub day_idle : (v : ℕ) → runs A k v ≡ false → A'.day v ≡ A.day v
  day_idle v h = cond-false (runs A k v) (event M A.end (A.day v)) (A.day v) h

  place_other : (v p : ℕ) → (p ≡ k.receiver → ⊥) → A.live v ≡ true → (A'.day v).place p ≡ (A.day v).place p
  place_other v p n l = go (who v l)
    where
      go : ((m : Message) × Ran A k v m) ⊎ ((runs A k v ≡ false) × (find k (A.day v).waiting ≡ None)) → (A'.day v).place p ≡ (A.day v).place p
      go (inl x) = ap (λ d. d.place p) (day_ran v x.0 x.1) ∙ cond-false (eqb p x.0.receiver) _ _ (ne_eqb p x.0.receiver (λ e. n (e ∙ receiver v x.0 x.1)))
      go (inr x) = ap (λ d. d.place p) (day_idle v x.0)

  place_same' : (v w p : ℕ) → A.live v ≡ true → A.live w ≡ true → reached_by A k v w p ≡ false → (A'.day v).place p ≡ (A'.day w).place p
  place_same' v w p lv lw h = which (cases_eq p k.receiver)
    where
      same_p : (A.day v).place p ≡ (A.day w).place p
      same_p = s.place_same v w p lv lw (or_parts (A.reached v w p) _ h).0

      at_r : p ≡ k.receiver → ((m : Message) × Ran A k v m) ⊎ ((runs A k v ≡ false) × (find k (A.day v).waiting ≡ None)) → ((m : Message) × Ran A k w m) ⊎ ((runs A k w ≡ false) × (find k (A.day w).waiting ≡ None)) → (A'.day v).place p ≡ (A'.day w).place p
      at_r e (inl x) y =
          let a = agree v w x.0 lv lw x.1 (subst (λ q. reached_by A k v w q ≡ false) e h) in
          ap (λ d. d.place p) (day_ran v x.0 x.1)
          ∙ ap (λ q. cond (eqb p x.0.receiver) (place_after M q x.0) ((A.day v).place p)) a.place
          ∙ ap (λ q. cond (eqb p x.0.receiver) (place_after M ((A.day w).place x.0.receiver) x.0) q) same_p
          ∙ sym (ap (λ d. d.place p) (day_ran w x.0 a.ran_w))
      at_r e (inr x) (inl y) =
          let a = agree w v y.0 lw lv y.1 (reached_sym' w v k.receiver ∙ subst (λ q. reached_by A k v w q ≡ false) e h) in
          absurd (both_ways (runs A k v) x.0 a.ran_w.ran)
      at_r e (inr x) (inr y) = ap (λ d. d.place p) (day_idle v x.0) ∙ same_p ∙ sym (ap (λ d. d.place p) (day_idle w y.0))

      which : (p ≡ k.receiver) ⊎ (p ≡ k.receiver → ⊥) → (A'.day v).place p ≡ (A'.day w).place p
      which (inl e) = at_r e (who v lv) (who w lw)
      which (inr n) = place_other v p n lv ∙ same_p ∙ sym (place_other w p n lw)

  -- two that agree send the same
  sends_same : (v w : ℕ) (m : Message) (j : Key) → Ran A k v m → Agreed v w m → sends M A k v j ≡ sends M A k w j
  sends_same v w m j r a =
      sends_ran M A k v m j r ∙ ap (λ q. some (find j (posted_by M A.end q m))) a.place ∙ sym (sends_ran M A k w m j a.ran_w)

  pub sends_over : (v w : ℕ) (j : Key) → A.live v ≡ true → A.live w ≡ true → sends M A k v j ≡ true → reached_by A k v w k.receiver ≡ false → sends M A k w j ≡ true
  sends_over v w j lv lw t h =
      let m = ran_from A k v (sends_runs M A k v j t) in
      sym (sends_same v w m.0 j m.1 (agree v w m.0 lv lw m.1 h)) ∙ t

  marked' : ℕ → ℕ → Key → Bool
  marked' v w j = cond (sends M A k v j || sends M A k w j) (reached_by A k v w k.receiver) (A.marked v w j)

  marked_sym' : (v w : ℕ) (j : Key) → A'.marked v w j ≡ A'.marked w v j
  marked_sym' v w j = let a = reached_sym' v w k.receiver in let b = s.marked_sym v w j in go (cases_Bool (sends M A k v j)) (cases_Bool (sends M A k w j))
    where
      go : (sends M A k v j ≡ true) ⊎ (sends M A k v j ≡ false) → (sends M A k w j ≡ true) ⊎ (sends M A k w j ≡ false) → A'.marked v w j ≡ A'.marked w v j
      go (inl x) (inl y) = simp (x, y) (reached_sym' v w k.receiver)
      go (inl x) (inr y) = simp (x, y) (reached_sym' v w k.receiver)
      go (inr x) (inl y) = simp (x, y) (reached_sym' v w k.receiver)
      go (inr x) (inr y) = simp (x, y) (s.marked_sym v w j)

  marked_self' : (v : ℕ) (j : Key) → A'.marked v v j ≡ false
  marked_self' v j = cond_both (sends M A k v j || sends M A k v j) (reached_by A k v v k.receiver) (A.marked v v j) (λ b. b ≡ false) (λ _. reached_self' v k.receiver) (λ _. s.marked_self v j)

  pub marked_sent : (v w : ℕ) (j : Key) → (sends M A k v j || sends M A k w j) ≡ true → A'.marked v w j ≡ reached_by A k v w k.receiver
  marked_sent v w j h = cond-true (sends M A k v j || sends M A k w j) (reached_by A k v w k.receiver) (A.marked v w j) h

  pub marked_kept : (v w : ℕ) (j : Key) → sends M A k v j ≡ false → sends M A k w j ≡ false → A'.marked v w j ≡ A.marked v w j
  marked_kept v w j x y = cond-false (sends M A k v j || sends M A k w j) (reached_by A k v w k.receiver) (A.marked v w j) (or_from _ _ x y)

  -- what waits in v after its event
  pub find_ran : (v : ℕ) (m : Message) (j : Key) → A.live v ≡ true → Ran A k v m → find j (A'.day v).waiting ≡ either (find j (posted_by M A.end ((A.day v).place m.receiver) m)) (cond (same j k) None (find j (A.day v).waiting))
  find_ran v m j l r =
      ap (λ d. find j d.waiting) (day_ran v m r) ∙ find_event M A.end (A.day v) (s.tidy v l) m r.head j
      ∙ ap (λ i. either (find j (posted_by M A.end ((A.day v).place m.receiver) m)) (cond (same j i) None (find j (A.day v).waiting))) r.key

  -- and where it was not sent just now
  pub find_old : (v : ℕ) (j : Key) → A.live v ≡ true → sends M A k v j ≡ false → find j (A'.day v).waiting ≡ cond (same j k) None (find j (A.day v).waiting)
  find_old v j l h = go (who v l)
    where
      go : ((m : Message) × Ran A k v m) ⊎ ((runs A k v ≡ false) × (find k (A.day v).waiting ≡ None)) → find j (A'.day v).waiting ≡ cond (same j k) None (find j (A.day v).waiting)
      go (inl x) = find_ran v x.0 j l x.1 ∙ ap (λ o. either o (cond (same j k) None (find j (A.day v).waiting))) (none_from _ (sym (sends_ran M A k v x.0 j x.1) ∙ h))
      go (inr x) = ap (λ d. find j d.waiting) (day_idle v x.0) ∙ cond_both (same j k) None (find j (A.day v).waiting) (λ o. find j (A.day v).waiting ≡ o) (λ e. ap (λ i. find i (A.day v).waiting) (same_true j k e) ∙ x.1) (λ _. refl)

  wait_same' : (v w : ℕ) (j : Key) → A.live v ≡ true → A.live w ≡ true → A'.marked v w j ≡ false → find j (A'.day v).waiting ≡ find j (A'.day w).waiting
  wait_same' v w j lv lw h = go (cases_Bool (sends M A k v j)) (cases_Bool (sends M A k w j))
    where
      both : (v w : ℕ) → A.live v ≡ true → A.live w ≡ true → sends M A k v j ≡ true → reached_by A k v w k.receiver ≡ false → find j (A'.day v).waiting ≡ find j (A'.day w).waiting
      both v w lv lw t h =
          let r = ran_from A k v (sends_runs M A k v j t) in
          let m = r.0 in
          let a = agree v w m lv lw r.1 h in
          let x = some_from (find j (posted_by M A.end ((A.day v).place m.receiver) m)) (sym (sends_ran M A k v m j r.1) ∙ t) in
          find_ran v m j lv r.1 ∙ ap (λ o. either o (cond (same j k) None (find j (A.day v).waiting))) x.1
          ∙ sym (find_ran w m j lw a.ran_w ∙ ap (λ o. either o (cond (same j k) None (find j (A.day w).waiting))) (ap (λ q. find j (posted_by M A.end q m)) (sym a.place) ∙ x.1))

      go : (sends M A k v j ≡ true) ⊎ (sends M A k v j ≡ false) → (sends M A k w j ≡ true) ⊎ (sends M A k w j ≡ false) → find j (A'.day v).waiting ≡ find j (A'.day w).waiting
      go (inl x) y = both v w lv lw x (sym (marked_sent v w j (or_left _ _ x)) ∙ h)
      go (inr x) (inl y) = sym (both w v lw lv y (reached_sym' w v k.receiver ∙ sym (marked_sent v w j (or_right _ _ y)) ∙ h))
      go (inr x) (inr y) = find_old v j lv x ∙ ap (cond (same j k) None) (s.wait_same v w j lv lw (sym (marked_kept v w j x y) ∙ h)) ∙ sym (find_old w j lw y)

  marked_through' : (u v w : ℕ) (j : Key) (m : Message) → A.live u ≡ true → A.live v ≡ true → A.live w ≡ true → find j (A'.day u).waiting ≡ Some m
      → A'.marked u v j ≡ false → A'.marked v w j ≡ false → A'.marked u w j ≡ false
  marked_through' u v w j m lu lv lw f x y = go (cases_Bool (sends M A k u j)) (cases_Bool (sends M A k v j)) (cases_Bool (sends M A k w j))
    where
      go : (sends M A k u j ≡ true) ⊎ (sends M A k u j ≡ false) → (sends M A k v j ≡ true) ⊎ (sends M A k v j ≡ false) → (sends M A k w j ≡ true) ⊎ (sends M A k w j ≡ false) → A'.marked u w j ≡ false
      go (inl a) b c =
          let p = sym (marked_sent u v j (or_left _ _ a)) ∙ x in
          let b' = sends_over u v j lu lv a p in
          let q = sym (marked_sent v w j (or_left _ _ b')) ∙ y in
          marked_sent u w j (or_left _ _ a) ∙ reached_through' u v w k.receiver lu lv lw p q
      go (inr a) (inl b) c = absurd (both_ways (sends M A k u j) a (sends_over v u j lv lu b (reached_sym' v u k.receiver ∙ sym (marked_sent u v j (or_right _ _ b)) ∙ x)))
      go (inr a) (inr b) (inl c) = absurd (both_ways (sends M A k v j) b (sends_over w v j lw lv c (reached_sym' w v k.receiver ∙ sym (marked_sent v w j (or_right _ _ c)) ∙ y)))
      go (inr a) (inr b) (inr c) =
          marked_kept u w j a c ∙ s.marked_through u v w j m lu lv lw (waited (cases_Bool (same j k))) (sym (marked_kept u v j a b) ∙ x) (sym (marked_kept v w j b c) ∙ y)
        where
          waited : (same j k ≡ true) ⊎ (same j k ≡ false) → find j (A.day u).waiting ≡ Some m
          waited (inl t) = absurd (none-some m (sym (cond-true (same j k) None (find j (A.day u).waiting) t) ∙ sym (find_old u j lu a) ∙ f))
          waited (inr t) = sym (cond-false (same j k) None (find j (A.day u).waiting) t) ∙ sym (find_old u j lu a) ∙ f

  pub step_sound_at : Sound M (fed_step_at M A (Some k))
  step_sound_at = record {
    given = s.given;
    few = s.few;
    permitted = s.permitted;
    reached_self = reached_self';
    marked_self = marked_self';
    reached_sym = reached_sym';
    marked_sym = marked_sym';
    reached_through = reached_through';
    marked_through = marked_through';
    place_same = place_same';
    wait_same = wait_same';
    tidy = λ v l. cond_both (runs A k v) (event M A.end (A.day v)) (A.day v) (Tidy M) (λ _. tidy_event M law A.end (A.day v) (s.tidy v l)) (λ _. s.tidy v l);
  }

pub step_sound : (M : Meaning) → Law M → (A : Account) → Sound M A → Sound M (fed_step M A)
step_sound M law A s = go (least A 16) refl
  where
    go : (o : Option Key) → least A 16 ≡ o → Sound M (fed_step_at M A o)
    go None e = s
    go (Some k) e = step_sound_at M law A s k e
