-- What has run in any live variant comes before what waits in any live variant.
use Rattle.std.proofs.Common.{◌≡◌, ℕ, ◌<◌, true, false, not, eqb, leb, ◌⊎◌, List, [], ◌∷◌, Some, None, Option, sym, refl, ap, ◌∙◌, subst, inl, inr, arith}
use Rattle.std.specs.List.{AllByRecursion}
use Rattle.std.proofs.ByRecursion.{All-weaker, all_kept_by, All-push}
use Rattle.std.proofs.lemmas.Bool.{cases_Bool, cond_both, cond-true, eqb-true, and_parts}
use Rattle.event.specs.declared.Message.{Message}
use Rattle.event.specs.declared.Start.{Start}
use Rattle.event.specs.declared.Key.{Key}
use Rattle.event.specs.Keys.{key_of, before, same}
use Rattle.event.specs.Lists.{first, rest, Rising}
use Rattle.account.specs.Finds.{find}
use Rattle.model.specs.Meaning.{arrival_of, Meaning, Law}
use Rattle.day.proofs.Tidy.{stamped_later, first_rest}
use Rattle.day.specs.Day.{Day, sent_by, posted_by, event_at, ordered}
use Rattle.account.specs.Account.{Account, empty, origin, least, runs, fed_load, fed_branch, fed_decide, fed_retire, fed_step_at, fed_step}
use Rattle.account.specs.Sound.{Sound}
use Rattle.event.proofs.Orders.{chain, apart, sooner, same_from}
use Rattle.std.proofs.lemmas.Option.{none-some}
use Rattle.event.proofs.Insertion.{rising_back, all_insert_all}
use Rattle.account.proofs.Events.{all_first}
use Rattle.account.proofs.Calls.{live_origin}
use Rattle.account.proofs.Step.{Ran, who, day_ran, day_idle, least_first}

abbrev pub Ahead : Key → List Message → Type 0
Ahead k xs = AllByRecursion (λ m. before k (key_of m) ≡ true) xs

abbrev pub Between : List Message → List Message → Type 0
Between js xs = AllByRecursion (λ j. Ahead (key_of j) xs) js

abbrev pub Clock : Account → Type 0
Clock A = (v w : ℕ) → A.live v ≡ true → A.live w ≡ true → Between (A.day v).journal (A.day w).waiting

-- a key that is not there, and that no first one comes before, comes before all
ahead_of : (k : Key) (xs : List Message) → Rising key_of xs → find k xs ≡ None → ((x : Message) → first xs ≡ Some x → before (key_of x) k ≡ false) → Ahead k xs
ahead_of k [] h e l = tt
ahead_of k (x ∷ xs) h e l = (b, All-weaker (λ y. before (key_of x) (key_of y) ≡ true) (λ y. before k (key_of y) ≡ true) (λ y c. chain k (key_of x) (key_of y) b c) xs h.0)
  where
    go : (before k (key_of x) ≡ true) ⊎ (before k (key_of x) ≡ false) → before k (key_of x) ≡ true
    go (inl t) = t
    go (inr t) = absurd (none-some x (sym e ∙ cond-true (same k (key_of x)) (Some x) (find k xs) (same_from k (key_of x) (apart k (key_of x) t (l x refl)))))

    b : before k (key_of x) ≡ true
    b = go (cases_Bool (before k (key_of x)))

-- what is sent comes after what is run
pub sent_ahead : (M : Meaning) → Law M → (end : ℕ) (d : Day) (m : Message) → Ahead (key_of m) (posted_by M end (d.place m.receiver) m)
sent_ahead M law end d m =
    all_kept_by (λ x. leb x.time end) (λ x. before (key_of m) (key_of x) ≡ true) (sent_by M (d.place m.receiver) m)
    (All-weaker (λ x. m.time < x.time) (λ x. before (key_of m) (key_of x) ≡ true) (λ x h. sooner (key_of m) (key_of x) h) (sent_by M (d.place m.receiver) m)
    (stamped_later M.places m.time m.receiver (d.place m.receiver).sent _ (law.lawful m.receiver (d.place m.receiver).order (d.place m.receiver).words (arrival_of m))))

rising_rest : (xs : List Message) (m : Message) → Rising key_of xs → first xs ≡ Some m → Ahead (key_of m) (rest xs)
rising_rest xs m h e = (subst (Rising key_of) (first_rest xs m e) h).0

module _ (M : Meaning) (law : Law M) (A : Account) (s : Sound M A) (c : Clock A) (k : Key) (is : least A 16 ≡ Some k) where
  abbrev A' : Account
  A' = fed_step_at M A (Some k)

  -- after the step, k comes before all that waits
  k_ahead : (w : ℕ) → A.live w ≡ true → Ahead k (A'.day w).waiting
  k_ahead w l = go (who M law A s k is w l)
    where
      rising : Rising key_of (A.day w).waiting
      rising = rising_back key_of (A.day w).journal (A.day w).waiting (s.tidy w l).rising

      go : ((m : Message) × Ran A k w m) ⊎ ((runs A k w ≡ false) × (find k (A.day w).waiting ≡ None)) → Ahead k (A'.day w).waiting
      go (inl x) =
          let m = x.0 in
          subst (λ d. Ahead k d.waiting) (sym (day_ran M law A s k is w m x.1))
          (subst (λ j. Ahead j (event_at M A.end (A.day w) (Some m)).waiting) x.1.key
          (all_insert_all key_of (λ y. before (key_of m) (key_of y) ≡ true) (posted_by M A.end ((A.day w).place m.receiver) m) (rest (A.day w).waiting) (sent_ahead M law A.end (A.day w) m) (rising_rest (A.day w).waiting m rising x.1.head)))
      go (inr x) = subst (λ d. Ahead k d.waiting) (sym (day_idle M law A s k is w x.0))
          (ahead_of k (A.day w).waiting rising x.1 (least_first A 16 k is w (let g = s.given w l in let h = s.few in let z : w < 16 = omega arith in z) l))

  -- what had run stays before what waits
  old_between : (v w : ℕ) → A.live v ≡ true → A.live w ≡ true → Between (A.day v).journal (A'.day w).waiting
  old_between v w lv lw = go (who M law A s k is w lw)
    where
      go : ((m : Message) × Ran A k w m) ⊎ ((runs A k w ≡ false) × (find k (A.day w).waiting ≡ None)) → Between (A.day v).journal (A'.day w).waiting
      go (inl x) = All-weaker (λ j. Ahead (key_of j) (A.day w).waiting) (λ j. Ahead (key_of j) (A'.day w).waiting)
          (λ j h. let b = subst (λ i. before (key_of j) i ≡ true) x.1.key (all_first (λ y. before (key_of j) (key_of y) ≡ true) (A.day w).waiting x.0 h x.1.head) in
          All-weaker (λ y. before k (key_of y) ≡ true) (λ y. before (key_of j) (key_of y) ≡ true) (λ y a. chain (key_of j) k (key_of y) b a) (A'.day w).waiting (k_ahead w lw)) (A.day v).journal (c v w lv lw)
      go (inr x) = subst (λ d. Between (A.day v).journal d.waiting) (sym (day_idle M law A s k is w x.0)) (c v w lv lw)

  step_clock_at : Clock (fed_step_at M A (Some k))
  step_clock_at v w lv lw = go (who M law A s k is v lv)
    where
      go : ((m : Message) × Ran A k v m) ⊎ ((runs A k v ≡ false) × (find k (A.day v).waiting ≡ None)) → Between (A'.day v).journal (A'.day w).waiting
      go (inl x) = subst (λ d. Between d.journal (A'.day w).waiting) (sym (day_ran M law A s k is v x.0 x.1))
          (All-push (λ j. Ahead (key_of j) (A'.day w).waiting) (A.day v).journal x.0 (old_between v w lv lw) (subst (λ j. Ahead j (A'.day w).waiting) (sym x.1.key) (k_ahead w lw)))
      go (inr x) = subst (λ d. Between d.journal (A'.day w).waiting) (sym (day_idle M law A s k is v x.0)) (old_between v w lv lw)

pub step_clock : (M : Meaning) → Law M → (A : Account) → Sound M A → Clock A → Clock (fed_step M A)
step_clock M law A s c = go (least A 16) refl
  where
    go : (o : Option Key) → least A 16 ≡ o → Clock (fed_step_at M A o)
    go None e = c
    go (Some k) e = step_clock_at M law A s c k e

pub empty_clock : (M : Meaning) → Clock (empty M)
empty_clock M v w a b = tt

pub load_clock : (M : Meaning) (A : Account) (l : List Start) (end : ℕ) → Clock (fed_load M A l end)
load_clock M A l end v w a b = tt

pub branch_clock : (A : Account) (v : ℕ) → A.live v ≡ true → Clock A → Clock (fed_branch A v)
branch_clock A v l c x y a b = c (origin v A.made x) (origin v A.made y) (live_origin A v l x a) (live_origin A v l y b)

pub retire_clock : (A : Account) (v : ℕ) → Clock A → Clock (fed_retire A v)
retire_clock A v c x y a b = c x y (and_parts (A.live x) (not (eqb x v)) a).0 (and_parts (A.live y) (not (eqb y v)) b).0

pub decide_clock : (A : Account) (v place value : ℕ) → Clock A → Clock (fed_decide A v place value)
decide_clock A v place value c x y a b = subst (λ js. Between js ((fed_decide A v place value).day y).waiting) (sym (journal x)) (subst (λ xs. Between (A.day x).journal xs) (sym (waiting y)) (c x y a b))
  where
    journal : (x : ℕ) → ((fed_decide A v place value).day x).journal ≡ (A.day x).journal
    journal x = cond_both (eqb x v) (ordered (A.day v) place value) (A.day x) (λ d. d.journal ≡ (A.day x).journal) (λ e. ap (λ u. (A.day u).journal) (sym (eqb-true x v e))) (λ _. refl)

    waiting : (x : ℕ) → ((fed_decide A v place value).day x).waiting ≡ (A.day x).waiting
    waiting x = cond_both (eqb x v) (ordered (A.day v) place value) (A.day x) (λ d. d.waiting ≡ (A.day x).waiting) (λ e. ap (λ u. (A.day u).waiting) (sym (eqb-true x v e))) (λ _. refl)
