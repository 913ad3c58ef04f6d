-- What a step or an order will count, read before anything is changed.
use Rattle.std.proofs.Common.{◌≡◌, ℕ, ◌<◌, Bool, true, false, cond, not, ◌&&◌, ◌||◌, eqb, ◌⊎◌, List, [], ◌∷◌, map, length, Some, None, Option, sym, refl, ap, ◌∙◌, inl, inr, ⊎_elim, arith}
use Rattle.std.specs.List.{AllByRecursion}
use Rattle.std.proofs.ByRecursion.{All-weaker, all_kept_by}
use Rattle.std.proofs.lemmas.Bool.{cases_Bool, both_ways, false_from_ne_true, cond-true, cond-false, or_cases, or_left, or_right, and_from, and_left, and_right, and_parts}
use Rattle.event.specs.declared.Key.{Key}
use Rattle.event.specs.Lists.{first}
use Rattle.group.specs.Groups.{has}
use Rattle.calendar.specs.declared.Held.{Held}
use Rattle.calendar.specs.Calls.{key_of_held, waiting}
use Rattle.calendar.specs.Laws.{messages_of}
use Rattle.model.specs.Meaning.{Meaning, Law}
use Rattle.account.specs.Account.{Account, ind, sum_below, least, runs, reached_by, leads_run, fed_step_at, fed_decide}
use Rattle.account.specs.Finds.{find, some}
use Rattle.account.specs.Groups.{copies, worked}
use Rattle.account.specs.Sound.{Sound}
use Rattle.account.proofs.Leaders.{sum_same}
use Rattle.copies.specs.Sharing.{groups, shares_decided, together}
use Rattle.follows.specs.View.{View}
use Rattle.follows.specs.Follows.{Follows, Fit}
use Rattle.follows.specs.Steps.{with_key, took_all, leads_in, group_of, shares_after}
use Rattle.follows.proofs.Copies.{groups_leaders}
use Rattle.follows.proofs.Held.{Grouped, Seen, all_both, found_held, messages_there}
use Rattle.follows.proofs.Start.{mid_start}
use Rattle.follows.proofs.Step.{head_of, head_none, leads_same}
use Rattle.follows.proofs.Taking.{Takes, takes, idle, who_takes, taken_key}
use Rattle.follows.proofs.Tests.{ahead_tests}

module _ (M : Meaning) (law : Law M) (A : Account) (s : Sound M A) (k : Key) (least_is : least A 16 ≡ Some k) (V : View) (f : Follows M V A) where
  abbrev heads : List Held
  heads = with_key k V.held

  -- the executions to come
  pub leads_ahead : (v : ℕ) → leads_in V v (first (waiting v heads)) ≡ leads_run A k v
  leads_ahead v = go (first (waiting v heads)) refl
    where
      go : (o : Option Held) → first (waiting v heads) ≡ o → leads_in V v o ≡ leads_run A k v
      go None e = sym (and_left (runs A k v) _ (head_none M law A s k least_is V f v e))
      go (Some h) e = leads_same M law A s k least_is V f v h (head_of M law A s k least_is V f v h e) 0 (took_all V k) (mid_start M law A s k least_is V f)

  pub worked_ahead : sum_below (λ v. ind (leads_in V v (first (waiting v (with_key k V.held))))) 16 ≡ worked A k
  worked_ahead = sum_same _ _ 16 (λ v. ap ind (leads_ahead v))

  -- a message that is taken is run by all its group, and has one group for those that it is not marked for
  record Taken (h : Held) : Type 0 where
    fit : Fit A.live h
    run : (v : ℕ) → has h.group v ≡ true → runs A k v ≡ true
    grouped : (u w : ℕ) → has h.group u ≡ true → A.live w ≡ true → has h.group w ≡ not (A.marked u w k)

  all_taken : AllByRecursion Taken heads
  all_taken =
      All-weaker (λ h. (Fit A.live h × Seen heads h) × ((key_of_held h ≡ k) × Grouped A.live A.marked h)) Taken
      (λ h g. record {
        fit = g.0.0;
        run = λ v e. run h v (g.0.1 v e) (who_takes M A s law k least_is V.held f.messages v (g.0.0.within v e));
        grouped = λ u w e l. g.1.1 u w e l ∙ ap (λ j. not (A.marked u w j)) g.1.0;
      }) heads
      (all_both _ _ heads (all_both _ _ heads (all_kept_by _ (Fit A.live) V.held f.messages.fit) (found_held heads)) (all_both _ _ heads (taken_key k V.held) (all_kept_by _ (Grouped A.live A.marked) V.held f.messages.grouped)))
    where
      run : (h : Held) (v : ℕ) → some (find (key_of_held h) (messages_of v (with_key k V.held))) ≡ true → Takes M A s law k least_is V.held v → runs A k v ≡ true
      run h v e (takes m r a b) = r.ran
      run h v e (idle r a b) = absurd (both_ways (some (find (key_of_held h) (messages_of v (with_key k V.held)))) (ap (λ ms. some (find (key_of_held h) ms)) a) e)

  module _ (x y : ℕ) (x_lives : A.live x ≡ true) (y_lives : A.live y ≡ true) where
    abbrev parted : Bool
    parted = (runs A k x || runs A k y) && A.marked x y k

    -- where the two are not parted, each group has both or neither
    both_or_none : (hs : List Held) → AllByRecursion Taken hs → parted ≡ false → together (map group_of hs) x y ≡ true
    both_or_none [] a e = refl
    both_or_none (h ∷ hs) a e = and_from _ _ (one (cases_Bool (has h.group x)) (cases_Bool (has h.group y))) (both_or_none hs a.1 e)
      where
        clear : (runs A k x || runs A k y) ≡ true → A.marked x y k ≡ false
        clear r = false_from_ne_true _ (λ m. both_ways parted e (and_from _ _ r m))

        one : (has h.group x ≡ true) ⊎ (has h.group x ≡ false) → (has h.group y ≡ true) ⊎ (has h.group y ≡ false) → cond (has h.group x) (has h.group y) (not (has h.group y)) ≡ true
        one (inl p) q = cond-true (has h.group x) _ _ p ∙ a.0.grouped x y p y_lives ∙ ap not (clear (or_left (runs A k x) _ (a.0.run x p)))
        one (inr p) (inr q) = cond-false (has h.group x) _ _ p ∙ ap not q
        one (inr p) (inl q) = absurd (both_ways (has h.group x) p (a.0.grouped y x q x_lives ∙ ap not (s.marked_sym y x k ∙ clear (or_right (runs A k x) _ (a.0.run y q)))))

    -- where they are, a group has one of the two only
    one_only : (hs : List Held) → AllByRecursion Taken hs → A.marked x y k ≡ true → (v : ℕ) → (v ≡ x) ⊎ (v ≡ y) → length (messages_of v hs) ≡ 1 → together (map group_of hs) x y ≡ false
    one_only [] a e v w n = absurd (omega arith)
    one_only (h ∷ hs) a e v w n = go (cases_Bool (has h.group x)) (cases_Bool (has h.group y)) (one_only hs a.1 e v w)
      where
        out : has h.group x ≡ false → has h.group y ≡ false → (v ≡ x) ⊎ (v ≡ y) → has h.group v ≡ false
        out p q (inl z) = ap (has h.group) z ∙ p
        out p q (inr z) = ap (has h.group) z ∙ q

        go : (has h.group x ≡ true) ⊎ (has h.group x ≡ false) → (has h.group y ≡ true) ⊎ (has h.group y ≡ false) → (length (messages_of v hs) ≡ 1 → together (map group_of hs) x y ≡ false)
            → (cond (has h.group x) (has h.group y) (not (has h.group y)) && together (map group_of hs) x y) ≡ false
        go (inl p) q ih = and_left _ _ (cond-true (has h.group x) _ _ p ∙ a.0.grouped x y p y_lives ∙ ap not e)
        go (inr p) (inl q) ih = and_left _ _ (cond-false (has h.group x) _ _ p ∙ ap not q)
        go (inr p) (inr q) ih = and_right _ _ (ih (sym (ap length (messages_there v h hs (out p q w))) ∙ n))

    takes_one : (v : ℕ) → runs A k v ≡ true → Takes M A s law k least_is V.held v → length (messages_of v heads) ≡ 1
    takes_one v r (takes m q a b) = ap length a
    takes_one v r (idle q a b) = absurd (both_ways (runs A k v) q r)

    together_is : together (map group_of heads) x y ≡ not parted
    together_is = go (cases_Bool parted)
      where
        one : (v : ℕ) → A.live v ≡ true → runs A k v ≡ true → length (messages_of v heads) ≡ 1
        one v l r = takes_one v r (who_takes M A s law k least_is V.held f.messages v l)

        go : (parted ≡ true) ⊎ (parted ≡ false) → together (map group_of heads) x y ≡ not parted
        go (inr e) = both_or_none heads all_taken e ∙ sym (ap not e)
        go (inl e) =
            let p = and_parts (runs A k x || runs A k y) _ e in
            ⊎_elim (λ (r : runs A k x ≡ true). one_only heads all_taken p.1 x (inl refl) (one x x_lives r)) (λ (r : runs A k y ≡ true). one_only heads all_taken p.1 y (inr refl) (one y y_lives r)) (or_cases (runs A k x) (runs A k y) p.0)
            ∙ sym (ap not e)

  shares_ahead : (x y p : ℕ) → A.live x ≡ true → A.live y ≡ true → p < M.places → shares_after V k p x y ≡ not (reached_by A k x y p)
  shares_ahead x y p l m h =
      ahead_tests (eqb (V.cell x p) (V.cell y p)) (A.reached x y p) (eqb p k.receiver) ((runs A k x || runs A k y) && A.marked x y k) (together (map group_of heads) x y) (f.cells.shared x y p l m h) (together_is x y l m)

  -- the groups to come
  pub copies_ahead : groups M.places V.live (shares_after V k) ≡ copies M (fed_step_at M A (Some k))
  copies_ahead = groups_leaders M.places V.live A.live (shares_after V k) (reached_by A k) f.same_live shares_ahead

-- the groups that an order would leave
pub copies_decided : (M : Meaning) (A : Account) (V : View) → Follows M V A → (v place value : ℕ) → groups M.places V.live (shares_decided V.cell v place) ≡ copies M (fed_decide A v place value)
copies_decided M A V f v place value = groups_leaders M.places V.live A.live (shares_decided V.cell v place) (fed_decide A v place value).reached f.same_live shared
  where
    last : (e b g : Bool) → e ≡ not b → (e && not g) ≡ not (b || g)
    last e true g p = simp p
    last e false g p = simp p

    shared : (x y p : ℕ) → A.live x ≡ true → A.live y ≡ true → p < M.places → shares_decided V.cell v place p x y ≡ not ((fed_decide A v place value).reached x y p)
    shared x y p l m h = last (eqb (V.cell x p) (V.cell y p)) (A.reached x y p) (eqb p place && (not (eqb x y) && (eqb x v || eqb y v))) (f.cells.shared x y p l m h)
