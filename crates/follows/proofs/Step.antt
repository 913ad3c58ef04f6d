-- A whole step: each turn finds the group that the account has, and a cell for it.
use Rattle.std.proofs.Common.{◌≡◌, ℕ, zero, suc, ◌<◌, Bool, true, false, cond, not, ◌&&◌, ◌||◌, ltb, ◌⊎◌, List, [], ◌∷◌, map, unwrap_or, Some, None, Option, sym, refl, ap, ◌∙◌, subst, inl, inr}
use Rattle.std.specs.List.{AllByRecursion}
use Rattle.std.proofs.ByRecursion.{all_kept_by}
use Rattle.std.proofs.lemmas.Bool.{cases_Bool, both_ways, cond_both, eq-eqb, false_from_ne_true, true_from_ne_false, lt-ltb, and_from, and_left, and_right, not_from_false}
use Rattle.std.proofs.lemmas.Option.{none-some}
use Rattle.event.specs.declared.Key.{Key}
use Rattle.event.specs.Lists.{first}
use Rattle.group.specs.Groups.{has}
use Rattle.group.proofs.Members.{has_gathered}
use Rattle.calendar.specs.declared.Held.{Held}
use Rattle.calendar.specs.Calls.{key_of_held, waiting}
use Rattle.calendar.specs.Laws.{message_of}
use Rattle.model.specs.Meaning.{Meaning, Law}
use Rattle.account.specs.Account.{Account, any_below, least, runs, reached_by, leads_run, fed_step_at, fed_step}
use Rattle.account.specs.Sound.{Sound}
use Rattle.account.proofs.Bounds.{any_from}
use Rattle.account.proofs.Events.{all_first}
use Rattle.account.proofs.Leaders.{any_same}
use Rattle.account.proofs.Step.{Ran, some_is, runs_live, reached_sym'}
use Rattle.copies.specs.Sharing.{shares, crowded, free, target}
use Rattle.follows.specs.View.{View}
use Rattle.follows.specs.Follows.{Follows, Fit}
use Rattle.follows.specs.Steps.{with_key, took_all, head_key, group_in, ran_group, leads_in, turn_of, turns, stepped_at, stepped}
use Rattle.follows.proofs.Mid.{Mid, Spare, done, reached_mid, group_after}
use Rattle.follows.proofs.End.{mid_end}
use Rattle.follows.proofs.Entries.{entry_at, first_at}
use Rattle.follows.proofs.Held.{Grouped, all_both}
use Rattle.follows.proofs.Run.{mid_skip, mid_run}
use Rattle.follows.proofs.Start.{mid_start}
use Rattle.follows.proofs.Taking.{Takes, takes, idle, who_takes, taken_key, least_head, small}
use Rattle.follows.proofs.Tests.{group_tests}

-- what the first that is held tells of the first message
first_message : (hs : List Held) (h : Held) → first hs ≡ Some h → first (map message_of hs) ≡ Some h.message
first_message [] h e = absurd (none-some h e)
first_message (x ∷ hs) h e = ap (λ (y : Held). Some y.message) (some_is x h e)

first_none : (hs : List Held) → first hs ≡ None → map message_of hs ≡ []
first_none [] e = refl
first_none (x ∷ hs) e = absurd (none-some x (sym e))

module _ (M : Meaning) (law : Law M) (A : Account) (s : Sound M A) (k : Key) (least_is : least A 16 ≡ Some k) (V : View) (f : Follows M V A) where
  abbrev pub heads : List Held
  heads = with_key k V.held

  -- what n's message of those that are taken is
  pub record Head (n : ℕ) (h : Held) : Type 0 where
    pub alive : A.live n ≡ true
    pub ran : Ran A k n h.message
    pub fit : Fit A.live h
    pub grouped : (w : ℕ) → A.live w ≡ true → has h.group w ≡ not (A.marked n w k)

  taken : AllByRecursion (λ h. Fit A.live h × ((key_of_held h ≡ k) × Grouped A.live A.marked h)) heads
  taken = all_both _ _ heads (all_kept_by _ (Fit A.live) V.held f.messages.fit) (all_both _ _ heads (taken_key k V.held) (all_kept_by _ (Grouped A.live A.marked) V.held f.messages.grouped))

  pub head_of : (n : ℕ) (h : Held) → first (waiting n heads) ≡ Some h → Head n h
  head_of n h e = record {
    alive = l;
    ran = mine (who_takes M A s law k least_is V.held f.messages n l);
    fit = g.0.0;
    grouped = λ w m. g.0.1.1 n w g.1 m ∙ ap (λ j. not (A.marked n w j)) g.0.1.0;
  }
    where
      g : (Fit A.live h × ((key_of_held h ≡ k) × Grouped A.live A.marked h)) × (has h.group n ≡ true)
      g = entry_at (λ y. Fit A.live y × ((key_of_held y ≡ k) × Grouped A.live A.marked y)) n 0 heads h taken (first_at (waiting n heads) ∙ e)

      l : A.live n ≡ true
      l = g.0.0.within n g.1

      mine : Takes M A s law k least_is V.held n → Ran A k n h.message
      mine (takes m r a b) = subst (Ran A k n) (some_is m h.message (sym (ap first a) ∙ first_message (waiting n heads) h e)) r
      mine (idle r a b) = absurd (none-some h.message (sym (ap first a) ∙ first_message (waiting n heads) h e))

  pub head_none : (n : ℕ) → first (waiting n heads) ≡ None → runs A k n ≡ false
  head_none n e = false_from_ne_true _ (λ t. both_ways (runs A k n) (none (who_takes M A s law k least_is V.held f.messages n (runs_live A k n t))) t)
    where
      none : Takes M A s law k least_is V.held n → runs A k n ≡ false
      none (idle r a b) = r
      none (takes m r a b) = absurd (none-some m (ap first (sym (first_none (waiting n heads) e) ∙ a)))

  module _ (n : ℕ) (h : Held) (d : Head n h) where
    pub at_receiver : h.message.receiver ≡ k.receiver
    at_receiver = ap (λ (j : Key). j.receiver) d.ran.key

    pub inside : h.message.receiver < M.places
    inside = all_first (λ y. y.receiver < M.places) (A.day n).waiting h.message (s.tidy n d.alive).received d.ran.head

    -- the group that the study finds is the account's, at any time of the step
    pub group_same : (i : ℕ) (W : View) → Mid M A k i W → (w : ℕ) → has (group_in W h n) w ≡ group_after A k n w
    group_same i W c w = has_gathered _ 16 w ∙ go (cases_Bool (A.live w))
      where
        alike : Bool
        alike = shares W.cell h.message.receiver w n

        after : reached_by A k n w k.receiver ≡ (A.reached n w k.receiver || A.marked n w k)
        after =
            ap (λ b. A.reached n w k.receiver || (b && ((runs A k n || runs A k w) && A.marked n w k))) (eq-eqb k.receiver k.receiver refl)
            ∙ ap (λ b. A.reached n w k.receiver || ((b || runs A k w) && A.marked n w k)) d.ran.ran

        grouped : A.live w ≡ true → (has h.group w && alike) ≡ not (reached_by A k n w k.receiver)
        grouped l =
            ap (λ b. b && alike) (d.grouped w l)
            ∙ ap (λ b. not (A.marked n w k) && b) (c.cells.shared w n h.message.receiver l d.alive inside ∙ ap (λ q. not (reached_mid A k i w n q)) at_receiver)
            ∙ ap (λ b. not (A.marked n w k) && not (cond (done A k i w || done A k i n) b (A.reached w n k.receiver))) (reached_sym' M law A s k least_is w n k.receiver)
            ∙ ap (λ b. not (A.marked n w k) && not (cond (done A k i w || done A k i n) (reached_by A k n w k.receiver) b)) (s.reached_sym w n k.receiver)
            ∙ group_tests (A.marked n w k) (A.reached n w k.receiver) (reached_by A k n w k.receiver) (done A k i w || done A k i n) after

        go : (A.live w ≡ true) ⊎ (A.live w ≡ false) → (ltb w 16 && (ltb w 16 && (has h.group w && alike))) ≡ (A.live w && not (reached_by A k n w k.receiver))
        go (inr l) = let a = false_from_ne_true (has h.group w) (λ t. both_ways (A.live w) l (d.fit.within w t)) in simp (a, l) (and_right (ltb w 16) _ (and_right (ltb w 16) false refl))
        go (inl l) = let a = lt-ltb w 16 (small M A s w l) in simp (a, l) (grouped l)

    same_any : (i : ℕ) (W : View) → Mid M A k i W → any_below (has (group_in W h n)) n ≡ any_below (group_after A k n) n
    same_any i W c = any_same (has (group_in W h n)) (group_after A k n) n (group_same i W c)

    pub leads_same : (i : ℕ) (W : View) → Mid M A k i W → leads_in W n (Some h) ≡ leads_run A k n
    leads_same i W c = ap not (same_any i W c) ∙ sym (ap (λ b. b && not (any_below (group_after A k n) n)) d.ran.ran)

  -- where others have n's cell, a free one is found
  abbrev pub Finds : Type 0
  Finds = (n : ℕ) (W : View) (h : Held) → Mid M A k n W → Head n h → crowded W.cell W.live (group_in W h n) h.message.receiver n ≡ true
      → Spare M.places A.live W.cell (has (group_in W h n)) h.message.receiver (unwrap_or (free M.places W.cell W.live) (W.cell n h.message.receiver))

  module _ (finds : Finds) where
    -- else nobody but the group has it
    own : (n : ℕ) (W : View) (h : Held) → Mid M A k n W → Head n h → crowded W.cell W.live (group_in W h n) h.message.receiver n ≡ false
        → Spare M.places A.live W.cell (has (group_in W h n)) h.message.receiver (W.cell n h.message.receiver)
    own n W h c d y = record {
      inside = c.cells.inside n h.message.receiver d.alive (inside n h d);
      apart = λ u q l m e. let z = c.cells.one_place u n q h.message.receiver l d.alive m (inside n h d) e in (z, true_from_ne_false _ (λ g. outside u q l e z g));
    }
      where
        outside : (u q : ℕ) → A.live u ≡ true → W.cell u q ≡ W.cell n h.message.receiver → q ≡ h.message.receiver → has (group_in W h n) u ≡ false → ⊥
        outside u q l e z g =
            both_ways (crowded W.cell W.live (group_in W h n) h.message.receiver n) y
            (any_from _ 16 u (small M A s u l) (and_from (has W.live u) _ (c.same_live u ∙ l) (and_from (shares W.cell h.message.receiver u n) _ (eq-eqb _ _ (ap (W.cell u) (sym z) ∙ e)) (not_from_false _ g))))

    turn_mid : (n : ℕ) (W : View) → Mid M A k n W → Mid M A k (suc n) (turn_of M W n (first (waiting n heads)))
    turn_mid n W c = go (first (waiting n heads)) refl
      where
        go : (o : Option Held) → first (waiting n heads) ≡ o → Mid M A k (suc n) (turn_of M W n o)
        go None e = mid_skip M law A s k least_is n W c (and_left (runs A k n) _ (head_none n e))
        go (Some h) e =
            cond_both (leads_in W n (Some h)) (ran_group M W h n) W (Mid M A k (suc n)) (λ y. run (sym (leads_same n h d n W c) ∙ y)) (λ y. mid_skip M law A s k least_is n W c (sym (leads_same n h d n W c) ∙ y))
          where
            d : Head n h
            d = head_of n h e

            spare : Spare M.places A.live W.cell (has (group_in W h n)) h.message.receiver (target M.places W.cell W.live (group_in W h n) h.message.receiver n)
            spare = cond_both (crowded W.cell W.live (group_in W h n) h.message.receiver n) (unwrap_or (free M.places W.cell W.live) (W.cell n h.message.receiver)) (W.cell n h.message.receiver)
                (Spare M.places A.live W.cell (has (group_in W h n)) h.message.receiver) (finds n W h c d) (own n W h c d)

            run : leads_run A k n ≡ true → Mid M A k (suc n) (ran_group M W h n)
            run l = mid_run M law A s k least_is n W h.message (group_in W h n) (target M.places W.cell W.live (group_in W h n) h.message.receiver n) c l d.ran (group_same n h d n W c) spare

    pub turns_mid : (n : ℕ) → Mid M A k n (turns M heads (took_all V k) n)
    unfolding turns
    turns_mid zero = mid_start M law A s k least_is V f
    turns_mid (suc n) = turn_mid n _ (turns_mid n)

    pub step_follows_at : Follows M (stepped_at M V (Some k)) (fed_step_at M A (Some k))
    step_follows_at = mid_end M law A s k least_is _ (turns_mid 16)

-- a step of the study follows the account's step
pub step_follows : (M : Meaning) (law : Law M) (A : Account) (s : Sound M A) (V : View) (f : Follows M V A) → ((k : Key) (e : least A 16 ≡ Some k) → Finds M law A s k e V f) → Follows M (stepped M V) (fed_step M A)
step_follows M law A s V f finds = go (head_key V.held) (least_head M A s V.held f.messages)
  where
    go : (o : Option Key) → least A 16 ≡ o → Follows M (stepped_at M V o) (fed_step M A)
    go None e = subst (λ (o : Option Key). Follows M V (fed_step_at M A o)) (sym e) f
    go (Some k) e = subst (λ (o : Option Key). Follows M (stepped_at M V (Some k)) (fed_step_at M A o)) (sym e) (step_follows_at M law A s k e V f (finds k e))
