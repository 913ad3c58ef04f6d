-- A turn of a step: a variant that leads nothing is passed over, and one that leads runs its group.
use Rattle.std.proofs.Common.{◌≡◌, ℕ, suc, ◌+◌, ◌<◌, Bool, true, false, cond, not, ◌&&◌, ◌||◌, eqb, leb, ◌⊎◌, List, length, Some, None, sym, ap, ◌∙◌, subst, inl, inr, arith}
use Rattle.std.specs.List.{AllByRecursion}
use Rattle.std.proofs.ByRecursion.{All-weaker, all_kept_by}
use Rattle.std.proofs.lemmas.Bool.{cases_Bool, cond-true, cond-false, eqb-true}
use Rattle.event.specs.declared.Key.{Key}
use Rattle.event.specs.declared.Message.{Message}
use Rattle.event.specs.Keys.{key_of}
use Rattle.event.specs.Lists.{insert_all, rest}
use Rattle.group.specs.declared.Group.{Group}
use Rattle.group.specs.Groups.{has}
use Rattle.model.specs.Meaning.{Meaning, Law, listed}
use Rattle.day.specs.declared.place.Place.{Place}
use Rattle.day.specs.Day.{reaction, posted_by, sent_by, place_after}
use Rattle.day.proofs.Numbers.{Between}
use Rattle.account.specs.Account.{Account, ind, sum_below, least, runs, sends, reached_by, leads_run, fed_step_at}
use Rattle.account.specs.Finds.{find, some}
use Rattle.account.specs.Sound.{Sound}
use Rattle.account.proofs.Events.{Under, all_first, fresh, stamped_from, under}
use Rattle.account.proofs.Step.{Ran, Agreed, agree, runs_live, day_ran, sends_ran, step_sound_at}
use Rattle.copies.specs.Sharing.{move_cell, move_content}
use Rattle.follows.specs.View.{View, put_all}
use Rattle.follows.specs.Follows.{CellsFollow, HeldFollow}
use Rattle.follows.specs.Steps.{ran_on}
use Rattle.follows.proofs.Mid.{Mid, Spare, done, group_after, place_mid, reached_mid, waiting_mid, marked_mid}
use Rattle.follows.proofs.Cells.{cells_like, cells_move}
use Rattle.follows.proofs.Held.{held_like, held_put_all}
use Rattle.follows.proofs.Leading.{apart_sym, in_group, to_group, group_reached, led_apart, done_led, done_idle}
use Rattle.follows.proofs.Sent.{distinct_posted, few_posted, length_put_all}
use Rattle.follows.proofs.Tests.{or_none, turn_marked, turn_reached}

module _ (M : Meaning) (law : Law M) (A : Account) (s : Sound M A) (k : Key) (least_is : least A 16 ≡ Some k) where
  abbrev A' : Account
  A' = fed_step_at M A (Some k)

  -- the values in the middle of a step, by who is done
  abbrev places_by : Bool → ℕ → ℕ → Place
  places_by d u p = cond d ((A'.day u).place p) ((A.day u).place p)

  abbrev reached_if : Bool → ℕ → ℕ → ℕ → Bool
  reached_if d u w p = cond d (reached_by A k u w p) (A.reached u w p)

  abbrev waits_by : Bool → ℕ → List Message
  waits_by d u = cond d (A'.day u).waiting (cond (runs A k u) (rest (A.day u).waiting) (A.day u).waiting)

  abbrev marked_if : Bool → ℕ → ℕ → Key → Bool
  marked_if d u w j = cond d (reached_by A k u w k.receiver) (A.marked u w j)

  -- a turn of one that does not lead
  pub mid_skip : (n : ℕ) (V : View) → Mid M A k n V → leads_run A k n ≡ false → Mid M A k (suc n) V
  unfolding sum_below
  mid_skip n V f idle = record {
    same_loaded = f.same_loaded;
    same_end = f.same_end;
    same_live = f.same_live;
    same_undecided = f.same_undecided;
    same_made = f.same_made;
    cells = cells_like M.places A.live V.cell V.content _ _ f.cells _ _ (λ u p l h. ap (λ d. places_by d u p) (stays u l))
        (λ u w p l m h. ap (λ d. reached_if (d || done A k n w) u w p) (stays u l) ∙ ap (λ d. reached_if (done A k (suc n) u || d) u w p) (stays w m));
    messages = held_like A.live V.held _ _ _ _ f.messages (λ u l. ap (λ d. waits_by d u) (stays u l))
        (λ u w j l m. ap (λ d. marked_if ((d && sends M A k u j) || (done A k n w && sends M A k w j)) u w j) (stays u l) ∙ ap (λ d. marked_if ((done A k (suc n) u && sends M A k u j) || (d && sends M A k w j)) u w j) (stays w m));
    journals = f.journals;
    same_executions = let a = ap ind idle in let b = f.same_executions in omega arith;
    few_puts = f.few_puts;
    few_held = let a = f.few_held in let b = ap ind idle in omega arith;
  }
    where
      stays : (u : ℕ) → A.live u ≡ true → done A k n u ≡ done A k (suc n) u
      stays u l = sym (done_idle M law A s k least_is n u l idle)

  -- a turn of one that leads
  module _ (n : ℕ) (V : View) (m : Message) (group : Group) (t : ℕ) (f : Mid M A k n V) (leads : leads_run A k n ≡ true) (ran : Ran A k n m) (same_group : (u : ℕ) → has group u ≡ group_after A k n u)
      (spare : Spare M.places A.live V.cell (has group) m.receiver t) where
    abbrev g : ℕ → Bool
    g = has group

    -- what the copy holds, and what it sends
    abbrev x : Place
    x = V.content (V.cell n m.receiver)

    abbrev posted : List Message
    posted = posted_by M V.end x m

    n_lives : A.live n ≡ true
    n_lives = runs_live A k n ran.ran

    inside : m.receiver < M.places
    inside = all_first (λ y. y.receiver < M.places) (A.day n).waiting m (s.tidy n n_lives).received ran.head

    at_receiver : m.receiver ≡ k.receiver
    at_receiver = ap (λ (j : Key). j.receiver) ran.key

    within : (u : ℕ) → g u ≡ true → group_after A k n u ≡ true
    within u e = sym (same_group u) ∙ e

    lives : (u : ℕ) → g u ≡ true → A.live u ≡ true
    lives u e = (in_group M law A s k least_is n u (within u e)).0

    has_self : g n ≡ true
    has_self = same_group n ∙ to_group M law A s k least_is n n n_lives ((step_sound_at M law A s k least_is).reached_self n k.receiver)

    -- its variants have not had their event yet
    not_done : (u : ℕ) → g u ≡ true → done A k n u ≡ false
    not_done u e = led_apart M law A s k least_is n u n_lives leads (within u e)

    -- they run the same, and the copy is what they have there
    like : (u : ℕ) → g u ≡ true → Agreed M law A s k least_is n u m
    like u e = agree M law A s k least_is n u m n_lives (lives u e) ran (in_group M law A s k least_is n u (within u e)).1

    copy : (u : ℕ) → g u ≡ true → x ≡ (A.day u).place m.receiver
    copy u e = f.cells.holds n m.receiver n_lives inside ∙ cond-false (done A k n n) _ _ (not_done n has_self) ∙ (like u e).place

    posted_is : posted ≡ posted_by M A.end x m
    posted_is = ap (λ (e : ℕ). posted_by M e x m) f.same_end

    -- then they have
    next : (u : ℕ) → A.live u ≡ true → (done A k n u || g u) ≡ done A k (suc n) u
    next u l = ap (λ b. done A k n u || b) (same_group u) ∙ sym (done_led M law A s k least_is n u l leads)

    next_in : (u : ℕ) → g u ≡ true → done A k (suc n) u ≡ true
    next_in u e = sym (next u (lives u e)) ∙ ap (λ b. b || g u) (not_done u e) ∙ e

    next_out : (u : ℕ) → A.live u ≡ true → g u ≡ false → done A k n u ≡ done A k (suc n) u
    next_out u l e = or_none (done A k n u) ∙ ap (λ b. done A k n u || b) (sym e) ∙ next u l

    waited : (u : ℕ) → g u ≡ true → waiting_mid M A k n u ≡ rest (A.day u).waiting
    waited u e = cond-false (done A k n u) _ _ (not_done u e) ∙ cond-true (runs A k u) _ _ (like u e).ran_w.ran

    -- one of the group shares the receiver with the group, and with no other
    reached_in : (u w : ℕ) → A.live w ≡ true → g u ≡ true → reached_by A k u w k.receiver ≡ not (g w)
    reached_in u w l e = group_reached M law A s k least_is n u w n_lives l (within u e) ∙ ap not (sym (same_group w))

    reached_out : (u w : ℕ) → A.live u ≡ true → g w ≡ true → reached_by A k u w k.receiver ≡ not (g u)
    reached_out u w l e = apart_sym M law A s k least_is u w ∙ reached_in w u l e

    places_run : (u p : ℕ) → A.live u ≡ true → (g u ≡ true) ⊎ (g u ≡ false) → cond (g u && eqb p m.receiver) (place_after M x m) (place_mid M A k n u p) ≡ place_mid M A k (suc n) u p
    places_run u p l (inl e) =
        ap (λ z. cond (z && eqb p m.receiver) (place_after M x m) (place_mid M A k n u p)) e ∙ ap (λ z. cond (eqb p m.receiver) (place_after M x m) z) (cond-false (done A k n u) _ _ (not_done u e))
        ∙ ap (λ z. cond (eqb p m.receiver) (place_after M z m) ((A.day u).place p)) (copy u e)
        ∙ sym (cond-true (done A k (suc n) u) _ _ (next_in u e) ∙ ap (λ d. d.place p) (day_ran M law A s k least_is u m (like u e).ran_w))
    places_run u p l (inr e) = ap (λ z. cond (z && eqb p m.receiver) (place_after M x m) (place_mid M A k n u p)) e ∙ ap (λ d. places_by d u p) (next_out u l e)

    elsewhere : (u w p : ℕ) → eqb p m.receiver ≡ false → reached_by A k u w p ≡ A.reached u w p
    elsewhere u w p e = ap (λ z. A.reached u w p || (z && ((runs A k u || runs A k w) && A.marked u w k))) (ap (eqb p) (sym at_receiver) ∙ e) ∙ sym (or_none (A.reached u w p))

    here : (u w p : ℕ) → eqb p m.receiver ≡ true → reached_by A k u w p ≡ reached_by A k u w k.receiver
    here u w p e = ap (λ q. reached_by A k u w q) (eqb-true p m.receiver e ∙ at_receiver)

    reached_run : (u w p : ℕ) → A.live u ≡ true → A.live w ≡ true → cond (eqb p m.receiver && (g u || g w)) (not (g u && g w)) (reached_mid A k n u w p) ≡ reached_mid A k (suc n) u w p
    reached_run u w p l h =
        turn_reached (eqb p m.receiver) (g u) (g w) (done A k n u) (done A k n w) (reached_by A k u w p) (A.reached u w p)
        (λ e. (not_done u e, λ q. here u w p q ∙ reached_in u w h e)) (λ e. (not_done w e, λ q. here u w p q ∙ reached_out u w l e)) (elsewhere u w p)
        ∙ ap (λ d. reached_if (d || (done A k n w || g w)) u w p) (next u l) ∙ ap (λ d. reached_if (done A k (suc n) u || d) u w p) (next w h)

    cells_run : CellsFollow M.places A.live (move_cell V.cell group m.receiver t) (move_content V.content t (place_after M x m)) (place_mid M A k (suc n)) (reached_mid A k (suc n))
    cells_run = cells_like M.places A.live _ _ _ _ (cells_move M.places A.live V.cell V.content _ _ f.cells group m.receiver t (place_after M x m) spare) _ _ (λ u p l h. places_run u p l (cases_Bool (g u))) (λ u w p l h _. reached_run u w p l h)

    waits_run : (u : ℕ) → A.live u ≡ true → (g u ≡ true) ⊎ (g u ≡ false) → cond (g u) (insert_all key_of posted (waiting_mid M A k n u)) (waiting_mid M A k n u) ≡ waiting_mid M A k (suc n) u
    waits_run u l (inl e) =
        cond-true (g u) _ _ e ∙ ap (insert_all key_of posted) (waited u e) ∙ ap (λ ms. insert_all key_of ms (rest (A.day u).waiting)) (posted_is ∙ ap (λ z. posted_by M A.end z m) (copy u e))
        ∙ sym (cond-true (done A k (suc n) u) _ _ (next_in u e) ∙ ap (λ d. d.waiting) (day_ran M law A s k least_is u m (like u e).ran_w))
    waits_run u l (inr e) = cond-false (g u) _ _ e ∙ ap (λ d. waits_by d u) (next_out u l e)

    sent : (u : ℕ) (j : Key) → g u ≡ true → sends M A k u j ≡ some (find j posted)
    sent u j e = sends_ran M A k u m j (like u e).ran_w ∙ ap (λ z. some (find j (posted_by M A.end z m))) (sym (copy u e)) ∙ ap (λ ms. some (find j ms)) (sym posted_is)

    marked_run : (u w : ℕ) (j : Key) → A.live u ≡ true → A.live w ≡ true → cond (some (find j posted) && (g u || g w)) (not (g u && g w)) (marked_mid M A k n u w j) ≡ marked_mid M A k (suc n) u w j
    marked_run u w j l h =
        turn_marked (some (find j posted)) (g u) (g w) (done A k n u) (done A k n w) (sends M A k u j) (sends M A k w j) (reached_by A k u w k.receiver) (A.marked u w j)
        (λ e. (not_done u e, sent u j e, reached_in u w h e)) (λ e. (not_done w e, sent w j e, reached_out u w l e))
        ∙ ap (λ d. marked_if ((d && sends M A k u j) || ((done A k n w || g w) && sends M A k w j)) u w j) (next u l) ∙ ap (λ d. marked_if ((done A k (suc n) u && sends M A k u j) || (d && sends M A k w j)) u w j) (next w h)

    -- no variant of the group has a message with the key of one that is sent
    none_yet : AllByRecursion (λ y. (u : ℕ) → g u ≡ true → find (key_of y) (waiting_mid M A k n u) ≡ None) posted
    none_yet =
        all_kept_by (λ y. leb y.time V.end) _ (sent_by M x m)
        (All-weaker (Between m.receiver x.sent (x.sent + length (listed (reaction M x m).sends))) _ (λ y b u e. ap (find (key_of y)) (waited u e) ∙ fresh m.receiver x.sent y (rest (A.day u).waiting) b.sender b.least (numbers u e)) (sent_by M x m)
        (stamped_from m.time m.receiver x.sent (listed (reaction M x m).sends)))
      where
        numbers : (u : ℕ) → g u ≡ true → Under m.receiver x.sent (rest (A.day u).waiting)
        numbers u e = subst (λ (z : Place). Under m.receiver z.sent (rest (A.day u).waiting)) (sym (copy u e)) (under M A.end (A.day u) (s.tidy u (lives u e)) m (like u e).ran_w.head)

    messages_run : HeldFollow A.live (put_all group posted V.held) (waiting_mid M A k (suc n)) (marked_mid M A k (suc n))
    messages_run = held_like A.live _ _ _ _ _ (held_put_all A.live group (n, has_self) lives posted V.held _ _ f.messages (distinct_posted M V.end x m) none_yet) (λ u l. waits_run u l (cases_Bool (g u))) marked_run

    pub mid_run : Mid M A k (suc n) (ran_on M V m group (V.cell n m.receiver) t)
    unfolding sum_below
    mid_run = record {
      same_loaded = f.same_loaded;
      same_end = f.same_end;
      same_live = f.same_live;
      same_undecided = f.same_undecided;
      same_made = f.same_made;
      cells = cells_run;
      messages = messages_run;
      journals = f.journals;
      same_executions = let a = ap ind leads in let b = f.same_executions in omega arith;
      few_puts = let a = f.few_puts in let b = few_posted M V.end x m in omega arith;
      few_held = let a = f.few_held in let b = few_posted M V.end x m in let c = ap ind leads in let d = length_put_all group posted V.held in omega arith;
    }
