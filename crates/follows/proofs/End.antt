-- The end of a step: all that ran have had their event.
use Rattle.std.proofs.Common.{◌≡◌, ℕ, ◌+◌, ◌*◌, ◌≤◌, true, false, cond, ◌&&◌, ◌||◌, eqb, ◌⊎◌, length, Some, sym, ap, ◌∙◌, subst, inl, inr, ⊎_elim}
use Rattle.std.proofs.lemmas.Bool.{cases_Bool, cond-true, cond-false, and_left}
use Rattle.event.specs.declared.Key.{Key}
use Rattle.event.specs.Lists.{rest}
use Rattle.model.specs.Meaning.{Meaning, Law}
use Rattle.day.specs.declared.place.Place.{Place}
use Rattle.day.specs.Day.{Day}
use Rattle.account.specs.Account.{Account, least, runs, sends, reached_by, fed_step_at}
use Rattle.account.specs.Sound.{Sound}
use Rattle.account.proofs.Step.{day_idle, sends_idle}
use Rattle.follows.specs.View.{View}
use Rattle.follows.specs.Follows.{Follows}
use Rattle.follows.proofs.Mid.{Mid, done}
use Rattle.follows.proofs.Cells.{cells_like}
use Rattle.follows.proofs.Held.{held_like}
use Rattle.follows.proofs.Leading.{done_all}
use Rattle.follows.proofs.Tests.{end_reached}

module _ (M : Meaning) (law : Law M) (A : Account) (s : Sound M A) (k : Key) (least_is : least A 16 ≡ Some k) where
  abbrev A' : Account
  A' = fed_step_at M A (Some k)

  all : (u : ℕ) → A.live u ≡ true → done A k 16 u ≡ runs A k u
  all u l = done_all M law A s k least_is u l

  -- of one that does not run nothing changes
  places_end : (u : ℕ) (g : Day → Place) → cond (runs A k u) (g (A'.day u)) (g (A.day u)) ≡ g (A'.day u)
  places_end u g = ⊎_elim (λ (t : runs A k u ≡ true). cond-true (runs A k u) _ _ t) (λ (t : runs A k u ≡ false). cond-false (runs A k u) _ _ t ∙ sym (ap g (day_idle M law A s k least_is u t))) (cases_Bool (runs A k u))

  waits_end : (u : ℕ) → (runs A k u ≡ true) ⊎ (runs A k u ≡ false) → cond (runs A k u) (A'.day u).waiting (cond (runs A k u) (rest (A.day u).waiting) (A.day u).waiting) ≡ (A'.day u).waiting
  waits_end u (inl t) = cond-true (runs A k u) _ _ t
  waits_end u (inr t) = cond-false (runs A k u) _ _ t ∙ cond-false (runs A k u) _ _ t ∙ sym (ap (λ d. d.waiting) (day_idle M law A s k least_is u t))

  sent : (u : ℕ) (j : Key) → (runs A k u && sends M A k u j) ≡ sends M A k u j
  sent u j = ⊎_elim (λ (t : runs A k u ≡ true). ap (λ z. z && sends M A k u j) t) (λ (t : runs A k u ≡ false). and_left (runs A k u) _ t ∙ sym (sends_idle M A k u j t)) (cases_Bool (runs A k u))

  reached_end : (u w p : ℕ) → A.live u ≡ true → A.live w ≡ true → cond (done A k 16 u || done A k 16 w) (reached_by A k u w p) (A.reached u w p) ≡ reached_by A k u w p
  reached_end u w p l h =
      ap (λ d. cond (d || done A k 16 w) (reached_by A k u w p) (A.reached u w p)) (all u l) ∙ ap (λ d. cond (runs A k u || d) (reached_by A k u w p) (A.reached u w p)) (all w h)
      ∙ end_reached (runs A k u) (runs A k w) (A.reached u w p) (eqb p k.receiver) (A.marked u w k)

  marked_end : (u w : ℕ) (j : Key) → A.live u ≡ true → A.live w ≡ true
      → cond ((done A k 16 u && sends M A k u j) || (done A k 16 w && sends M A k w j)) (reached_by A k u w k.receiver) (A.marked u w j) ≡ A'.marked u w j
  marked_end u w j l h = ap (λ d. cond d (reached_by A k u w k.receiver) (A.marked u w j)) (ap (λ d. (d && sends M A k u j) || (done A k 16 w && sends M A k w j)) (all u l)
      ∙ ap (λ d. (runs A k u && sends M A k u j) || (d && sends M A k w j)) (all w h) ∙ ap (λ d. d || (runs A k w && sends M A k w j)) (sent u j) ∙ ap (λ d. sends M A k u j || d) (sent w j))

  pub mid_end : (V : View) → Mid M A k 16 V → Follows M V (fed_step_at M A (Some k))
  mid_end V f = record {
    same_loaded = f.same_loaded;
    same_end = f.same_end;
    same_live = f.same_live;
    same_undecided = f.same_undecided;
    same_made = f.same_made;
    cells = cells_like M.places A.live V.cell V.content _ _ f.cells _ _ (λ u p l h. ap (λ d. cond d ((A'.day u).place p) ((A.day u).place p)) (all u l) ∙ places_end u (λ d. d.place p)) (λ u w p l m h. reached_end u w p l m);
    messages = held_like A.live V.held _ _ _ _ f.messages
        (λ u l. ap (λ d. cond d (A'.day u).waiting (cond (runs A k u) (rest (A.day u).waiting) (A.day u).waiting)) (all u l) ∙ waits_end u (cases_Bool (runs A k u))) (λ u w j l m. marked_end u w j l m);
    journals = f.journals;
    same_executions = f.same_executions;
    few_puts = subst (λ (e : ℕ). V.puts ≤ length A.load + 2 * e) f.same_executions f.few_puts;
  }
