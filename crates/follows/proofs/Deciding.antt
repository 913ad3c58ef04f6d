-- Decide: the study goes on following, on a cell that no other has.
use Rattle.std.proofs.Common.{◌≡◌, ℕ, ◌<◌, ◌≤◌, Bool, true, false, cond, not, ◌&&◌, ◌||◌, eqb, ◌⊎◌, is_some, unwrap_or, sym, refl, ap, ◌∙◌, inl, inr, arith}
use Rattle.std.proofs.lemmas.Bool.{both_ways, cond_both, cases_eq, eq-eqb, ne_eqb, eqb-true, true_from_ne_false, and_from, and_parts, not-true, not_from_false, or_parts}
use Rattle.std.proofs.lemmas.Bool.Decides.{nat_tests}
use Rattle.group.specs.Groups.{has, only}
use Rattle.model.specs.Meaning.{Meaning}
use Rattle.day.specs.declared.place.Place.{Place}
use Rattle.day.specs.Day.{ordered, ordered_place}
use Rattle.account.specs.Account.{Account, fed_decide}
use Rattle.account.specs.Groups.{copies}
use Rattle.account.specs.Sound.{Sound}
use Rattle.account.proofs.Bounds.{any_from}
use Rattle.account.proofs.Calls.{decide_sound}
use Rattle.copies.specs.Sharing.{crowded, free, shares}
use Rattle.follows.specs.View.{View, decided_on, decided}
use Rattle.follows.specs.Follows.{Follows}
use Rattle.follows.proofs.Mid.{Spare}
use Rattle.follows.proofs.Below.{any_at}
use Rattle.follows.proofs.Cells.{cells_like, cells_move}
use Rattle.follows.proofs.Free.{free_found, free_spare}
use Rattle.follows.proofs.Held.{held_like}
use Rattle.follows.proofs.Taking.{small}
use Rattle.follows.proofs.Registers.{has_only, has_but}

module _ (M : Meaning) (V : View) (A : Account) (v : ℕ) (s : Sound M A) (f : Follows M V A) (place value : ℕ) (l : A.live v ≡ true) (inside : place < M.places) where
  abbrev A' : Account
  A' = fed_decide A v place value

  abbrev x : Place
  x = ordered_place (V.content (V.cell v place)) value

  same_waiting : (u : ℕ) → (A.day u).waiting ≡ (A'.day u).waiting
  same_waiting u = cond_both (eqb u v) (ordered (A.day v) place value) (A.day u) (λ d. (A.day u).waiting ≡ d.waiting) (λ e. ap (λ y. (A.day y).waiting) (eqb-true u v e)) (λ _. refl)

  same_journal : (u : ℕ) → (A.day u).journal ≡ (A'.day u).journal
  same_journal u = cond_both (eqb u v) (ordered (A.day v) place value) (A.day u) (λ d. (A.day u).journal ≡ d.journal) (λ e. ap (λ y. (A.day y).journal) (eqb-true u v e)) (λ _. refl)

  places : (u q : ℕ) → (u ≡ v) ⊎ (u ≡ v → ⊥) → (q ≡ place) ⊎ (q ≡ place → ⊥) → cond (eqb u v && eqb q place) x ((A.day u).place q) ≡ (A'.day u).place q
  places u q (inr n) d = let a = ne_eqb u v n in simp a
  places u q (inl e) (inr n) = let a = eq-eqb u v e in let b = ne_eqb q place n in simp (a, b) (ap (λ y. (A.day y).place q) e)
  places u q (inl e) (inl d) = let a = eq-eqb u v e in let b = eq-eqb q place d in simp (a, b) (ap (λ y. ordered_place y value) (f.cells.holds v place l inside))

  reaches : (u w q : ℕ) → (u ≡ w) ⊎ (u ≡ w → ⊥) → cond (eqb q place && (eqb u v || eqb w v)) (not (eqb u v && eqb w v)) (A.reached u w q) ≡ A'.reached u w q
  reaches u w q (inl e) = let a : A.reached u w q ≡ false = ap (λ y. A.reached u y q) (sym e) ∙ s.reached_self u q in grind (arith, nat_tests)
  reaches u w q (inr e) = grind (arith, nat_tests)

  abbrev one : ℕ → Bool
  one u = has (only v) u

  is_v : (u : ℕ) → one u ≡ eqb u v
  is_v u = has_only v u (small M A s v l)

  -- on a cell that no other has
  decide_on : (t : ℕ) → Spare M.places A.live V.cell (has (only v)) place t → Follows M (decided_on V v place value t) (fed_decide A v place value)
  decide_on t spare = record {
    same_loaded = f.same_loaded;
    same_end = f.same_end;
    same_live = f.same_live;
    same_undecided = has_but V.undecided A.undecided v f.same_undecided;
    same_made = f.same_made;
    cells = cells_like M.places A.live _ _ _ _ (cells_move M.places A.live V.cell V.content _ _ f.cells (only v) place t x spare) _ _
        (λ u q m k. ap (λ b. cond (b && eqb q place) x ((A.day u).place q)) (is_v u) ∙ places u q (cases_eq u v) (cases_eq q place))
        (λ u w q a b k. ap (λ c. cond (eqb q place && (c || one w)) (not (c && one w)) (A.reached u w q)) (is_v u)
        ∙ ap (λ c. cond (eqb q place && (eqb u v || c)) (not (eqb u v && c)) (A.reached u w q)) (is_v w) ∙ reaches u w q (cases_eq u w));
    messages = held_like A.live V.held _ _ _ _ f.messages (λ u m. same_waiting u) (λ u w j a b. refl);
    journals = record { fit = f.journals.fit; written = λ u m. f.journals.written u m ∙ same_journal u; jointly = f.journals.jointly };
    same_executions = f.same_executions;
    few_puts = f.few_puts;
  }

  -- its own, where no other has it
  own : crowded V.cell V.live (only v) place v ≡ false → Spare M.places A.live V.cell (has (only v)) place (V.cell v place)
  own y = record { inside = f.cells.inside v place l inside; apart = λ u q m k e. let z = f.cells.one_place u v q place m l k inside e in (z, true_from_ne_false _ (λ g. other u q m e z g)) }
    where
      other : (u q : ℕ) → A.live u ≡ true → V.cell u q ≡ V.cell v place → q ≡ place → has (only v) u ≡ false → ⊥
      other u q m e z g = both_ways (crowded V.cell V.live (only v) place v) y
          (any_from _ 16 u (small M A s u m) (and_from (has V.live u) _ (f.same_live u ∙ m) (and_from (shares V.cell place u v) _ (eq-eqb _ _ (ap (V.cell u) (sym z) ∙ e)) (not_from_false _ g))))

  -- a free one, where another has it
  module _ (room : copies M (fed_decide A v place value) ≤ 128) (y : crowded V.cell V.live (only v) place v ≡ true) where
    w : (u : ℕ) × (u < 16) × ((has V.live u && (shares V.cell place u v && not (has (only v) u))) ≡ true)
    w = any_at (λ u. has V.live u && (shares V.cell place u v && not (has (only v) u))) 16 y

    b : (has V.live w.0 ≡ true) × ((shares V.cell place w.0 v && not (has (only v) w.0)) ≡ true)
    b = and_parts (has V.live w.0) _ w.2

    c : (shares V.cell place w.0 v ≡ true) × (not (has (only v) w.0) ≡ true)
    c = and_parts (shares V.cell place w.0 v) _ b.1

    lives : A.live w.0 ≡ true
    lives = sym (f.same_live w.0) ∙ b.0

    parted : A'.reached v w.0 place ≡ true
    parted = let d : eqb w.0 v ≡ false = sym (is_v w.0) ∙ not-true _ c.1 in grind (arith, nat_tests)

    finer : (p x y : ℕ) → A'.reached x y p ≡ false → A.reached x y p ≡ false
    finer p x y e = (or_parts (A.reached x y p) _ e).0

    pub decide_found : is_some (free M.places V.cell V.live) ≡ true
    decide_found = free_found M (fed_decide A v place value) (decide_sound M A v place value s) V.live f.same_live V.cell V.content _ _ f.cells finer place v w.0 inside l lives (sym (eqb-true _ _ c.0)) parted room

    away : Spare M.places A.live V.cell (has (only v)) place (unwrap_or (free M.places V.cell V.live) (V.cell v place))
    away = free_spare M (fed_decide A v place value) (decide_sound M A v place value s) V.live f.same_live V.cell V.content _ _ f.cells finer place v w.0 inside l lives (sym (eqb-true _ _ c.0)) parted room (has (only v)) (V.cell v place)

  pub decide_follows : copies M (fed_decide A v place value) ≤ 128 → Follows M (decided M.places V v place value) (fed_decide A v place value)
  decide_follows room =
      cond_both (crowded V.cell V.live (only v) place v) (unwrap_or (free M.places V.cell V.live) (V.cell v place)) (V.cell v place)
      (λ t. Follows M (decided_on V v place value t) (fed_decide A v place value)) (λ y. decide_on _ (away room y)) (λ y. decide_on _ (own y))
