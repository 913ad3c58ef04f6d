-- Events are few, so puts are far below their limit.
use Rattle.std.proofs.Common.{◌≡◌, ℕ, zero, suc, ◌+◌, ◌*◌, ◌≤◌, true, false, eqb, ◌⊎◌, List, [], ◌∷◌, not, length, Some, sym, refl, ap, ◌∙◌, subst, inl, inr, arith}
use Rattle.std.proofs.lemmas.Bool.{cases_Bool, cond_both, cond-false, and_parts, eqb-true}
use Rattle.std.proofs.Math.Nat.{suc-mul}
use Rattle.std.proofs.lemmas.List.{length-append}
use Rattle.std.proofs.lemmas.List.Filters.{length-filter_both}
use Rattle.event.specs.declared.Key.{Key}
use Rattle.event.specs.declared.Start.{Start}
use Rattle.group.specs.Groups.{has}
use Rattle.calendar.specs.declared.Held.{Held}
use Rattle.model.specs.Meaning.{Meaning, Law}
use Rattle.day.specs.Day.{ordered}
use Rattle.account.specs.Account.{Account, empty, ind, sum_below, least, runs, fed_load, fed_branch, fed_decide, fed_retire, fed_step_at}
use Rattle.account.specs.Groups.{entries}
use Rattle.account.specs.Sound.{Sound, Bounded}
use Rattle.account.proofs.Calls.{live_origin}
use Rattle.account.proofs.Step.{ran_from, runs_live, day_ran, day_idle, step_sound_at}
use Rattle.follows.specs.View.{View}
use Rattle.follows.specs.Follows.{Follows}
use Rattle.follows.specs.Modest.{Modest}
use Rattle.follows.proofs.Counting.{entries_count}
use Rattle.follows.proofs.Start.{length_messages}

pub begin_modest : (M : Meaning) → Modest (empty M)
begin_modest M = record { aged = λ v l. omega arith; recent = λ v. omega arith }

pub load_modest : (M : Meaning) (A : Account) (load : List Start) (end : ℕ) → Modest (fed_load M A load end)
load_modest M A load end = record { aged = λ v l. omega arith; recent = λ v. omega arith }

pub branch_modest : (A : Account) (v : ℕ) → A.live v ≡ true → Modest A → Modest (fed_branch A v)
branch_modest A v l b = record {
  aged = λ u m. cond_both (eqb u A.made) 0 (A.since u) (λ n. n ≤ length ((fed_branch A v).day u).journal) (λ _. omega arith)
      (λ e. subst (λ (w : ℕ). A.since u ≤ length (A.day w).journal) (sym (cond-false (eqb u A.made) v u e)) (b.aged u (subst (λ (w : ℕ). A.live w ≡ true) (cond-false (eqb u A.made) v u e) (live_origin A v l u m))));
  recent = λ u. cond_both (eqb u A.made) 0 (A.since u) (λ n. n ≤ 2048) (λ _. omega arith) (λ _. b.recent u);
}

pub decide_modest : (A : Account) (v place value : ℕ) → Modest A → Modest (fed_decide A v place value)
decide_modest A v place value b = record {
  aged = λ u m. cond_both (eqb u v) (ordered (A.day v) place value) (A.day u) (λ d. A.since u ≤ length d.journal) (λ e. subst (λ (w : ℕ). A.since u ≤ length (A.day w).journal) (eqb-true u v e) (b.aged u m)) (λ _. b.aged u m);
  recent = b.recent;
}

pub retire_modest : (A : Account) (v : ℕ) → Modest A → Modest (fed_retire A v)
retire_modest A v b = record { aged = λ u m. b.aged u (and_parts (A.live u) _ m).0; recent = b.recent }

-- a journal is no longer than all entries
pub journal_few : (M : Meaning) (A : Account) → Sound M A → (V : View) → Follows M V A → (v : ℕ) → A.live v ≡ true → length (A.day v).journal ≤ entries A
journal_few M A s V f v l =
    let a = length-filter_both (λ (h : Held). has h.group v) (λ (h : Held). not (has h.group v)) (λ h. refl) V.entries in
    let b = entries_count M A s V.entries f.journals in
    let c = sym (length_messages v V.entries) ∙ ap length (f.journals.written v l) in
    omega (arith, a, b, c)

-- W, what the study holds after the step
pub step_modest : (M : Meaning) (law : Law M) (A : Account) (s : Sound M A) (k : Key) (e : least A 16 ≡ Some k) → Modest A
    → (W : View) → Follows M W (fed_step_at M A (Some k)) → entries (fed_step_at M A (Some k)) ≤ 2048 → Modest (fed_step_at M A (Some k))
step_modest M law A s k e b W f room = record { aged = λ u l. older u l (cases_Bool (runs A k u)); recent = λ u. soon u (cases_Bool (runs A k u)) }
  where
    older : (u : ℕ) → A.live u ≡ true → (runs A k u ≡ true) ⊎ (runs A k u ≡ false) → A.since u + ind (runs A k u) ≤ length ((fed_step_at M A (Some k)).day u).journal
    older u l (inl r) =
        let m = ran_from A k u r in
        let a = ap (λ d. length d.journal) (day_ran M law A s k e u m.0 m.1) in
        let c = length-append (A.day u).journal (m.0 ∷ []) in let d = b.aged u l in let i = ap ind r in
        omega (arith, a, c, d, i)
    older u l (inr r) = let a = ap (λ d. length d.journal) (day_idle M law A s k e u r) in let d = b.aged u l in let i = ap ind r in omega (arith, a, d, i)

    soon : (u : ℕ) → (runs A k u ≡ true) ⊎ (runs A k u ≡ false) → A.since u + ind (runs A k u) ≤ 2048
    soon u (inl r) = let a = older u (runs_live A k u r) (inl r) in let c = journal_few M (fed_step_at M A (Some k)) (step_sound_at M law A s k e) W f u (runs_live A k u r) in omega (arith, a, c, room)
    soon u (inr r) = let a = b.recent u in let i = ap ind r in omega (arith, a, i)

pub sum_most : (f : ℕ → ℕ) (c n : ℕ) → ((v : ℕ) → f v ≤ c) → sum_below f n ≤ n * c
unfolding sum_below
sum_most f c zero h = omega arith
sum_most f c (suc n) h = let a = sum_most f c n h in let b = h n in let d : suc n * c ≡ n * c + c = suc-mul n c in omega (arith, a, b, d)

-- executions are no more than the events of sixteen variants
pub executions_few : (M : Meaning) (A : Account) → Sound M A → Bounded A → Modest A → A.executions ≤ 32768
executions_few M A s bounded b = let a = sum_most A.since 2048 A.made b.recent in let c = s.few in omega (arith, a, bounded, c)
