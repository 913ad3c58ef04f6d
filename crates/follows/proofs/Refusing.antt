-- A study that follows an account is denied what the account is, and with the same.
use Rattle.std.proofs.Common.{◌≡◌, ℕ, zero, suc, ◌+◌, ◌*◌, ◌≤◌, Bool, true, false, cond, not, ◌||◌, ltb, leb, List, [], ◌∷◌, length, Some, None, Option, sym, refl, ap, ◌∙◌, subst, arith}
use Rattle.std.proofs.lemmas.Bool.{cond_both, cond-true, cond-false, not-false, leb-false}
use Rattle.event.specs.declared.Key.{Key}
use Rattle.event.specs.declared.Start.{Start}
use Rattle.group.specs.Groups.{has, count}
use Rattle.calendar.specs.Calls.{waiting}
use Rattle.model.specs.Meaning.{Meaning, Law}
use Rattle.account.specs.Account.{Account, Call, load, branch, decide, waive, step, retire, reading, Reading, events_of, entry_of, place_of, next_of, sharing, group_of, totals, ind, sum_below, least, fed_step, fed_step_at}
use Rattle.account.specs.Groups.{copies, held, taken, entries}
use Rattle.account.specs.Refusals.{Case, by_study, many_entries, many_groups, cases, reading_cases, crowded, first_met, refusal, NoneMet, start_cases}
use Rattle.account.specs.Sound.{Sound}
use Rattle.account.proofs.Leaders.{sum_same}
use Rattle.follows.specs.View.{View}
use Rattle.follows.specs.Follows.{Follows}
use Rattle.follows.specs.Steps.{leaders}
use Rattle.follows.specs.Refusing.{step_cases, reading_cases_of, cases_of, refusal_of}
use Rattle.follows.specs.Claims.{Counted}
use Rattle.follows.proofs.Stands.{counts_agree}
use Rattle.follows.proofs.Start.{length_messages}
use Rattle.follows.proofs.Taking.{least_head}

-- the same of these cases is met first
record FirstSame (cs ds : List Case) : Type 0 where
  first : first_met cs ≡ first_met ds

none : FirstSame [] []
none = record { first = refl }

-- one case more, which is the same of both
both : {c d : Case} {cs ds : List Case} → c ≡ d → FirstSame cs ds → FirstSame (c ∷ cs) (d ∷ ds)
both {c} {d} {cs} {ds} e h = record { first = ap (λ (x : Case). first_met (x ∷ cs)) e ∙ ap (λ o. cond d.met (Some d.refusal) o) h.first }

-- and the rest counts only where that one is not met
past : {c d : Case} {cs ds : List Case} → c ≡ d → (d.met ≡ false → FirstSame cs ds) → FirstSame (c ∷ cs) (d ∷ ds)
past {c} {d} {cs} {ds} e h = record {
  first = ap (λ (x : Case). first_met (x ∷ cs)) e
      ∙ cond_both d.met (Some d.refusal) (first_met ds) (λ o. cond d.met (Some d.refusal) (first_met cs) ≡ o) (λ t. cond-true _ _ _ t) (λ t. cond-false _ _ _ t ∙ (h t).first);
}

alike : (cs : List Case) → FirstSame cs cs
alike cs = record { first = refl }

pub count_sum : (f : ℕ → Bool) (n : ℕ) → count f n ≡ sum_below (λ v. ind (f v)) n
unfolding count sum_below
count_sum f zero = refl
count_sum f (suc n) = ap (λ c. c + ind (f n)) (count_sum f n)

-- sums of what is the same of all
pub sum_of : (f g : ℕ → Bool) (n : ℕ) → ((v : ℕ) → f v ≡ g v) → sum_below (λ v. ind (f v)) n ≡ sum_below (λ v. ind (g v)) n
sum_of f g n h = sum_same _ _ n (λ v. ap ind (h v))

-- a load that is not refused has no more messages than the calendar holds
pub starts_few : (M : Meaning) (capacity end i : ℕ) (l : List Start) → i ≤ capacity → NoneMet (start_cases M capacity end i l) → i + length l ≤ capacity
starts_few M capacity end i [] h n = omega arith
starts_few M capacity end i (x ∷ l) h n = let a = leb-false capacity i n.1.1.0 in let b = starts_few M capacity end (suc i) l (omega arith) n.1.1.1 in omega arith

module _ (M : Meaning) (capacity : ℕ) (law : Law M) (V : View) (A : Account) (s : Sound M A) (f : Follows M V A) where
  c : Counted M V A
  c = counts_agree M law V A s f

  loaded : by_study 2 (not V.loaded) ≡ by_study 2 (not A.loaded)
  loaded = ap (λ b. by_study 2 (not b)) f.same_loaded

  live : (v : ℕ) → by_study 8 (not (has V.live v)) ≡ by_study 8 (not (A.live v))
  live v = ap (λ b. by_study 8 (not b)) (f.same_live v)

  undecided : (v : ℕ) → by_study 9 (has V.undecided v) ≡ by_study 9 (A.undecided v)
  undecided v = ap (by_study 9) (f.same_undecided v)

  permitted : (v : ℕ) → by_study 10 (not (has V.undecided v)) ≡ by_study 10 (not (A.undecided v))
  permitted v = ap (λ b. by_study 10 (not b)) (f.same_undecided v)

  pub events_same : (v : ℕ) → A.live v ≡ true → length (waiting v V.entries) ≡ length (A.day v).journal
  events_same v l = sym (length_messages v V.entries) ∙ ap length (f.journals.written v l)

  step_same : (o : Option Key) → least A 16 ≡ o
      → FirstSame (step_cases M capacity V o) (by_study 7 (crowded capacity A o) ∷ many_entries (entries (fed_step_at M A o)) ∷ many_groups (copies M (fed_step_at M A o)) ∷ [])
  step_same None e = both refl (both (ap many_entries c.entries_same) (both (ap many_groups c.copies_same) none))
  step_same (Some k) e =
      both
      (ap (λ n. by_study 7 (ltb (capacity + n) (length V.held + 2 * leaders V k))) (c.taken_same k e) ∙ ap (λ n. by_study 7 (ltb (capacity + taken A k) (n + 2 * leaders V k))) c.held_same
      ∙ ap (λ n. by_study 7 (ltb (capacity + taken A k) (held A + 2 * n))) (c.worked_ahead k e))
      (both (ap many_entries (c.entries_after k e)) (both (ap many_groups (c.copies_ahead k e)) none))

  reading_same : (r : Reading) → FirstSame (reading_cases_of M V r) (reading_cases M A r)
  reading_same (events_of v) = both (live v) none
  reading_same (entry_of v i) = past (live v) (λ l. both (ap (λ n. by_study 16 (leb n i)) (events_same v (not-false _ l))) none)
  reading_same (place_of v p) = both (live v) (alike _)
  reading_same (next_of v) = both (live v) none
  reading_same (sharing v w p) = both (ap (λ b. by_study 8 (not b || not (has V.live w))) (f.same_live v) ∙ ap (λ b. by_study 8 (not (A.live v) || not b)) (f.same_live w)) (alike _)
  reading_same (group_of v p) = both (live v) (alike _)
  reading_same totals = none

  cases_same : (call : Call) → FirstSame (cases_of M capacity V call) (cases M capacity A call)
  cases_same (load l end) = both (ap (by_study 3) f.same_loaded) (alike _)
  cases_same (branch v) = both loaded (both (live v) (both (undecided v) (both (ap (λ n. by_study 12 (leb 16 n)) f.same_made) none)))
  cases_same (decide v place value) = both loaded (both (permitted v) (both refl (both (ap many_groups (c.copies_decided v place value)) none)))
  cases_same (waive v) = both loaded (both (permitted v) none)
  cases_same step = both loaded
      (subst (λ (o : Option Key). FirstSame (step_cases M capacity V o) (by_study 7 (crowded capacity A (least A 16)) ∷ many_entries (entries (fed_step M A)) ∷ many_groups (copies M (fed_step M A)) ∷ []))
      (least_head M A s V.held f.messages) (step_same (least A 16) refl))
  cases_same (retire v) =
      both loaded (both (live v) (both (undecided v)
      (both (ap (λ n. by_study 13 (leb n 1)) (count_sum (has V.live) 16 ∙ sum_of (has V.live) A.live 16 f.same_live)) none)))
  cases_same (reading r) = both loaded (reading_same r)

  pub refusal_same : (call : Call) → refusal_of M capacity V call ≡ refusal M capacity A call
  refusal_same call = (cases_same call).first
