-- A study that follows an account answers as it does, and goes on doing so.
use Rattle.std.proofs.Common.{◌≡◌, ℕ, ◌<◌, ◌≤◌, true, false, not, ◌&&◌, ltb, ◌⊎◌, [], ◌∷◌, slice_index_or, Some, None, Option, sym, refl, ap, ◌∙◌, subst, inl, inr, arith}
use Rattle.std.specs.Prelude.{if◌then◌else◌, is_some}
use Rattle.std.proofs.lemmas.Bool.{cases_Bool, leb-false, ltb-false, lt-ltb, not-false, and_right, or_parts}
use Rattle.event.specs.declared.Key.{Key}
use Rattle.event.specs.Keys.{blank}
use Rattle.event.specs.Lists.{first}
use Rattle.refusal.specs.declared.Refusal.{Refusal}
use Rattle.group.specs.Groups.{has}
use Rattle.group.proofs.Members.{has_gathered}
use Rattle.model.specs.Meaning.{Meaning, Law}
use Rattle.account.specs.Account.{Account, Call, load, branch, decide, waive, step, retire, reading, Reading, events_of, entry_of, place_of, next_of, sharing, group_of, totals, begun, one_more, least, fed, fed_step_at, told}
use Rattle.account.specs.Answers.{variant, ran, number, message, waits, stands, shared, counted, worked_at, reads, tells, answer, after, unless_refused, history}
use Rattle.account.specs.Groups.{entries}
use Rattle.account.specs.Refusals.{NoneMet, cases, refusal}
use Rattle.account.specs.Sound.{Sound}
use Rattle.account.proofs.After.{sound_after}
use Rattle.account.proofs.Histories.{accepted}
use Rattle.account.proofs.Refusing.{none_met}
use Rattle.copies.specs.Sharing.{shares, sharers}
use Rattle.follows.specs.View.{View}
use Rattle.follows.specs.Follows.{Follows}
use Rattle.follows.specs.Steps.{leaders_at, stepped}
use Rattle.follows.specs.Answering.{reads_of, tells_of, answer_of, fed_view, views}
use Rattle.follows.specs.Accounted.{Accounted, AccountedAfter, AccountedAlike, AccountedAlways, AccountedBegun, AnswersAlike}
use Rattle.follows.specs.Claims.{Counted}
use Rattle.follows.specs.Modest.{Few}
use Rattle.follows.proofs.Alike.{alike_follows}
use Rattle.follows.proofs.Modest.{begin_modest, load_modest, branch_modest, decide_modest, retire_modest, step_modest}
use Rattle.follows.proofs.Refusing.{count_sum, events_same, refusal_same, starts_few, sum_of}
use Rattle.follows.proofs.Stands.{counts_agree, follows_kept}
use Rattle.follows.proofs.Taking.{least_head, small}

module _ (M : Meaning) (capacity : ℕ) (law : Law M) (V : View) (A : Account) (s : Sound M A) (f : Follows M V A) where
  c : Counted M V A
  c = counts_agree M law V A s f

  -- who shares with a live v
  sharers_same : (v p w : ℕ) → A.live v ≡ true → p < M.places → has (sharers V.cell V.live p v) w ≡ (A.live w && not (A.reached v w p))
  sharers_same v p w l h = has_gathered _ 16 w ∙ go (cases_Bool (A.live w))
    where
      go : (A.live w ≡ true) ⊎ (A.live w ≡ false) → (ltb w 16 && (ltb w 16 && (has V.live w && shares V.cell p w v))) ≡ (A.live w && not (A.reached v w p))
      go (inl m) = let a = lt-ltb w 16 (small M A s w m) in let b = f.same_live w ∙ m in simp (a, b, m) (f.cells.shared w v p m l h ∙ ap not (s.reached_sym w v p))
      go (inr m) = let b = f.same_live w ∙ m in simp (b, m) (and_right (ltb w 16) _ (and_right (ltb w 16) false refl))

  executions_same : (o : Option Key) → least A 16 ≡ o → leaders_at V o ≡ worked_at A o
  executions_same None e = refl
  executions_same (Some k) e = c.worked_ahead k e

  reads_same : (r : Reading) → NoneMet (cases M capacity A (reading r)) → reads_of M V r ≡ reads M A r
  reads_same (events_of v) n = ap number (events_same M capacity law V A s f v (not-false _ n.1.0))
  reads_same (entry_of v i) n = ap (λ l. message (slice_index_or l i blank)) (f.journals.written v (not-false _ n.1.0))
  reads_same (place_of v p) n = ap stands (f.cells.holds v p (not-false _ n.1.0) (leb-false M.places p n.1.1.0))
  reads_same (next_of v) n = ap (λ l. waits (first l)) (f.messages.own v (not-false _ n.1.0))
  reads_same (sharing v w p) n =
      let e = or_parts (not (A.live v)) (not (A.live w)) n.1.0 in
      ap shared (f.cells.shared v w p (not-false _ e.0) (not-false _ e.1) (leb-false M.places p n.1.1.0))
  reads_same (group_of v p) n =
      ap number (count_sum (has (sharers V.cell V.live p v)) 16 ∙ sum_of (has (sharers V.cell V.live p v)) (λ w. A.live w && not (A.reached v w p)) 16 (λ w. sharers_same v p w (not-false _ n.1.0) (leb-false M.places p n.1.1.0)))
  reads_same totals n = λ i. counted (f.same_executions i) (c.copies_same i) (c.entries_same i)

  tells_same : (call : Call) → NoneMet (cases M capacity A call) → tells_of M V call ≡ tells M A call
  tells_same (load l end) n = refl
  tells_same (branch v) n = ap variant f.same_made
  tells_same (decide v place value) n = refl
  tells_same (waive v) n = refl
  tells_same step n = ap (λ o. ran (leaders_at V o)) (sym (least_head M A s V.held f.messages)) ∙ ap ran (executions_same (least A 16) refl)
  tells_same (retire v) n = refl
  tells_same (reading r) n = reads_same r n

  answer_same : (call : Call) → answer_of M capacity V call ≡ answer M capacity A call
  answer_same call = ap (λ o. unless_refused o (tells_of M V call)) (refusal_same M capacity law V A s f call) ∙ go (refusal M capacity A call) refl
    where
      go : (o : Option Refusal) → refusal M capacity A call ≡ o → unless_refused o (tells_of M V call) ≡ unless_refused o (tells M A call)
      go (Some r) e = refl
      go None e = tells_same call (none_met (cases M capacity A call) e)

  -- an accepted call
  fed_follows : (call : Call) → NoneMet (cases M capacity A call) → Follows M (fed_view M V call) (fed M A call)
  fed_follows (load l end) n = (follows_kept M law).load A l end
  fed_follows (branch v) n = (follows_kept M law).branch V A v s f (not-false _ n.1.0) (leb-false 16 A.made n.1.1.1.0)
  fed_follows (decide v place value) n = (follows_kept M law).decide V A v place value s f (s.permitted v (not-false _ n.1.0)) (leb-false M.places place n.1.1.0) (ltb-false 128 _ n.1.1.1.0)
  fed_follows (waive v) n = (follows_kept M law).waive V A v s f
  fed_follows step n = (follows_kept M law).step V A s f (ltb-false 128 _ n.1.1.1.0)
  fed_follows (retire v) n = (follows_kept M law).retire V A v s f (not-false _ n.1.0)
  fed_follows (reading r) n = f

  fed_few : (call : Call) → NoneMet (cases M capacity A call) → Few capacity A → Few capacity (fed M A call)
  fed_few (load l end) n few = record { modest = load_modest M A l end; starts = let a = starts_few M capacity end 0 l (omega arith) n.1.1 in omega (arith, a) }
  fed_few (branch v) n few = record { modest = branch_modest A v (not-false _ n.1.0) few.modest; starts = few.starts }
  fed_few (decide v place value) n few = record { modest = decide_modest A v place value few.modest; starts = few.starts }
  fed_few (waive v) n few = record { modest = record { aged = few.modest.aged; recent = few.modest.recent }; starts = few.starts }
  fed_few step n few = go (least A 16) refl (fed_follows step n) (ltb-false 2048 _ n.1.1.0)
    where
      go : (o : Option Key) → least A 16 ≡ o → Follows M (stepped M V) (fed_step_at M A o) → entries (fed_step_at M A o) ≤ 2048 → Few capacity (fed_step_at M A o)
      go None e g room = few
      go (Some k) e g room = record { modest = step_modest M law A s k e few.modest (stepped M V) g room; starts = few.starts }
  fed_few (retire v) n few = record { modest = retire_modest A v few.modest; starts = few.starts }
  fed_few (reading r) n few = few

pub answers_alike : AnswersAlike
answers_alike M capacity law V A a call = answer_same M capacity law V A (sound_after law a.after) a.follows call

pub accounted_after : AccountedAfter
accounted_after M capacity law V A a call =
    subst (λ (o : Option Refusal). Accounted M capacity (if is_some o then V else fed_view M V call) (after M capacity A call)) (sym (refusal_same M capacity law V A s a.follows call)) (go (refusal M capacity A call) refl)
  where
    s : Sound M A
    s = sound_after law a.after

    go : (o : Option Refusal) → refusal M capacity A call ≡ o → Accounted M capacity (if is_some o then V else fed_view M V call) (told M A call (is_some o))
    go (Some r) e = a
    go None e =
        let n = none_met (cases M capacity A call) e in
        record { after = one_more call a.after (accepted M capacity A s call n); follows = fed_follows M capacity law V A s a.follows call n; few = fed_few M capacity law V A s a.follows call n a.few }

pub accounted_begun : AccountedBegun
accounted_begun M capacity law cell content = record { after = begun; follows = (follows_kept M law).begun cell content; few = record { modest = begin_modest M; starts = omega arith } }

pub accounted_alike : AccountedAlike
accounted_alike M capacity V W A same a = record { after = a.after; follows = alike_follows M V W A same a.follows; few = a.few }

pub accounted_always : AccountedAlways
unfolding views history
accounted_always M capacity law cell content [] = accounted_begun M capacity law cell content
accounted_always M capacity law cell content (call ∷ calls) = accounted_after M capacity law _ _ (accounted_always M capacity law cell content calls) call
