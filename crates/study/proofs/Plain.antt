-- A load begins the day run alone, and a step goes on with it.
use Rattle.std.proofs.Common.{◌≡◌, ℕ, Bool, true, false, List, [], map, length, Some, None, Option, sym, refl, ap, ◌∙◌, subst}
use Rattle.std.proofs.lemmas.Option.{none-some}
use Rattle.std.specs.Prelude.{if◌then◌else◌, is_some}
use Rattle.event.specs.declared.Key.{Key}
use Rattle.event.specs.declared.Start.{Start}
use Rattle.calendar.specs.Contents.{Contents}
use Rattle.calendar.specs.Laws.{messages_of}
use Rattle.refusal.specs.declared.Refusal.{Refusal}
use Rattle.model.specs.Meaning.{Meaning, Law}
use Rattle.day.specs.Alone.{alone}
use Rattle.account.specs.Account.{Account, load, step, empty, least, fed_load, fed_step_at, told}
use Rattle.account.specs.Answers.{after}
use Rattle.account.specs.Orders.{plain}
use Rattle.account.specs.Refusals.{refusal}
use Rattle.account.proofs.After.{alone_stands}
use Rattle.follows.specs.View.{View, blank_view, loaded_view}
use Rattle.follows.specs.Follows.{Alike}
use Rattle.follows.specs.Accounted.{Accounted}
use Rattle.follows.specs.Refusing as view
use Rattle.follows.proofs.Answering.{accounted_after, accounted_alike, accounted_begun}
use Rattle.study.specs.declared.Study.{Study}
use Rattle.study.specs.declared.fault.StudyFault.TheVariants.{Loaded}
use Rattle.study.specs.Loads.{load_fault, list_fault}
use Rattle.study.specs.Promises.{view_of, Serves, Keeps, SameParts}
use Rattle.study.specs.Plain.{RunsAlone, NeverBranched}
use Rattle.study.proofs.Promises.{told_by}
use Rattle.study.proofs.Loads.{load_same}

-- a variant without orders
runs_alone : (M : Meaning) → Law M → (capacity : ℕ) (V : View) (A : Account) → Accounted M capacity V A → A.live 0 ≡ true → A.orders 0 ≡ [] → RunsAlone M A.load A.end V
runs_alone M law capacity V A a l o = record {
  journal = written ∙ ap (λ d. d.journal) day;
  waiting = a.follows.messages.own 0 l ∙ ap (λ d. d.waiting) day;
  places = λ p w. a.follows.cells.holds 0 p l w ∙ ap (λ d. d.place p) day;
}
  where
    written : messages_of 0 V.entries ≡ (A.day 0).journal
    written = a.follows.journals.written 0 l

    day : A.day 0 ≡ alone M A.end A.load [] (length (messages_of 0 V.entries))
    day = (alone_stands M A law a.after 0 l).day ∙ (λ i. alone M A.end A.load (map plain (o i)) (length (sym written i)))

module _ {C M : Type 0} (contents : C → Contents) (meaning : M → Meaning) (law : (m : M) → Law (meaning m)) where
  never : (starts : List Start) (end : ℕ) (s : Study C M) (A : Account) → Serves contents meaning s A → A.load ≡ starts → A.end ≡ end → A.live 0 ≡ true → A.orders 0 ≡ [] → NeverBranched contents meaning starts end s
  never starts end s A a b e l o = record {
    account = A;
    served = a;
    load = b;
    ended = e;
    live = l;
    orders = o;
    alone = subst (λ (x : List Start × ℕ). RunsAlone (meaning s.model) x.0 x.1 (view_of contents s)) (λ i. (b i, e i)) (runs_alone (meaning s.model) (law s.model) _ (view_of contents s) A a l o);
  }

  pub load_alone : (s t : Study C M) (l : List Start) (end : ℕ) → load_fault s.register.loaded (meaning s.model).places (contents s.calendar).room end l ≡ None → SameParts contents s t
      → Alike (meaning s.model).places (loaded_view (meaning s.model) l end) (view_of contents t) → NeverBranched contents meaning l end t
  load_alone s t l end e parts alike = never l end t (after M' room (empty M') (load l end)) served (ap (λ A. A.load) begins) (ap (λ A. A.end) begins) (ap (λ A. A.live 0) begins) (ap (λ A. A.orders 0) begins)
    where
      M' : Meaning
      M' = meaning s.model

      room : ℕ
      room = (contents s.calendar).room

      blank : View
      blank = blank_view (λ v p. 0) (λ c. record { words = []; order = 0; sent = 0 })

      fits : list_fault M'.places room end l ≡ None
      fits = go s.register.loaded e
        where
          go : (b : Bool) → load_fault b M'.places room end l ≡ None → list_fault M'.places room end l ≡ None
          go true h = absurd (none-some Loaded (sym h))
          go false h = h

      allowed : view.refusal_of M' room blank (load l end) ≡ None
      allowed = load_same M' room end blank l ∙ ap told_by fits

      begins : after M' room (empty M') (load l end) ≡ fed_load M' (empty M') l end
      begins = ap (λ o. told M' (empty M') (load l end) (is_some o)) allowed

      loaded : Accounted M' room (view_of contents t) (after M' room (empty M') (load l end))
      loaded = accounted_alike M' room (loaded_view M' l end) (view_of contents t) _ alike
          (subst (λ (o : Option Refusal). Accounted M' room (if is_some o then blank else loaded_view M' l end) (after M' room (empty M') (load l end))) allowed
          (accounted_after M' room (law s.model) blank (empty M') (accounted_begun M' room (law s.model) _ _) (load l end)))

      served : Serves contents meaning t (after M' room (empty M') (load l end))
      served = subst (λ (x : M × ℕ). Accounted (meaning x.0) x.1 (view_of contents t) (after M' room (empty M') (load l end))) (λ i. (sym parts.model i, sym parts.room i)) loaded

  pub step_alone : (s t : Study C M) → Keeps contents meaning s step t → (starts : List Start) (end : ℕ) → NeverBranched contents meaning starts end s → NeverBranched contents meaning starts end t
  step_alone s t keeps starts end n =
      never starts end t (after (meaning s.model) (contents s.calendar).room n.account step) (keeps n.account n.served) (stays (λ A. A.load) (λ k. refl) ∙ n.load) (stays (λ A. A.end) (λ k. refl) ∙ n.ended)
      (stays (λ A. A.live 0) (λ k. refl) ∙ n.live) (stays (λ A. A.orders 0) (λ k. refl) ∙ n.orders)
    where
      stays : {X : Type 0} (f : Account → X) → ((k : Key) → f (fed_step_at (meaning s.model) n.account (Some k)) ≡ f n.account) → f (after (meaning s.model) (contents s.calendar).room n.account step) ≡ f n.account
      stays f h = go (is_some (refusal (meaning s.model) (contents s.calendar).room n.account step)) (least n.account 16)
        where
          go : (b : Bool) (o : Option Key) → f (if b then n.account else fed_step_at (meaning s.model) n.account o) ≡ f n.account
          go true o = refl
          go false None = refl
          go false (Some k) = h k
