-- A study that follows the account of some calls keeps the whole promise.
use Rattle.std.proofs.Common.{◌≡◌, ℕ, ◌<◌, ◌≤◌, true, false, not, ◌⊎◌, List, length, sym, ap, ◌∙◌, subst, inl, inr}
use Rattle.std.proofs.lemmas.Bool.{cases_Bool, both_ways, eq-eqb, eqb-true, not-true}
use Rattle.event.specs.declared.Message.{Message}
use Rattle.model.specs.Meaning.{Meaning, Law}
use Rattle.day.specs.Day.{Day}
use Rattle.account.specs.Account.{Account, Call, sum_below}
use Rattle.account.specs.Answers.{history}
use Rattle.account.specs.Chain.{Moment, Touched, ChainReaches, sides}
use Rattle.account.specs.Orders.{alone_under}
use Rattle.account.proofs.After.{sound_after, alone_stands, bounded_stands}
use Rattle.account.proofs.ChainAfter.{chain_stands}
use Rattle.follows.specs.Accounted.{Accounted}
use Rattle.follows.specs.Claims.{Counted}
use Rattle.follows.specs.View.{View}
use Rattle.follows.proofs.Stands.{counts_agree}
use Rattle.history.specs.Promise.{HasDay, DaysAlone, CopiesShared, TotalsTold, Worked, Promised}
use Rattle.history.proofs.Worked.{all_worked}

module _ (M : Meaning) (capacity : ℕ) (law : Law M) (V : View) (A : Account) (a : Accounted M capacity V A) where
  -- what a live variant has is its day of the account
  has_day : (v : ℕ) → A.live v ≡ true → HasDay M V v (A.day v)
  has_day v l = record {
    journal = a.follows.journals.written v l;
    waiting = a.follows.messages.own v l;
    places = λ p h. a.follows.cells.holds v p l h;
  }

  days_alone : DaysAlone M V A
  days_alone = record {
    live = a.follows.same_live;
    account = has_day;
    alone = λ v l. subst (λ (d : Day). HasDay M V v d) ((alone_stands M A law a.after v l).day ∙ ap (λ (ms : List Message). alone_under M A.end A.load (A.orders v) (length ms)) (sym (a.follows.journals.written v l))) (has_day v l);
  }

  chain : ChainReaches M A
  chain = chain_stands M A law a.after

  copies_shared : CopiesShared M V A
  copies_shared = record {
    untouched = λ v w p l m h same t touched. absurd (both_ways (A.reached v w p) (not-true _ (sym (a.follows.cells.shared v w p l m h) ∙ eq-eqb _ _ same)) (chain.back v w p t l m touched));
    one_copy = λ v w p l m h none. one v w p l m h none (cases_Bool (A.reached v w p));
  }
    where
      one : (v w p : ℕ) → A.live v ≡ true → A.live w ≡ true → p < M.places → ((t : Moment) → Touched M A.end A.load (sides A v w) t p → ⊥) → (A.reached v w p ≡ true) ⊎ (A.reached v w p ≡ false) → V.cell v p ≡ V.cell w p
      one v w p l m h none (inl r) = let t = chain.to v w p l m r in absurd (none t.0 t.1)
      one v w p l m h none (inr r) = eqb-true _ _ (a.follows.cells.shared v w p l m h ∙ ap not r)

  totals_told : TotalsTold M V A
  totals_told = record {
    executions = a.follows.same_executions;
    copies = c.copies_same;
    entries = c.entries_same;
    bounded = subst (λ n. n ≤ sum_below A.since A.made) (sym a.follows.same_executions) (bounded_stands M A law a.after);
  }
    where
      c : Counted M V A
      c = counts_agree M law V A (sound_after law a.after) a.follows

pub promised : (M : Meaning) (capacity : ℕ) → Law M → (calls : List Call) (V : View) → Accounted M capacity V (history M capacity calls) → Promised M capacity calls V
promised M capacity law calls V a = record {
  days = days_alone M capacity law V _ a;
  sharing = copies_shared M capacity law V _ a;
  totals = totals_told M capacity law V _ a;
  worked = subst (λ n. Worked M capacity calls n) (sym a.follows.same_executions) (all_worked M capacity law calls);
}
