-- A new study and a load: the study follows.
use Rattle.std.proofs.Common.{◌≡◌, ℕ, Bool, true, false, cond, ◌&&◌, eqb, List, [], None, sym, refl, ◌∙◌, arith}
use Rattle.std.specs.List.{AllByRecursion}
use Rattle.std.proofs.lemmas.Bool.{both_ways, cond-true, eq-eqb}
use Rattle.std.proofs.lemmas.Option.{none-some}
use Rattle.event.specs.declared.Message.{Message}
use Rattle.event.specs.declared.Start.{Start}
use Rattle.event.specs.Keys.{key_of, blank}
use Rattle.event.specs.Starts.{numbered}
use Rattle.group.specs.Groups.{has, only}
use Rattle.group.proofs.Members.{has_none}
use Rattle.model.specs.Meaning.{Meaning, Law}
use Rattle.day.specs.declared.place.Place.{Place}
use Rattle.day.proofs.Numbers.{sequence_distinct, starts_sequence}
use Rattle.day.proofs.Places.{all_by_places}
use Rattle.account.specs.Account.{Account, empty, fed_load}
use Rattle.account.specs.Finds.{find, some}
use Rattle.follows.specs.View.{blank_view, loaded_view}
use Rattle.follows.specs.Follows.{Follows, HeldFollow, EntriesFollow}
use Rattle.follows.proofs.Held.{held_like, held_put_all}
use Rattle.follows.proofs.Registers.{has_only}

no_entries : (live : ℕ → Bool) (joint : ℕ → ℕ → ℕ → Bool) → EntriesFollow live [] (λ v. []) joint
no_entries live joint = record { fit = tt; written = λ v l. refl; jointly = λ v w i e l m h. absurd (none-some e h) }

pub begin_follows : (M : Meaning) (cell : ℕ → ℕ → ℕ) (content : ℕ → Place) → Follows M (blank_view cell content) (empty M)
begin_follows M cell content = record {
  same_loaded = refl;
  same_end = refl;
  same_live = has_none;
  same_undecided = has_none;
  same_made = refl;
  cells = record {
    holds = λ v p l h. absurd (both_ways false refl l);
    inside = λ v p l h. absurd (both_ways false refl l);
    one_place = λ v w p q l m h k e. absurd (both_ways false refl l);
    shared = λ v w p l m h. absurd (both_ways false refl l);
  };
  messages = record { sorted = tt; fit = tt; own = λ v l. absurd (both_ways false refl l); grouped = tt };
  journals = no_entries (λ v. false) (λ v w i. true);
  same_executions = refl;
  few_puts = omega arith;
}

module _ (M : Meaning) (law : Law M) (A : Account) (load : List Start) (end : ℕ) where
  loaded_messages : HeldFollow (fed_load M A load end).live (loaded_view M load end).held (λ v. ((fed_load M A load end).day v).waiting) (λ v w k. false)
  loaded_messages =
      held_like _ _ _ _ _ _
      (held_put_all (λ u. eqb u 0) (only 0) (0, has_only 0 0 (omega arith)) (λ v g. sym (has_only 0 v (omega arith)) ∙ g) (numbered 0 load) [] (λ v. []) (λ v w k. false) (record { sorted = tt; fit = tt; own = λ v l. refl; grouped = tt })
      (sequence_distinct 255 0 (numbered 0 load) (starts_sequence 0 load)) (all_none (numbered 0 load)))
      (λ v l. cond-true (has (only 0) v) _ _ (has_only 0 v (omega arith) ∙ l))
      (λ v w j l m. let a = has_only 0 v (omega arith) ∙ l in let b = has_only 0 w (omega arith) ∙ m in simp (a, b) (last (some (find j (numbered 0 load)) && true)))
    where
      all_none : (ms : List Message) → AllByRecursion (λ m. (u : ℕ) → has (only 0) u ≡ true → find (key_of m) [] ≡ None) ms
      all_none ms = all_by_places _ blank ms (λ i u g. refl)

      last : (b : Bool) → cond b false false ≡ false
      last true = refl
      last false = refl

  pub load_follows : Follows M (loaded_view M load end) (fed_load M A load end)
  load_follows = record {
    same_loaded = refl;
    same_end = refl;
    same_live = λ v. has_only 0 v (omega arith);
    same_undecided = has_none;
    same_made = refl;
    cells = record { holds = λ v p l h. refl; inside = λ v p l h. let a = law.most in omega arith; one_place = λ v w p q l m h k e. e; shared = λ v w p l m h. eq-eqb p p refl };
    messages = loaded_messages;
    journals = no_entries (λ u. eqb u 0) (λ v w i. true);
    same_executions = refl;
    few_puts = omega arith;
  }
