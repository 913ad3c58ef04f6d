-- Branch, waive and retire: the study goes on following.
use Rattle.std.proofs.Common.{◌≡◌, ℕ, ◌<◌, true, false, sym, refl, subst, arith}
use Rattle.std.proofs.lemmas.Bool.{false_from_ne_true}
use Rattle.model.specs.Meaning.{Meaning}
use Rattle.account.specs.Account.{Account, origin, fed_branch, fed_waive, fed_retire}
use Rattle.account.specs.Sound.{Sound}
use Rattle.account.proofs.Calls.{live_origin}
use Rattle.follows.specs.View.{View, branched, waived, retired}
use Rattle.follows.specs.Follows.{Follows}
use Rattle.follows.proofs.Cells.{cells_pull}
use Rattle.follows.proofs.Erases.{held_erase, entries_erase, was}
use Rattle.follows.proofs.Spreads.{held_spread, entries_spread}
use Rattle.follows.proofs.Taking.{small}
use Rattle.follows.proofs.Registers.{has_too, has_but}

module _ (M : Meaning) (V : View) (A : Account) (v : ℕ) (s : Sound M A) (f : Follows M V A) where
  pub branch_follows : A.live v ≡ true → A.made < 16 → Follows M (branched V v) (fed_branch A v)
  branch_follows l few = subst (λ (n : ℕ). Follows M (branched (record V { made = n }) v) (fed_branch A v)) (sym f.same_made) (record {
    same_loaded = f.same_loaded;
    same_end = f.same_end;
    same_live = has_too V.live A.live A.made few f.same_live;
    same_undecided = has_too V.undecided A.undecided A.made few f.same_undecided;
    same_made = refl;
    cells = cells_pull M.places A.live V.cell V.content _ _ f.cells (fed_branch A v).live (origin v A.made) (live_origin A v l);
    messages = held_spread v A.made few A.live out (live_origin A v l) V.held _ _ f.messages;
    journals = entries_spread v A.made few A.live out (live_origin A v l) V.entries _ _ f.journals;
    same_executions = f.same_executions;
    few_puts = f.few_puts;
  })
    where
      out : A.live A.made ≡ false
      out = false_from_ne_true _ (λ t. let g = s.given A.made t in omega arith)

  pub waive_follows : Follows M (waived V v) (fed_waive A v)
  waive_follows = record {
    same_loaded = f.same_loaded;
    same_end = f.same_end;
    same_live = f.same_live;
    same_undecided = has_but V.undecided A.undecided v f.same_undecided;
    same_made = f.same_made;
    cells = f.cells;
    messages = f.messages;
    journals = f.journals;
    same_executions = f.same_executions;
    few_puts = f.few_puts;
  }

  pub retire_follows : A.live v ≡ true → Follows M (retired V v) (fed_retire A v)
  retire_follows l = record {
    same_loaded = f.same_loaded;
    same_end = f.same_end;
    same_live = has_but V.live A.live v f.same_live;
    same_undecided = f.same_undecided;
    same_made = f.same_made;
    cells = cells_pull M.places A.live V.cell V.content _ _ f.cells (fed_retire A v).live (λ u. u) (was v (small M A s v l) A.live);
    messages = held_erase v (small M A s v l) A.live V.held _ _ f.messages;
    journals = entries_erase v (small M A s v l) A.live V.entries _ _ f.journals;
    same_executions = f.same_executions;
    few_puts = f.few_puts;
  }
