-- The relation looks at what matters of cells only.
use Rattle.std.proofs.Common.{ℕ, ◌+◌, ◌*◌, ◌≤◌, length, sym, ◌∙◌, subst, ◌≡◌, true}
use Rattle.group.specs.Groups.{has}
use Rattle.follows.specs.Follows.{HeldFollow, EntriesFollow}
use Rattle.follows.specs.Claims.{AlikeFollows}
use Rattle.follows.proofs.Cells.{cells_named}

pub alike_follows : AlikeFollows
alike_follows M V W A a f = record {
  same_loaded = sym a.loaded ∙ f.same_loaded;
  same_end = sym a.end ∙ f.same_end;
  same_live = λ v. sym (a.live v) ∙ f.same_live v;
  same_undecided = λ v. sym (a.undecided v) ∙ f.same_undecided v;
  same_made = sym a.made ∙ f.same_made;
  cells = cells_named M.places A.live V.cell V.content _ _ f.cells W.cell W.content (λ v p l h. a.cell v p (lives v l) h) (λ v p l h. a.content v p (lives v l) h);
  messages = subst (λ xs. HeldFollow A.live xs (λ v. (A.day v).waiting) A.marked) a.held f.messages;
  journals = subst (λ xs. EntriesFollow A.live xs (λ v. (A.day v).journal) A.joint) a.entries f.journals;
  same_executions = sym a.executions ∙ f.same_executions;
  few_puts = subst (λ (n : ℕ). n ≤ length A.load + 2 * A.executions) a.puts f.few_puts;
}
  where
    lives : (v : ℕ) → A.live v ≡ true → has W.live v ≡ true
    lives v l = sym (a.live v) ∙ f.same_live v ∙ l
