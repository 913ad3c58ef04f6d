-- The cells of the place p are marked too.
use Rattle.std.proofs.Common.{◌&&◌, ◌||◌, false, eqb, sym, ap, ◌∙◌}
use Rattle.std.proofs.lemmas.List.{get_or-replicate}
use Rattle.account.specs.Account.{any_below}
use Rattle.group.specs.Groups.{has}
use Rattle.copies.specs.Cells.{cell_of}
use Rattle.copies.proofs.Marks.{any_none, any_more}
use Rattle.copies.proofs.store.Copies.used.Goals as goal

pub loop-p-init : goal.loop-p-init
loop-p-init c = λ k l. get_or-replicate 256 k false false l ∙ sym (any_none _)

pub loop-p-preserved : goal.loop-p-preserved
loop-p-preserved c = λ k l.
    let p = c.loop-p.p in
    let live = c.args.live in
    let cell = cell_of c.args.self.now in
    c.mark.ensures k l ∙ ap (λ b. any_below (λ v. has live v && eqb (cell v p) k) 16 || b) (c.loop-p.invariant k l) ∙ sym (any_more _ p)
