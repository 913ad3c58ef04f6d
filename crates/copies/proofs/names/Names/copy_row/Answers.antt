-- The child goes over to its parent's cell.
use Rattle.std.proofs.Common.{◌<◌, ◌&&◌, eqb, ap, ◌∙◌, rules}
use Rattle.std.proofs.lemmas.Bool.{lt-ltb}
use Rattle.group.specs.Groups.{has}
use Rattle.copies.specs.Names.{cell_in}
use Rattle.copies.proofs.Rows.{one_copied}
use Rattle.copies.proofs.names.Names.copy_row.Goals as goal

pub loop-p-preserved : goal.loop-p-preserved
loop-p-preserved c = λ w q.
    let small : c.args.child < 16 = search rules in
    let alone = c.single.ensures.members w ∙ ap (λ b. b && eqb w c.args.child) (lt-ltb c.args.child 16 small) in
    ap (λ f. f w q) c.move_group.ensures
    ∙ one_copied (has c.single.result) (cell_in c.loop-p.self) (cell_in c.args.self.now) c.args.parent c.args.child c.cell.result c.loop-p.p w q alone c.cell.ensures.value c.loop-p.invariant
