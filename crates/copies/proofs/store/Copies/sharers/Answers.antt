-- Who is among them and has v's cell is gathered.
use Rattle.std.proofs.Common.{◌<◌, ◌&&◌, ap, ◌∙◌, rules}
use Rattle.group.specs.Groups.{has}
use Rattle.copies.specs.Cells.{cell_of}
use Rattle.copies.specs.Sharing.{shares}
use Rattle.copies.proofs.Same.{gathered_of}
use Rattle.copies.proofs.store.Copies.sharers.Goals as goal

pub returns : goal.returns
returns c =
    let l : c.intersection.result.mask < 65536 = search rules in
    gathered_of c.intersection.result (has c.args.among) (λ w. shares (cell_of c.args.self.now) c.args.p w c.args.v) l (λ w. c.intersection.ensures.members w ∙ ap (λ b. has c.args.among w && b) (c.sharers.ensures w))
