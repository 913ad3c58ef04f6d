use Rattle.std.proofs.Common.{◌≡◌, true, rules}
use Rattle.copies.specs.Cells.{cell_of}
use Rattle.copies.specs.Sharing.{shares}
use Rattle.copies.specs.Tests.{AllShare}
use Rattle.copies.proofs.store.Copies.groups.Goals as goal

pub returns : goal.returns
returns c = c.count_groups.ensures (shares (cell_of c.args.self.now)) (search rules) (λ p r d e. let w : r ≡ true → AllShare (shares (cell_of c.args.self.now) p) = search rules in w e)
