-- Sixteen that share with variant 0 are all.
use Rattle.std.proofs.Common.{sym, ◌∙◌}
use Rattle.copies.proofs.Wholes.{whole_cells}
use Rattle.copies.proofs.names.Names.is_whole.Goals as goal

pub returns-clause-whole : goal.returns-clause-whole
returns-clause-whole c = λ e. whole_cells c.args.self.now c.args.p (sym c.all_share.ensures ∙ e)
