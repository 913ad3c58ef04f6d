-- Each stands where its number says.
use Rattle.std.proofs.Common.{rules}
use Rattle.copies.proofs.names.starting_rows.Goals as goal

pub returns-clause-cells : goal.returns-clause-cells
returns-clause-cells c = λ i h. let k = (c.from_fn.ensures.items.at i 0 h).2 in search rules
