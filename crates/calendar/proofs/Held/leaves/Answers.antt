-- An erase keeps its laws.
use Rattle.calendar.proofs.Variants.{erase_laws}
use Rattle.calendar.proofs.Held.leaves.Goals as goal

pub returns-clause-laws : goal.returns-clause-laws
returns-clause-laws c = erase_laws c.args.v
