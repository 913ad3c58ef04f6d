-- A spread keeps its laws.
use Rattle.calendar.proofs.Variants.{spread_laws}
use Rattle.calendar.proofs.Held.joins.Goals as goal

pub returns-then-has-clause-laws : goal.returns-then-has-clause-laws
returns-then-has-clause-laws c = spread_laws c.args.v c.args.c

pub returns-else-has-clause-laws : goal.returns-else-has-clause-laws
returns-else-has-clause-laws c = spread_laws c.args.v c.args.c
