-- A put keeps its laws.
use Rattle.calendar.proofs.Variants.{put_laws}
use Rattle.calendar.proofs.Held.key.Goals as goal

pub returns-clause-put : goal.returns-clause-put
returns-clause-put c = put_laws
