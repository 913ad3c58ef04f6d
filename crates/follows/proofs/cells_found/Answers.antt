use Rattle.follows.proofs.Stands.{cells_are_found}
use Rattle.follows.proofs.cells_found.Goals as goal

pub returns : goal.returns
returns c = cells_are_found
