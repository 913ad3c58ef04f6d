use Rattle.follows.proofs.Fronts.{front_taken}
use Rattle.follows.proofs.front_taken.Goals as goal

pub returns : goal.returns
returns c = front_taken
