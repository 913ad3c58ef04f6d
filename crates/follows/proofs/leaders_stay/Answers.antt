use Rattle.follows.proofs.Ready.{leaders_stay}
use Rattle.follows.proofs.leaders_stay.Goals as goal

pub returns : goal.returns
returns c = leaders_stay
