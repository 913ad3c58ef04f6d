use Rattle.follows.proofs.Ready.{heads_few}
use Rattle.follows.proofs.heads_few.Goals as goal

pub returns : goal.returns
returns c = heads_few
