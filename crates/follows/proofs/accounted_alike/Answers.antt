use Rattle.follows.proofs.Answering.{accounted_alike}
use Rattle.follows.proofs.accounted_alike.Goals as goal

pub returns : goal.returns
returns c = accounted_alike
