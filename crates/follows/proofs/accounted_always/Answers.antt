use Rattle.follows.proofs.Answering.{accounted_always}
use Rattle.follows.proofs.accounted_always.Goals as goal

pub returns : goal.returns
returns c = accounted_always
