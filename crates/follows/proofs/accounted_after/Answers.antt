use Rattle.follows.proofs.Answering.{accounted_after}
use Rattle.follows.proofs.accounted_after.Goals as goal

pub returns : goal.returns
returns c = accounted_after
