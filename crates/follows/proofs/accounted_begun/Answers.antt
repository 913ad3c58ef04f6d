use Rattle.follows.proofs.Answering.{accounted_begun}
use Rattle.follows.proofs.accounted_begun.Goals as goal

pub returns : goal.returns
returns c = accounted_begun
