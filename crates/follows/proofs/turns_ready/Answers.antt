use Rattle.follows.proofs.Ready.{turns_ready}
use Rattle.follows.proofs.turns_ready.Goals as goal

pub returns : goal.returns
returns c = turns_ready
