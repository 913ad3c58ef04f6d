use Rattle.follows.proofs.Rooms.{puts_accepted}
use Rattle.follows.proofs.puts_accepted.Goals as goal

pub returns : goal.returns
returns c = puts_accepted
