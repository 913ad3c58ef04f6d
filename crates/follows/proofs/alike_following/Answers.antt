use Rattle.follows.proofs.Alike.{alike_follows}
use Rattle.follows.proofs.alike_following.Goals as goal

pub returns : goal.returns
returns c = alike_follows
