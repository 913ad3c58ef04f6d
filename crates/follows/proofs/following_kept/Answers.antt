use Rattle.follows.proofs.Stands.{follows_kept}
use Rattle.follows.proofs.following_kept.Goals as goal

pub returns : goal.returns
returns c = follows_kept
