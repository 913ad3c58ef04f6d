use Rattle.account.proofs.ChainAfter.{untouched_same}
use Rattle.account.proofs.untouched_alike.Goals as goal

pub returns : goal.returns
returns c = untouched_same
