use Rattle.account.proofs.ChainAfter.{chain_stands}
use Rattle.account.proofs.chains_reach.Goals as goal

pub returns : goal.returns
returns c = chain_stands
