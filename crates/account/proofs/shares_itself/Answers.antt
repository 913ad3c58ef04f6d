use Rattle.account.proofs.Bounds.{self_shares}
use Rattle.account.proofs.shares_itself.Goals as goal

pub returns : goal.returns
returns c = self_shares
