use Rattle.account.proofs.After.{alone_stands}
use Rattle.account.proofs.days_alone.Goals as goal

pub returns : goal.returns
returns c = alone_stands
