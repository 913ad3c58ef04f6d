use Rattle.account.proofs.After.{bounded_stands}
use Rattle.account.proofs.executions_bounded.Goals as goal

pub returns : goal.returns
returns c = bounded_stands
