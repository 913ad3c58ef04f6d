use Rattle.account.proofs.Bounds.{executions_within_lem}
use Rattle.account.proofs.executions_within.Goals as goal

pub returns : goal.returns
returns c = executions_within_lem
