use Rattle.account.proofs.Executions.{executions_groups}
use Rattle.account.proofs.executions_are_groups.Goals as goal

pub returns : goal.returns
returns c = executions_groups
