use Rattle.account.proofs.Histories.{executions_grow}
use Rattle.account.proofs.executions_add.Goals as goal

pub returns : goal.returns
returns c = executions_grow
