use Rattle.worked.proofs.Histories.{worked}
use Rattle.worked.proofs.worked_history.Goals as goal

pub returns-clause-history : goal.returns-clause-history
returns-clause-history c = worked
