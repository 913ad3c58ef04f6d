use Rattle.account.proofs.Histories.{history_after}
use Rattle.account.proofs.any_history.Goals as goal

pub returns : goal.returns
returns c = history_after
