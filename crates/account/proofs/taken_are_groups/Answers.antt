use Rattle.account.proofs.Bounds.{taken_groups}
use Rattle.account.proofs.taken_are_groups.Goals as goal

pub returns : goal.returns
returns c = taken_groups
