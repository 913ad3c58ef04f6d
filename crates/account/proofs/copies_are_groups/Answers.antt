use Rattle.account.proofs.Bounds.{copies_groups}
use Rattle.account.proofs.copies_are_groups.Goals as goal

pub returns : goal.returns
returns c = copies_groups
