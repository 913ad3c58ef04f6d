use Rattle.account.proofs.Bounds.{copies_within_lem}
use Rattle.account.proofs.copies_within.Goals as goal

pub returns : goal.returns
returns c = copies_within_lem
