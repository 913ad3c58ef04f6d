use Rattle.account.proofs.Leaders.{leaders_count}
use Rattle.account.proofs.leaders_count_groups.Goals as goal

pub returns : goal.returns
returns c = leaders_count
