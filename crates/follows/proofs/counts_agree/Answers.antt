use Rattle.follows.proofs.Stands.{counts_agree}
use Rattle.follows.proofs.counts_agree.Goals as goal

pub returns : goal.returns
returns c = counts_agree
