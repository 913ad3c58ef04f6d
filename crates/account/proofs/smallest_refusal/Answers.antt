use Rattle.account.proofs.Refusing.{smallest_given}
use Rattle.account.proofs.smallest_refusal.Goals as goal

pub returns : goal.returns
returns c = smallest_given
