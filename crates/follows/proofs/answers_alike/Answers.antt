use Rattle.follows.proofs.Answering.{answers_alike}
use Rattle.follows.proofs.answers_alike.Goals as goal

pub returns : goal.returns
returns c = answers_alike
