-- No other stage and kind acts.
use Rattle.std.proofs.Common.{◌∙◌, arith}
use Rattle.std.proofs.lemmas.Bool.Decides.{nat_tests}
use Rattle.collection.proofs.Collection.at_tanker.Goals as goal

pub returns-in_default : goal.returns-in_default
returns-in_default c = c.ignore.ensures ∙ grind (arith, nat_tests)
