-- No more are parted than there are.
use Rattle.std.proofs.Common.{arith}
use Rattle.copies.proofs.Wholes.{few_parted}
use Rattle.copies.proofs.names.Names.parted_places.Goals as goal

pub returns-clause-few : goal.returns-clause-few
returns-clause-few c = let a = few_parted c.args.self.now.sharing in omega (arith, a, c.args.self.now.counted)
