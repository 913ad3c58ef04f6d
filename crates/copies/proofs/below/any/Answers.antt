-- The chain passes over the numbers in turn.
use Rattle.std.proofs.Common.{◌∙◌, refl, arith, rules, tests}
use Rattle.std.proofs.lemmas.Iterator.{YieldsList-from_range}
use Rattle.std.proofs.lemmas.Iterator.Search.{any_from_yields_List}
use Rattle.copies.proofs.Numbers.{any_listed}
use Rattle.copies.proofs.below.any.Goals as goal

pub returns : goal.returns
returns g c f t =
    any_from_yields_List f _ _ c.any.result c.any.ensures.ran (YieldsList-from_range 0 c.args.n c.args.n refl (omega arith)) (λ x b q k. search (rules, tests, t)) ∙ any_listed f c.args.n
