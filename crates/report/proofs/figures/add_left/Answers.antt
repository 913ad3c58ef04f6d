-- The chain gives what is left at each farm.
use Rattle.std.proofs.Common.{rules, tests, ◌+◌, arith}
use Rattle.std.proofs.lemmas.Iterator.{YieldsList-from_map, YieldsList-from_range}
use Rattle.std.proofs.lemmas.Iterator.Adapters.{items_from_extend}
use Rattle.std.proofs.lemmas.Result.{on_ok_weaker}
use Rattle.collection.specs.Replies.{word}
use Rattle.report.specs.declared.figures.Fact.TheVariants.{Left}
use Rattle.report.specs.Days.{the_day}
use Rattle.report.proofs.figures.add_left.Goals as goal

pub returns : goal.returns
returns c =
    let d = c.args.day.now in
    on_ok_weaker c.extend.result (λ h. h.0)
    (items_from_extend c.extend.result c.extend.ensures.ran
    (YieldsList-from_map _ (λ i. Left i (word ((the_day d).place i).words 0)) (YieldsList-from_range 1 (d.model.farms + 1) d.model.farms (cc) (omega arith)) c.map.ensures.closure
    (λ x r q k. search (rules, tests))))
