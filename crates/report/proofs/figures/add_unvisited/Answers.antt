-- The chain gives the farms that were not visited.
use Rattle.std.proofs.Common.{rules, tests, ◌+◌, arith}
use Rattle.std.proofs.lemmas.Iterator.{YieldsList-from_map, YieldsList-from_range}
use Rattle.std.proofs.lemmas.Iterator.Adapters.{items_from_extend}
use Rattle.std.proofs.lemmas.Iterator.Consumers.{YieldsList-at, YieldsList-from_filter}
use Rattle.std.proofs.lemmas.Result.{on_ok_weaker}
use Rattle.report.specs.declared.figures.Fact.TheVariants.{NotVisited}
use Rattle.report.specs.Days.{the_day}
use Rattle.report.specs.Summary.{not_visited}
use Rattle.report.proofs.figures.add_unvisited.Goals as goal

pub returns : goal.returns
returns c =
    let d = c.args.day.now in
    on_ok_weaker c.extend.result (λ h. h.0)
    (items_from_extend c.extend.result c.extend.ensures.ran
    (YieldsList-from_map _ (λ i. NotVisited i)
    (YieldsList-at c.map.ensures.source
    (YieldsList-from_filter _ (not_visited d.model.farms d.model.tankers (the_day d).journal) (YieldsList-from_range 1 (d.model.farms + 1) d.model.farms (cc) (omega arith)) c.filter.ensures.closure
    (λ x b q k. search (rules, tests)))) c.map.ensures.closure (λ x r q k. search (rules, tests))))
