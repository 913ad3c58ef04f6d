-- What the search from the end finds is the last unloading.
use Rattle.std.proofs.Common.{rules, tests, ◌≡◌, reverse}
use Rattle.std.specs.List.{find}
use Rattle.std.specs.Option.{option_map}
use Rattle.std.specs.Slice.Iter.{iter_rest}
use Rattle.std.proofs.lemmas.Iterator.Search.{find_from_yields_List}
use Rattle.report.specs.Summary.{is_unloading_message}
use Rattle.report.proofs.Unloadings.{from_end, last_unloading_is}
use Rattle.report.proofs.figures.last_unloading.Goals as goal

pub returns : goal.returns
returns c =
    let f = c.args.day.now.model.farms in
    let t = c.args.day.now.model.tankers in
    let found : option_map (λ m. m.now) c.rfind.result ≡ find (is_unloading_message f t) (reverse (iter_rest c.iter.result)) =
    find_from_yields_List (is_unloading_message f t) _ _ c.rfind.result c.rfind.ensures.ran (from_end c.iter.result) (λ x b q k. search (rules, tests)) in
    search (rules, last_unloading_is, found)
