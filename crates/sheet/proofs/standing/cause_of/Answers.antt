-- What the search finds is the first of the partings of the place.
use Rattle.std.proofs.Common.{rules, tests, ◌≡◌}
use Rattle.std.specs.List.{find}
use Rattle.std.specs.Option.{option_map}
use Rattle.std.proofs.lemmas.Iterator.{YieldsList-from_slice}
use Rattle.std.proofs.lemmas.Iterator.Search.{find_from_yields_List}
use Rattle.sheet.specs.Standings.{is_parting_of}
use Rattle.sheet.proofs.standing.cause_of.Goals as goal

pub returns : goal.returns
returns c =
    let found : option_map (λ m. m.now) c.find.result ≡ find (is_parting_of c.args.variant c.args.place) c.args.partings.now =
    find_from_yields_List (is_parting_of c.args.variant c.args.place) _ _ c.find.result c.find.ensures.ran (YieldsList-from_slice c.args.partings.now cc) (λ x b q k. search (rules, tests)) in
    search (rules, found)
