-- What the search finds is the first that is for v.
use Rattle.std.proofs.Common.{sym, ◌∙◌, rules, tests}
use Rattle.std.proofs.lemmas.Iterator.{YieldsList-from_slice}
use Rattle.std.proofs.lemmas.Iterator.Adapters.{option_map_id}
use Rattle.std.proofs.lemmas.Iterator.Consumers.{YieldsList-from_copied}
use Rattle.std.proofs.lemmas.Iterator.Search.{find_from_yields_List}
use Rattle.group.specs.Groups.{has}
use Rattle.calendar.specs.declared.Held.{Held}
use Rattle.copies.proofs.Firsts.{find_first}
use Rattle.copies.proofs.heads.message_for.Goals as goal

pub returns : goal.returns
returns c =
    sym (option_map_id c.find.result)
    ∙ find_from_yields_List (λ (h : Held). has h.group c.args.v) _ _ c.find.result c.find.ensures.ran (YieldsList-from_copied (YieldsList-from_slice c.args.heads.now (search rules))) (λ h b q k. search (rules, tests))
    ∙ find_first (λ (h : Held). has h.group c.args.v) c.args.heads.now
