-- The one of that number that passes the test.
use Rattle.std.proofs.Common.{sym, ◌∙◌, rules}
use Rattle.std.proofs.lemmas.Iterator.Adapters.{option_map_id}
use Rattle.std.proofs.lemmas.Iterator.{YieldsList-from_slice, YieldsList-from_map}
use Rattle.std.proofs.lemmas.Iterator.Consumers.{YieldsList-from_filter, YieldsList-at, nth_from_yields_List}
use Rattle.calendar.specs.declared.Held.{Held}
use Rattle.calendar.specs.Laws.{message_of}
use Rattle.group.specs.Groups.{has}
use Rattle.journal.proofs.Journal.entry.Goals as goal

pub returns : goal.returns
returns c =
    sym (option_map_id c.nth.result)
    ∙ nth_from_yields_List {v = λ m. m} c.nth.result c.nth.new.self c.args.i c.nth.ensures.ran
    (YieldsList-from_map _ message_of
    (YieldsList-at c.map.ensures.source
    (YieldsList-from_filter _ (λ (h : Held). has h.group c.args.v) (YieldsList-from_slice c.args.self.now (search rules)) c.filter.ensures.closure (λ x b q k. search rules))) c.map.ensures.closure (λ x r q k. search rules))
