-- The greatest of those that pass is the first of them.
use Rattle.std.proofs.Common.{filter, sym, ap, ◌∙◌, rules}
use Rattle.std.specs.Ordering.{max_by_ordering}
use Rattle.std.proofs.lemmas.Iterator.{YieldsList-from_slice}
use Rattle.std.proofs.lemmas.Iterator.Consumers.{YieldsList-from_filter, reduce_from_yields_List}
use Rattle.std.specs.List.{slice_get, reduce}
use Rattle.std.proofs.lemmas.Iterator.Consumers.{YieldsList-from_filter_map}
use Rattle.heap_calendar.specs.declared.entry.Entry.{Entry}
use Rattle.heap_calendar.specs.Entries.{slots}
use Rattle.heap_calendar.proofs.Moves.{found}
use Rattle.event.specs.Lists.{first}
use Rattle.slot.specs.declared.Slot.{Slot}
use Rattle.slot.specs.Slots.{earlier, turned}
use Rattle.slot.specs.Passes.{admits}
use Rattle.slot.specs.Laws.{strictly, greater_is}
use Rattle.slot.proofs.Picks.{kept_ranked, first_reduced}
use Rattle.heap_calendar.proofs.pick.first_after.Goals as goal

pub returns : goal.returns
returns g c p t =
    let es = c.args.all.now in
    let pool = c.args.pool.now in
    let xs = slots pool es in
    let q = admits p c.args.after in
    let h = λ (e : Entry). slice_get pool e.at in
    let f = λ (b z : Slot). max_by_ordering (turned b z) b z in
    reduce_from_yields_List f c.filter.result c.max.result c.max.ensures.ran
    (YieldsList-from_filter _ q (YieldsList-from_filter_map _ h (YieldsList-from_slice es (cc)) ((λ i. (c.filter.ensures.source i).f) ∙ c.filter_map.ensures.closure) (λ x b f k. search rules)) c.filter.ensures.closure (λ x b f k. search (rules, t)))
    ∙ ap (λ l. reduce f (filter q l)) (found pool es c.requires.fit)
    ∙ first_reduced earlier strictly f greater_is (filter q xs)
    ∙ ap first (sym (kept_ranked earlier strictly q xs))
