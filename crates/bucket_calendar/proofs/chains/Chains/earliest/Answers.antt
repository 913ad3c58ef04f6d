-- The greatest of the leaders is the first of all.
use Rattle.std.proofs.Common.{◌∙◌, rules}
use Rattle.std.specs.Ordering.{max_by_ordering}
use Rattle.std.proofs.lemmas.Iterator.{YieldsList-from_slice}
use Rattle.std.proofs.lemmas.Iterator.Consumers.{YieldsList-from_filter_map, reduce_from_yields_List}
use Rattle.std.specs.List.{filter_map}
use Rattle.slot.specs.declared.Slot.{Slot}
use Rattle.slot.specs.Slots.{earlier, turned}
use Rattle.slot.specs.Laws.{strictly, greater_is}
use Rattle.slot.proofs.Picks.{first_reduced}
use Rattle.bucket_calendar.specs.Chains.{slot_at}
use Rattle.bucket_calendar.proofs.Firsts.{earliest_top}
use Rattle.bucket_calendar.proofs.chains.Chains.earliest.Goals as goal

pub returns : goal.returns
returns c d =
    let hs = c.args.self.now.heads in
    let xs = c.args.pool.now in
    reduce_from_yields_List (λ (b z : Slot). max_by_ordering (turned b z) b z) c.filter_map.result c.max.result c.max.ensures.ran
    (YieldsList-from_filter_map _ (slot_at xs) (YieldsList-from_slice hs (cc)) c.filter_map.ensures.closure (λ x r q k. search rules))
    ∙ first_reduced earlier strictly (λ b z. max_by_ordering (turned b z) b z) greater_is (filter_map (slot_at xs) hs)
    ∙ earliest_top hs c.args.self.now.next xs d
