-- The greatest of those that pass is the first of them.
use Rattle.std.proofs.Common.{filter, sym, ap, ◌∙◌, rules}
use Rattle.std.specs.Ordering.{max_by_ordering}
use Rattle.std.proofs.lemmas.Iterator.{YieldsList-from_slice}
use Rattle.std.proofs.lemmas.Iterator.Consumers.{YieldsList-from_copied, YieldsList-from_filter, reduce_from_yields_List}
use Rattle.event.specs.Lists.{first}
use Rattle.slot.specs.declared.Slot.{Slot}
use Rattle.slot.specs.Slots.{earlier, turned}
use Rattle.slot.specs.Passes.{admits}
use Rattle.slot.specs.Laws.{strictly, greater_is}
use Rattle.slot.proofs.Picks.{kept_ranked, first_reduced}
use Rattle.slot.proofs.pick.first_after.Goals as goal

pub returns : goal.returns
returns g c p t =
    let xs = c.args.slots.now in
    let q = admits p c.args.after in
    reduce_from_yields_List (λ (b z : Slot). max_by_ordering (turned b z) b z) c.filter.result c.max.result c.max.ensures.ran
    (YieldsList-from_filter _ q (YieldsList-from_copied (YieldsList-from_slice xs (cc))) c.filter.ensures.closure (λ x b f k. search (rules, t)))
    ∙ first_reduced earlier strictly (λ b z. max_by_ordering (turned b z) b z) greater_is (filter q xs)
    ∙ ap first (sym (kept_ranked earlier strictly q xs))
