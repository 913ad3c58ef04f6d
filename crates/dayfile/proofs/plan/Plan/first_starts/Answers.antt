-- The chain goes over the first milkings.
use Rattle.std.proofs.Common.{◌≡◌, List, take, map, vec_items, sym, subst, rules}
use Rattle.std.specs.Prelude.{IfOk}
use Rattle.std.proofs.lemmas.Iterator.{YieldsList-from_slice, YieldsList-from_take, YieldsList-from_map, items_from_collect}
use Rattle.std.proofs.lemmas.List.{take-map}
use Rattle.event.specs.declared.Start.{Start}
use Rattle.dayfile.specs.declared.plan.Milking.{Milking}
use Rattle.dayfile.proofs.plan.Plan.first_starts.Goals as goal

pub returns : goal.returns
returns c =
    let all = vec_items c.args.self.now.milkings in
    let start = λ (m : Milking). m.start in
    let first = items_from_collect c.collect.result c.collect.ensures.ran (YieldsList-from_map _ start (YieldsList-from_take c.args.most (YieldsList-from_slice all cc) cc) c.map.ensures.closure (λ x r q k. search rules)) in
    subst (λ l. IfOk c.collect.result (λ v. vec_items v ≡ l)) (sym (take-map start c.args.most all)) first
