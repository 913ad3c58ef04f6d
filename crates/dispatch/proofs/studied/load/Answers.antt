-- A list that was accepted was not cut.
use Rattle.std.proofs.Common.{◌≡◌, ◌+◌, ◌≤◌, length, map, take, vec_items, refl, ◌∙◌, subst}
use Rattle.collection.specs.declared.Collection.{Collection}
use Rattle.collection.specs.Rules.{meaning_of}
use Rattle.dayfile.specs.declared.plan.Milking.{Milking}
use Rattle.heap_calendar.specs.Laws.{contents_of}
use Rattle.study.specs.Plain.{NeverBranched}
use Rattle.dispatch.proofs.Loading.{accepted_fits, short_whole}
use Rattle.dispatch.proofs.studied.load.Goals as goal

pub returns : goal.returns
returns c =
    let end = c.args.plan.now.«end» in
    let all = map (λ (m : Milking). m.start) (vec_items c.args.plan.now.milkings) in
    let meaning = λ (m : Collection). meaning_of m.farms m.tankers in
    let l = c.as_slice.result.now in
    let cut : l ≡ take (512 + 1) all = c.as_slice.ensures.value ∙ c.in_ok-starts.ensures in
    let fits : length l ≤ 512 = accepted_fits contents_of meaning c.in_ok-study.study l end c.in_ok-load.field-0 c.in_ok-load.ensures.told in
    let whole : l ≡ all = cut ∙ short_whole 512 all (subst (λ x. length x ≤ 512) cut fits) in
    subst (λ x. NeverBranched contents_of meaning x end c.load.new.self) whole (c.in_ok-load.ensures.alone refl)
