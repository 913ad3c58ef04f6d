-- The cut is at the first mark, or at the end.
use Rattle.std.proofs.Common.{◌≡◌, refl}
use Rattle.std.specs.List.{position_or_len}
use Rattle.std.proofs.lemmas.Iterator.{YieldsList-from_slice}
use Rattle.std.proofs.lemmas.Iterator.Search.{position_from_yields_List}
use Rattle.text.proofs.Cuts.{cut_first, end_first}
use Rattle.text.proofs.parts.cut.Goals as goal

pub returns : goal.returns
returns g c mark h =
    let first = position_from_yields_List mark _ _ c.position.result c.position.ensures.ran (YieldsList-from_slice c.args.text.now cc)
    (λ x b q k. let stays = g.met.F.Fn.1.step_stays c.args.is_mark (x, tt) b q k in let gave = (g.met.F.FnMut.1.post_iff c.args.is_mark (x, tt) b).1 (q, k) in (stays, h x.now b (record { shown = x; shows = refl; says = record { met = gave } }))) in
    let at : c.unwrap_or-end.result ≡ position_or_len mark c.args.text.now = let e = end_first mark c.args.text.now c.position.result first in cc in
    let is = cut_first mark c.args.text.now in
    (cc, cc)
