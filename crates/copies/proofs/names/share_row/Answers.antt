-- The group of v is changed, and no other.
use Rattle.std.proofs.Common.{◌≡◌, ◌+◌, ◌*◌, ◌<◌, ◌&&◌, cond, slice_set, not, get_or, ap, ◌∙◌, rules}
use Rattle.group.specs.Groups.{has, none}
use Rattle.copies.specs.Rows.{group_at}
use Rattle.copies.proofs.Beside.{group_set, one_regrouped}
use Rattle.copies.proofs.names.share_row.Goals as goal

pub loop-v-preserved : goal.loop-v-preserved
loop-v-preserved c =
    let v = c.loop-v.v in
    let p = c.args.p in
    let now = c.loop-v.sharing in
    let small : c.loop-v.v < 16 = search rules in
    let low : c.args.p < 32 = c.requires in
    let at : c.index-i.result ≡ c.args.p * 16 + c.loop-v.v = c.index-i.ensures in
    record {
      len = search rules;
      groups = λ u q w k m.
          ap (λ i. has (group_at (slice_set now i c.regrouped.result) u q) w) at
          ∙ ap (λ g. has g w) (group_set now v p u q c.regrouped.result small low k c.loop-v.invariant.len)
          ∙ one_regrouped c.args.there c.args.gone c.regrouped.result (group_at now) (group_at c.args.sharing.now) u v p q w (c.loop-v.invariant.groups u q w k m) (c.loop-v.invariant.groups v p w small low) (c.regrouped.ensures w ∙ ap (λ i. cond (has c.args.there v) (has c.args.there w) (has (get_or now i none) w && not (has c.args.gone w))) at);
    }
