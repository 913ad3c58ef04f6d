-- The groups at p are counted too.
use Rattle.std.proofs.Common.{◌+◌, sym, ap, ◌∙◌, rules, arith}
use Rattle.copies.specs.Sharing.{groups}
use Rattle.copies.proofs.Numbers.{sum_none, sum_more}
use Rattle.copies.proofs.counting.count_groups.Goals as goal

pub loop-p-init : goal.loop-p-init
loop-p-init g c = record { few = omega arith; value = λ f t w. sym (sum_none _) }

pub loop-p-preserved : goal.loop-p-preserved
loop-p-preserved g c =
    let p = c.loop-p.p in
    let live = c.args.live in
    record {
      few = omega (arith, c.groups_at-groups.ensures.few, c.loop-p.invariant.few);
      value = λ f t w.
          ap (λ n. n + c.groups_at-groups.result) (c.loop-p.invariant.value f t w)
          ∙ ap (λ n. groups p live f + n) (c.groups_at-groups.ensures.value f t (λ e. w p c.whole.result (search rules) e)) ∙ sym (sum_more _ p);
    }
