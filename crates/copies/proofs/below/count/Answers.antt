-- One more is counted where x passes.
use Rattle.std.proofs.Common.{◌≡◌, ◌+◌, sym, ap, ◌∙◌, arith, rules}
use Rattle.account.specs.Account.{ind, sum_below}
use Rattle.copies.proofs.Numbers.{sum_none, sum_more, ind_few}
use Rattle.copies.proofs.below.count.Goals as goal

pub loop-x-init : goal.loop-x-init
loop-x-init g c = record { few = omega arith; value = λ f t. sym (sum_none _) }

pub loop-x-preserved : goal.loop-x-preserved
loop-x-preserved g c =
    let x = c.loop-x.x in
    let one : c.from-count.result ≡ ind c.test.result = search rules in
    record {
      few = omega (arith, one, ind_few c.test.result, c.loop-x.invariant.few);
      value = λ f t.
          ap (λ n. n + c.from-count.result) (c.loop-x.invariant.value f t)
          ∙ ap (λ n. sum_below (λ x. ind (f x)) x + n) (one ∙ ap ind (t x c.test.result (search rules))) ∙ sym (sum_more _ x);
    }

pub returns-clause-value : goal.returns-clause-value
returns-clause-value g c = λ f t. c.loop-x.invariant.value f t ∙ ap (sum_below (λ x. ind (f x))) (omega arith)
