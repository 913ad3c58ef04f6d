-- The first cell without a mark is told, and none where all have one.
use Rattle.std.proofs.Common.{not, ap, ◌∙◌, sym, arith, rules}
use Rattle.copies.specs.Cells.{cell_of}
use Rattle.copies.specs.Sharing.{used}
use Rattle.copies.proofs.Marks.{finds_first, finds_none}
use Rattle.copies.proofs.store.Copies.free.Goals as goal

pub returns-then-not-used-from-clause-value : goal.returns-then-not-used-from-clause-value
returns-then-not-used-from-clause-value c =
    let serves = used c.args.places (cell_of c.args.self.now) c.args.live in
    sym (finds_first (λ x. not (serves x)) 0 128 c.loop-c.c (omega arith) (omega (arith, c.loop-c-test.true)) (λ x b k. ap not (sym (c.used-used.ensures x (omega (arith, k, c.loop-c-test.true))) ∙ c.loop-c.invariant x k)) (search rules))

pub returns-clause-value : goal.returns-clause-value
returns-clause-value c =
    let serves = used c.args.places (cell_of c.args.self.now) c.args.live in
    sym (finds_none (λ x. not (serves x)) 0 128 (λ x b k. ap not (sym (c.used-used.ensures x (omega (arith, k))) ∙ c.loop-c.invariant x (omega (arith, k, c.loop-c-test.false)))))
