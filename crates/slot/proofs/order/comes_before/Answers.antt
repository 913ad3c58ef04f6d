-- `<` compares the parts in their order.
use Rattle.std.proofs.Common.{◌∙◌}
use Rattle.std.specs.Cmp.{Some-then}
use Rattle.slot.specs.Laws.{is_earlier}
use Rattle.slot.proofs.order.comes_before.Goals as goal

pub returns : goal.returns
returns c = c.lt.ensures ∙ simp (c.rank.ensures, c.rank-2.ensures, Some-then) (is_earlier c.args.a.now c.args.b.now)
