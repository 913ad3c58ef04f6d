-- `<` compares the fields in their order.
use Rattle.std.proofs.Common.{◌∙◌}
use Rattle.std.specs.Cmp.{Some-then}
use Rattle.event.proofs.Orders.{is_before, strict_order}
use Rattle.event.proofs.Key.precedes.Goals as goal

pub returns : goal.returns
returns c = record { value = c.lt.ensures ∙ simp (Some-then) (is_before c.args.self.now c.args.other.now); strict = strict_order }
