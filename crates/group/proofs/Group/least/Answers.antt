-- The lowest 1 of the mask is the smallest variant.
use Rattle.std.proofs.Common.{sym, ◌∙◌, arith}
use Rattle.group.proofs.Members.{least_first}
use Rattle.group.proofs.Group.least.Goals as goal

pub returns : goal.returns
returns c = least_first c.args.self (sym c.is_empty.ensures.value ∙ c.if-is_empty.false) (omega arith)
