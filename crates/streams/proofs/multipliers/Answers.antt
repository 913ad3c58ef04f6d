-- The rule is computed once, over the whole table.
use Rattle.std.proofs.Common.{refl}
use Rattle.streams.proofs.Quick.{computed}
use Rattle.streams.proofs.multipliers.Goals as goal

pub returns : goal.returns
returns c = computed _ refl
