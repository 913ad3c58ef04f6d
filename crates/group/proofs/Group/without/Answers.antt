-- One digit less.
use Rattle.std.proofs.Common.{◌≡◌, sym, ap, ◌∙◌, rules, arith}
use Rattle.std.proofs.lemmas.Bool.{le-ltb}
use Rattle.group.specs.Groups.{has, without}
use Rattle.group.proofs.Members.{without_above, has_without}
use Rattle.group.proofs.Group.without.Goals as goal

pub returns-then-v-ge-VARIANTS-clause-members : goal.returns-then-v-ge-VARIANTS-clause-members
returns-then-v-ge-VARIANTS-clause-members c w = ap (λ g. has g w) (sym (without_above c.args.self c.args.v (le-ltb c.args.v 16 (omega arith)))) ∙ has_without c.args.self c.args.v w

pub returns-clause-members : goal.returns-clause-members
unfolding without
returns-clause-members c w =
    let is : _ ≡ without c.args.self c.args.v = search rules in
    ap (λ g. has g w) is ∙ has_without c.args.self c.args.v w
