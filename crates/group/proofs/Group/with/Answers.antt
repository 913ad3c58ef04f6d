-- One digit more.
use Rattle.std.proofs.Common.{◌≡◌, ap, ◌∙◌, rules}
use Rattle.group.specs.Groups.{has, with}
use Rattle.group.proofs.Members.{has_with}
use Rattle.group.proofs.Group.with.Goals as goal

pub returns-clause-members : goal.returns-clause-members
unfolding with
returns-clause-members c w =
    let is : _ ≡ with c.args.self c.args.v = search rules in
    ap (λ g. has g w) is ∙ has_with c.args.self c.args.v w
