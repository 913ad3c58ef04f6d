-- What is counted leads a group. Where all share, one does, unless none is live.
use Rattle.std.proofs.Common.{◌≡◌, not, sym, ap, ◌∙◌, rules, tests}
use Rattle.group.specs.Groups.{has}
use Rattle.account.specs.Account.{ind}
use Rattle.account.specs.Groups.{leads}
use Rattle.copies.proofs.Wholes.{one_group, some_unless_empty}
use Rattle.copies.proofs.counting.groups_at.Goals as goal

pub returns-then-whole-clause-value : goal.returns-then-whole-clause-value
returns-then-whole-clause-value g c = λ f t whole.
    let one : c.from.result ≡ ind (not c.is_empty.result) = search (rules, tests) in
    one ∙ ap ind (some_unless_empty c.args.live c.is_empty.result c.is_empty.ensures.members c.is_empty.ensures.inhabited) ∙ sym (one_group c.args.live (f c.args.p) (whole (search rules)))

pub returns-else-whole-clause-value : goal.returns-else-whole-clause-value
returns-else-whole-clause-value g c = λ f t whole. c.count.ensures.value (leads (has c.args.live) (f c.args.p)) (search (rules, t))
