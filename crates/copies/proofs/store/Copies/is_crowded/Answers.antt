-- Who shares is live, and outside the group.
use Rattle.std.proofs.Common.{ℕ, ◌∙◌}
use Rattle.copies.specs.Cells.{cell_of}
use Rattle.copies.specs.Sharing.{shares}
use Rattle.copies.proofs.Leads.{outside}
use Rattle.copies.proofs.Wholes.{some_gathered}
use Rattle.copies.proofs.store.Copies.is_crowded.Goals as goal

pub returns : goal.returns
returns c =
    let share = λ (u : ℕ). shares (cell_of c.args.self.now) c.args.p u c.args.v in
    some_gathered c.difference.result c.sharers.result share c.is_empty.result c.sharers.ensures c.is_empty.ensures.members c.is_empty.ensures.inhabited
    ∙ outside c.args.live c.args.group c.difference.result share c.difference.ensures.members
