-- At another place than the receiver all go on to share what they share.
use Rattle.std.proofs.Common.{◌≡◌, List, true, false, eqb, not, ◌||◌, map, ap, rules, tests}
use Rattle.std.proofs.lemmas.Bool.{and_from}
use Rattle.group.specs.declared.Group.{Group}
use Rattle.copies.specs.Cells.{cell_of}
use Rattle.copies.specs.Sharing.{shares, shares_stepped, together}
use Rattle.copies.specs.Tests.{AllShare}
use Rattle.copies.proofs.store.Copies.groups_stepped.Goals as goal

pub returns : goal.returns
returns c =
    let cell = cell_of c.args.self.now in
    let heads : List Group = map (λ h. h.group) c.args.heads.now in
    c.count_groups.ensures (shares_stepped cell heads c.args.receiver) (search (rules, tests)) (λ p r d e.
    let w : r ≡ true → (eqb p c.args.receiver ≡ false) × AllShare (shares (cell_of c.args.self.now) p) = search rules in
    λ x y l m. and_from (shares cell p x y) _ ((w e).1 x y l m) (ap (λ b. not b || together heads x y) (w e).0))
