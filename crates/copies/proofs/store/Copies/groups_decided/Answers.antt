-- At another place than the order's all go on to share what they share.
use Rattle.std.proofs.Common.{◌≡◌, true, false, eqb, not, ◌&&◌, ◌||◌, ap, rules, tests}
use Rattle.std.proofs.lemmas.Bool.{and_from}
use Rattle.copies.specs.Cells.{cell_of}
use Rattle.copies.specs.Sharing.{shares, shares_decided}
use Rattle.copies.specs.Tests.{AllShare}
use Rattle.copies.proofs.store.Copies.groups_decided.Goals as goal

pub returns : goal.returns
returns c =
    let cell = cell_of c.args.self.now in
    let v = c.args.v in
    c.count_groups.ensures (shares_decided cell v c.args.place) (search (rules, tests)) (λ p r d e.
    let w : r ≡ true → (eqb p c.args.place ≡ false) × AllShare (shares (cell_of c.args.self.now) p) = search rules in
    λ x y l m. and_from (shares cell p x y) _ ((w e).1 x y l m) (ap (λ b. not (b && (not (eqb x y) && (eqb x v || eqb y v)))) (w e).0))
