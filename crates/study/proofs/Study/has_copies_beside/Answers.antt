-- There are no more groups than if no two variants shared a place.
use Rattle.std.proofs.Common.{sym, ◌∙◌}
use Rattle.copies.specs.Cells.{cell_of}
use Rattle.copies.specs.Sharing.{shares_decided, shares_stepped}
use Rattle.study.proofs.Crowds.{enough_copies}
use Rattle.study.proofs.Study.has_copies_beside.Goals as goal

pub returns-then-has_copies_for_all-clause-stepped : goal.returns-then-has_copies_for_all-clause-stepped
returns-then-has_copies_for_all-clause-stepped g c = λ told heads.
    let s = c.args.self.now in
    enough_copies (g.M.Model.meaning s.model).places s.register.live (shares_stepped (cell_of s.copies) heads c.args.place) (sym c.has_copies_for_all.ensures ∙ told)

pub returns-then-has_copies_for_all-clause-decided : goal.returns-then-has_copies_for_all-clause-decided
returns-then-has_copies_for_all-clause-decided g c = λ told v.
    let s = c.args.self.now in
    enough_copies (g.M.Model.meaning s.model).places s.register.live (shares_decided (cell_of s.copies) v c.args.place) (sym c.has_copies_for_all.ensures ∙ told)
