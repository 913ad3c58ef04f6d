-- The word begins at the first graphic byte and ends before the next blank.
use Rattle.std.proofs.Common.{sym, ap, ◌∙◌, length, arith, rules}
use Rattle.std.proofs.lemmas.Bool.{eqb-true, eqb-false}
use Rattle.text.specs.Text.{blank, graphic}
use Rattle.text.proofs.Cuts.{words_none, words_first}
use Rattle.text.proofs.parts.WordsIterator.next.Goals as goal

pub returns-then-is_empty-clause-steps : goal.returns-then-is_empty-clause-steps
returns-then-is_empty-clause-steps c =
    let at = c.cut.ensures graphic (λ c b h. search rules) in
    let none = words_none c.self.inside.rest.now c.cut.result.1.now at.1 (eqb-true _ 0 (sym c.if-is_empty.ensures)) in
    (sym c.self.view_is ∙ none, sym c.self.view_is ∙ none)

pub returns-clause-steps : goal.returns-clause-steps
returns-clause-steps c =
    let at = c.cut.ensures graphic (λ c b h. search rules) in
    let end = c.cut-2.ensures blank (λ c b h. search rules) in
    sym c.self.view_is ∙ words_first c.self.inside.rest.now c.cut.result.1.now c.cut-2.result.0.now c.cut-2.result.1.now at.1
    (omega (arith, eqb-false _ 0 (sym c.if-is_empty.ensures))) end.0 end.1

pub returns-clause-goes : goal.returns-clause-goes
returns-clause-goes c = let first = ap length (returns-clause-steps c) in search rules
