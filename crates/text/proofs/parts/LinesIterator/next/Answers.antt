-- The first line ends at the first newline, and the rest begins after it.
use Rattle.std.proofs.Common.{◌≡◌, drop, length, sym, ap, ◌∙◌, arith, rules}
use Rattle.std.proofs.lemmas.Bool.{eqb-false}
use Rattle.text.specs.Text.{newline}
use Rattle.text.proofs.Cuts.{lines_first, past_mark}
use Rattle.text.proofs.parts.LinesIterator.next.Goals as goal

pub returns-clause-steps : goal.returns-clause-steps
returns-clause-steps c =
    let at = c.cut.ensures newline (λ c b h. search rules) in
    let past : c.unwrap_or-self-inside.result.now ≡ drop 1 c.cut.result.1.now = ap (λ x. x.now) c.unwrap_or-self-inside.ensures ∙ past_mark c.get.result c.cut.result.1 c.get.ensures.lookup in
    sym c.self.view_is ∙ lines_first c.self.inside.rest.now c.cut.result.0.now c.cut.result.1.now c.unwrap_or-self-inside.result.now at.0 at.1 past (omega (arith, eqb-false _ 0 (sym c.if-is_empty.ensures)))

pub returns-clause-goes : goal.returns-clause-goes
returns-clause-goes c = let first = ap length (returns-clause-steps c) in search rules
