-- Each byte is a digit, or the word is no number.
use Rattle.std.proofs.Common.{sym, ◌∙◌, arith, rules}
use Rattle.std.specs.Char.{is_ascii_digit}
use Rattle.std.proofs.lemmas.Bool.{eqb-true, eqb-false}
use Rattle.std.proofs.lemmas.Iterator.{YieldsList-from_slice}
use Rattle.std.proofs.lemmas.Iterator.Search.{all_from_yields_List}
use Rattle.text.proofs.Numbers.{empty_not, digits_not, digits_given}
use Rattle.text.proofs.number.digits.Goals.{then-is_empty-via-then-is_empty, then-is_empty-via-else-is_empty+then-not-all}
use Rattle.text.proofs.number.digits.Goals as goal

pub returns-then-is_empty : goal.returns-then-is_empty
returns-then-is_empty c =
    elim c.then-is_empty.branch [
      | then-is_empty-via-then-is_empty w ↦ empty_not c.args.word.now (eqb-true _ 0 (sym w.if-is_empty.ensures))
      | then-is_empty-via-else-is_empty+then-not-all w ↦
          let all = all_from_yields_List is_ascii_digit _ _ w.all.result w.all.ensures.ran (YieldsList-from_slice c.args.word.now cc) (λ x b q k. search rules) in
          digits_not c.args.word.now (sym all ∙ w.if-not-all.true)
    ]

pub returns : goal.returns
returns c =
    let all = all_from_yields_List is_ascii_digit _ _ c.all.result c.all.ensures.ran (YieldsList-from_slice c.args.word.now cc) (λ x b q k. search rules) in
    digits_given _ c.args.word.now c.from_utf8.result c.ok.result (omega (arith, eqb-false _ 0 (sym c.if-is_empty.ensures))) (sym all ∙ c.if-not-all.false) c.from_utf8.ensures.cases c.ok.ensures.value
