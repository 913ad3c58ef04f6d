-- The digits parse as the number.
use Rattle.std.proofs.Common.{◌≡◌, true, inl, inr, rules, arith}
use Rattle.text.specs.Numbers.{is_number}
use Rattle.text.proofs.Numbers.{number_within, number_outside, number_past}
use Rattle.text.proofs.number.parse_number.Goals.{In_ok-digits}
use Rattle.text.proofs.number.parse_number.Goals as goal

given : (c : In_ok-digits) → (is_number c.args.word.now ≡ true) × (c.in_ok-digits.digits.now ≡ c.args.word.now)
given c = search rules

pub returns-in-Ok-clause-value : goal.returns-in-Ok-clause-value
returns-in-Ok-clause-value c =
    number_within c.args.low c.args.high c.args.word.now _ (given (goal.at.returns-in-Ok-clause-value c).In_ok-digits) (omega arith) c.parse.result c.in-Ok.n c.in-Ok.is c.parse.ensures.value.0 (omega arith) (omega arith)

pub returns-in_default-clause-value : goal.returns-in_default-clause-value
returns-in_default-clause-value c =
    number_outside c.args.low c.args.high c.args.word.now _ (given (goal.at.returns-in_default-clause-value c).In_ok-digits) (omega arith) c.parse.result c.in-Ok.n c.in-Ok.is c.parse.ensures.value.0 (inr (omega arith))

pub returns-in_default-2-clause-value : goal.returns-in_default-2-clause-value
returns-in_default-2-clause-value c =
    number_outside c.args.low c.args.high c.args.word.now _ (given (goal.at.returns-in_default-2-clause-value c).In_ok-digits) (omega arith) c.parse.result c.in-Ok.n c.in-Ok.is c.parse.ensures.value.0 (inl (omega arith))

pub returns-in_default-3-clause-value : goal.returns-in_default-3-clause-value
returns-in_default-3-clause-value c =
    number_past c.args.low c.args.high c.args.word.now _ (given (goal.at.returns-in_default-3-clause-value c).In_ok-digits) (omega arith) c.parse.result c.in_default.field-0 c.in_default.is c.parse.ensures.value.0
