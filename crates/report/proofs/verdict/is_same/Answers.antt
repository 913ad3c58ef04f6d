-- Two lists are equal as their messages are, one by one.
use Rattle.std.proofs.Common.{rules}
use Rattle.std.proofs.lemmas.Slice.Eq.{slice_eq-Decides}
use Rattle.report.proofs.Messages.{same_message}
use Rattle.report.proofs.verdict.is_same.Goals as goal

pub returns : goal.returns
returns c = slice_eq-Decides same_message c.args.ran.now c.args.alone.now c.eq.result (search rules)
