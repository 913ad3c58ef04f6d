-- A command is read back from the line that it is written out as.
use Rattle.std.proofs.Common.{rules}
use Rattle.script.proofs.ReadBack.{answered}
use Rattle.script.proofs.reading.read_line.Goals as goal

pub returns-in_default-clause-back : goal.returns-in_default-clause-back
returns-in_default-clause-back c = answered c.args.line.now _ (search rules)

pub returns-in_err-keyword-clause-back : goal.returns-in_err-keyword-clause-back
returns-in_err-keyword-clause-back c = answered c.args.line.now _ (search rules)

pub returns-in_err-command-clause-back : goal.returns-in_err-command-clause-back
returns-in_err-command-clause-back c = answered c.args.line.now _ (search rules)

pub returns-clause-back : goal.returns-clause-back
returns-clause-back c = answered c.args.line.now _ (search rules)
