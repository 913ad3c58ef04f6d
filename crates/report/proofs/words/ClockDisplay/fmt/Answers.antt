-- Minutes and seconds are written in two digits.
use Rattle.std.proofs.Common.{rules, arith, ◌%◌, ◌/◌}
use Rattle.report.proofs.Clocks.{padded_two}
use Rattle.report.proofs.words.ClockDisplay.fmt.Goals as goal

pub returns-clause-writes : goal.returns-clause-writes
returns-clause-writes g c =
    let minutes = padded_two (c.args.self.now.0 / 60 % 60) (omega arith) in
    let seconds = padded_two (c.args.self.now.0 % 60) (omega arith) in
    search (rules, minutes, seconds)
