-- A farm's number is written in a column.
use Rattle.std.proofs.Common.{rules}
use Rattle.report.proofs.Clocks.{padded_column}
use Rattle.report.proofs.words.FactDisplay.fmt.Goals as goal

pub returns-in-Left-clause-writes : goal.returns-in-Left-clause-writes
returns-in-Left-clause-writes g c =
    let farm = padded_column 7 c.in-Left.farm in
    search (rules, farm)
