-- A place's number is written in a column.
use Rattle.std.proofs.Common.{rules}
use Rattle.report.proofs.Clocks.{padded_column}
use Rattle.sheet.proofs.words.LabelDisplay.fmt.Goals as goal

pub returns-in-Farm-clause-writes : goal.returns-in-Farm-clause-writes
returns-in-Farm-clause-writes g c =
    let number = padded_column 15 c.in-Farm.farm in
    search (rules, number)

pub returns-in-Tanker-clause-writes : goal.returns-in-Tanker-clause-writes
returns-in-Tanker-clause-writes g c =
    let number = padded_column 13 c.in-Tanker.tanker in
    search (rules, number)
