-- The cells that a table of names gives.
use Rattle.std.specs.Prelude.{ℕ}
use Rattle.copies.specs.declared.names.Names.{Names}
use Rattle.copies.specs.Rows.{cell_at}

-- the cell of v at p
abbrev pub cell_in : Names → ℕ → ℕ → ℕ
cell_in names = cell_at names.rows
