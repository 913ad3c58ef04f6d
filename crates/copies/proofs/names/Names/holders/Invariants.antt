-- None below v has the cell.
use Rattle.std.proofs.Common.{◌≡◌, ℕ, ◌<◌, false, eqb}
use Rattle.copies.specs.Names.{cell_in}
use Rattle.copies.proofs.names.Names.holders.Given as goal

abbrev pub invariant-loop-v : goal.invariant-loop-v
invariant-loop-v l = (w : ℕ) → w < l.v → eqb (cell_in l.self w l.p) l.c ≡ false
