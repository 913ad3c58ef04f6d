-- Those that share a cell with one that was taken are gone with it.
use Rattle.group.specs.Groups.{count, has}
use Rattle.copies.specs.Cells.{cell_of}
use Rattle.copies.proofs.Leaders.{Parted}
use Rattle.copies.proofs.store.Copies.leaders_of.Given as goal

abbrev pub invariant-loop-v : goal.invariant-loop-v
invariant-loop-v l = Parted (cell_of l.fn.self) l.fn.group l.p l.leaders l.rest

abbrev pub decreases-loop-v : goal.decreases-loop-v
decreases-loop-v l = count (has l.rest) 16
