-- The cells of the places below p are marked.
use Rattle.std.proofs.Common.{◌≡◌, ℕ, ◌<◌, false, get_or}
use Rattle.copies.specs.Cells.{cell_of}
use Rattle.copies.specs.Sharing.{used}
use Rattle.copies.proofs.store.Copies.used.Given as goal

abbrev pub invariant-loop-p : goal.invariant-loop-p
invariant-loop-p l = (c : ℕ) → c < 256 → get_or l.marks c false ≡ used l.p (cell_of l.self) l.live c
