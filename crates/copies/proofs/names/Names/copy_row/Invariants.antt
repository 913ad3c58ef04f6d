-- The child has its parent's cells at the places below p.
use Rattle.std.proofs.Common.{◌≡◌, ℕ, ◌&&◌, cond, eqb, ltb}
use Rattle.copies.specs.Names.{cell_in}
use Rattle.copies.proofs.names.Names.copy_row.Given as goal

abbrev pub invariant-loop-p : goal.invariant-loop-p
invariant-loop-p l = (w q : ℕ) → cell_in l.self w q ≡ cond (eqb w l.child && ltb q l.p) (cell_in l.initial.self l.parent q) (cell_in l.initial.self w q)
