-- Those of the group that are not left have gone over.
use Rattle.std.proofs.Common.{◌≡◌, ℕ, ◌<◌, true, ◌&&◌, not, cond, eqb, get_or}
use Rattle.group.specs.Groups.{count, has}
use Rattle.copies.specs.Rows.{cell_at}
use Rattle.copies.proofs.names.fill_row.Given as goal

abbrev pub invariant-loop-v : goal.invariant-loop-v
invariant-loop-v l = record {
  left : (w : ℕ) → has l.rest w ≡ true → has l.fn.group w ≡ true;
  cells : (w q : ℕ) → cell_at l.rows w q ≡ cond ((has l.fn.group w && not (has l.rest w)) && eqb q l.p) l.c (cell_at l.initial.rows w q);
  inside : (i : ℕ) → get_or l.rows i 0 < 128;
}

abbrev pub decreases-loop-v : goal.decreases-loop-v
decreases-loop-v l = count (has l.rest) 16
