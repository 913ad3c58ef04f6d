-- The groups of those below v are changed.
use Rattle.std.proofs.Common.{◌≡◌, ℕ, ◌<◌, ◌&&◌, cond, eqb, ltb, length}
use Rattle.group.specs.Groups.{has}
use Rattle.copies.specs.Rows.{group_at}
use Rattle.copies.proofs.Beside.{regroup}
use Rattle.copies.proofs.names.share_row.Given as goal

abbrev pub invariant-loop-v : goal.invariant-loop-v
invariant-loop-v l = record {
  len : length l.sharing ≡ 512;
  groups : (u q w : ℕ) → u < 16 → q < 32 → has (group_at l.sharing u q) w ≡ cond (ltb u l.v && eqb q l.p) (regroup l.there l.gone (group_at l.initial.sharing) u q w) (has (group_at l.initial.sharing u q) w);
}
