-- The cells of the variants below v are marked.
use Rattle.std.proofs.Common.{◌≡◌, ℕ, ◌<◌, false, ◌&&◌, ◌||◌, eqb, get_or}
use Rattle.account.specs.Account.{any_below}
use Rattle.group.specs.Groups.{has}
use Rattle.copies.specs.Cells.{cell_of}
use Rattle.copies.proofs.store.Copies.mark.Given as goal

abbrev pub invariant-loop-v : goal.invariant-loop-v
invariant-loop-v l = (c : ℕ) → c < 256 → get_or l.marks c false ≡ (any_below (λ v. has l.live v && eqb (cell_of l.self v l.p) c) l.v || get_or l.initial.marks c false)
