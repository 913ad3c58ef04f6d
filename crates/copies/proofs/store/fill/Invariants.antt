-- The cells below c are filled.
use Rattle.std.proofs.Common.{◌≡◌, ℕ, ◌<◌, get_or}
use Rattle.day.specs.Blank.{blank_place}
use Rattle.day.specs.Day.{starting_place}
use Rattle.copies.proofs.store.fill.Given as goal

abbrev pub invariant-loop-c : goal.invariant-loop-c
invariant-loop-c g l = (k : ℕ) → k < l.c → get_or l.place-items k blank_place ≡ starting_place (g.M.Model.meaning l.model) k
