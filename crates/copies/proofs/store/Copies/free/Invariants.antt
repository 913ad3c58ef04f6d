-- All cells so far serve somebody.
use Rattle.std.proofs.Common.{◌≡◌, ℕ, ◌<◌, true, false, get_or}
use Rattle.copies.proofs.store.Copies.free.Given as goal

abbrev pub invariant-loop-c : goal.invariant-loop-c
invariant-loop-c l = (x : ℕ) → x < l.c → get_or l.used x false ≡ true
