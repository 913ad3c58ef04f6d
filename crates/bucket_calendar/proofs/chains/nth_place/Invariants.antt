-- As many places have been passed as turns went by.
use Rattle.std.proofs.Common.{ℕ, List, Option}
use Rattle.bucket_calendar.specs.Chains.{Runs}
use Rattle.bucket_calendar.proofs.Cuts.{Walked}
use Rattle.bucket_calendar.proofs.chains.nth_place.Given as goal

abbrev pub invariant-loop : goal.invariant-loop
invariant-loop l = (ps : List ℕ) → Runs l.next l.fn.start ps → (o : Option ℕ) × Walked (λ _. Unit {0}) l.next ps l.counter o l.here
