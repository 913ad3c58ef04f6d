-- None that has been passed is the place, and the next is not.
use Rattle.std.proofs.Common.{◌≢◌, ℕ, List, Option, Some}
use Rattle.bucket_calendar.specs.Chains.{Runs}
use Rattle.bucket_calendar.proofs.Cuts.{Walked}
use Rattle.bucket_calendar.proofs.chains.leads_to.Given as goal

abbrev pub invariant-loop : goal.invariant-loop
invariant-loop l = (l.here ≢ Some l.place) × ((ps : List ℕ) → Runs l.next l.fn.start ps → (o : Option ℕ) × Walked (λ p. p ≢ l.place) l.next ps l.counter o l.here)
