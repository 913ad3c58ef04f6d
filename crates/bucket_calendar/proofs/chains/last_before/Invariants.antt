-- What has been passed comes before the slot.
use Rattle.std.proofs.Common.{◌≡◌, ℕ, List, true}
use Rattle.bucket_calendar.specs.Chains.{Runs, at}
use Rattle.slot.specs.Slots.{earlier}
use Rattle.bucket_calendar.proofs.Cuts.{Walked}
use Rattle.bucket_calendar.proofs.chains.last_before.Given as goal

abbrev pub invariant-loop : goal.invariant-loop
invariant-loop l = (ps : List ℕ) → Runs l.next l.fn.start ps → Walked (λ p. earlier (at l.pool p) l.fn.s ≡ true) l.next ps l.counter l.last l.here
