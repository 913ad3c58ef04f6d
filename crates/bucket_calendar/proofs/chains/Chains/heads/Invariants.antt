-- So many are out, and as many places have been passed.
use Rattle.std.proofs.Common.{◌≡◌, ℕ, List, Option, take, vec_capacity, vec_len}
use Rattle.calendar.specs.Calls.{leading}
use Rattle.slot.specs.Slots.{in_order}
use Rattle.bucket_calendar.specs.Chains.{Runs}
use Rattle.bucket_calendar.proofs.Cuts.{Walked}
use Rattle.bucket_calendar.proofs.chains.Chains.heads.Given as goal

abbrev pub invariant-loop : goal.invariant-loop
invariant-loop l = record {
  len : vec_len l.out ≡ l.counter;
  room : vec_capacity l.out ≡ vec_capacity l.initial.out;
  found : l.out.items ≡ take l.counter (leading (in_order l.pool));
  walk : (ps : List ℕ) → Runs l.self.next l.initial.here ps → (o : Option ℕ) × Walked (λ _. Unit {0}) l.self.next ps l.counter o l.here;
}
