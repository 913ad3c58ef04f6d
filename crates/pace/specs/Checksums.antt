-- One number for journals, by which two programs compare theirs.
use Rattle.std.specs.Prelude.{◌≡◌, ℕ, ◌+◌, ◌*◌, ◌%◌, ◌^◌, Ok}
use Rattle.account.specs.Account.{reading, entry_of, events_of}
use Rattle.account.specs.Answers.{message, number}
use Rattle.calendar.specs.Contents.{Contents}
use Rattle.event.specs.declared.Message.{Message}
use Rattle.model.specs.Meaning.{Meaning}
use Rattle.study.specs.Promises.{Tells}
use Rattle.study.specs.declared.Study.{Study}

abbrev pub mixed : ℕ → ℕ → ℕ
mixed sum x = (sum * 1099511628211 % 2 ^ 64 + x) % 2 ^ 64

-- the six fields of a message in turn
abbrev pub with_message : ℕ → Message → ℕ
with_message sum m = mixed (mixed (mixed (mixed (mixed (mixed sum m.time) m.receiver) m.sender) m.number) m.kind) m.data

-- begun with `sum`, the first n entries that v is told to have run come to x
pub data Sums {C M : Type 0} (contents : C → Contents) (meaning : M → Meaning) (s : Study C M) (v sum : ℕ) : ℕ → ℕ → Type 0 where
  none : Sums contents meaning s v sum 0 sum
  next : {n x y : ℕ} → (m : Message) → Sums contents meaning s v sum n x → Tells contents meaning s (reading (entry_of v n)) message (Ok m) → y ≡ with_message x m → Sums contents meaning s v sum (n + 1) y

-- begun with `sum`, all that v is told to have run come to x
pub record Summed {C M : Type 0} (contents : C → Contents) (meaning : M → Meaning) (s : Study C M) (v sum n x : ℕ) : Type 0 where
  pub events : Tells contents meaning s (reading (events_of v)) number (Ok n)
  pub sums : Sums contents meaning s v sum n x

-- the journals of the first variants in turn come to x
pub data AllSummed {C M : Type 0} (contents : C → Contents) (meaning : M → Meaning) (s : Study C M) : ℕ → ℕ → Type 0 where
  nobody : AllSummed contents meaning s 0 0
  one_more : {v x : ℕ} → (n y : ℕ) → AllSummed contents meaning s v x → Summed contents meaning s v x n y → AllSummed contents meaning s (v + 1) y
