-- The executions that messages come to, one for each group that runs one of them on one copy of its receiver.
use Rattle.std.specs.Prelude.{ℕ, Bool, false, List, Some, None, Option}
use Rattle.event.specs.Lists.{first}
use Rattle.calendar.specs.declared.Held.{Held}
use Rattle.calendar.specs.Calls.{waiting}
use Rattle.account.specs.Account.{ind, sum_below}
use Rattle.copies.specs.Sharing.{leads_at}

-- v is the smallest of those that run its message together
abbrev pub leads_message : (ℕ → ℕ → ℕ) → ℕ → Option Held → Bool
leads_message cell v None = false
leads_message cell v (Some h) = leads_at cell h.group h.message.receiver v

-- one for each of them, with nothing changed yet
abbrev pub executions : (ℕ → ℕ → ℕ) → List Held → ℕ
executions cell heads = sum_below (λ v. ind (leads_message cell v (first (waiting v heads)))) 16
