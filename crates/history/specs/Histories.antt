-- What one call of a history is answered and leads to, whatever account the study follows.
use Rattle.std.specs.Prelude.{◌≡◌, ℕ, ◌+◌, ◌≤◌, List}
use Rattle.calendar.specs.Contents.{Contents}
use Rattle.model.specs.Meaning.{Meaning}
use Rattle.account.specs.Account.{Account}
use Rattle.study.specs.declared.Study.{Study}
use Rattle.study.specs.Promises.{Serves}
use Rattle.history.specs.declared.answer.Answer.{Answer}
use Rattle.history.specs.declared.call.Call.{Call}
use Rattle.history.specs.Stands.{Stand, next, reply}

-- the account beside the permits that are held
abbrev pub standing : Account → List ℕ → Stand
standing A held = record { account = A; held = held }

-- the answer is the account's
abbrev pub Replies : {C M : Type 0} → (C → Contents) → (M → Meaning) → Study C M → List ℕ → Call → Answer → Type 0
Replies contents meaning s held call a = (A : Account) → Serves contents meaning s A → a ≡ reply (meaning s.model) (contents s.calendar).room (standing A held) call

-- the study goes on following the account, and those permits are held that are to be
abbrev pub GoesOn : {C M : Type 0} → (C → Contents) → (M → Meaning) → Study C M → List ℕ → Call → Study C M → List ℕ → Type 0
GoesOn contents meaning s held call t left = (A : Account) → Serves contents meaning s A
    → Serves contents meaning t (next (meaning s.model) (contents s.calendar).room (standing A held) call).account × (left ≡ (next (meaning s.model) (contents s.calendar).room (standing A held) call).held)

-- there is room for the permits of all variants that are still to be made
abbrev pub Roomy : Account → ℕ → ℕ → Type 0
Roomy A held capacity = held + 16 ≤ capacity + A.made

-- such an account is there
abbrev pub HasRoom : {C M : Type 0} → (C → Contents) → (M → Meaning) → Study C M → ℕ → ℕ → Type 0
HasRoom contents meaning s held capacity = (A : Account) × Serves contents meaning s A × Roomy A held capacity

-- and room is left after the call
abbrev pub KeepsRoom : {C M : Type 0} → (C → Contents) → (M → Meaning) → Study C M → List ℕ → ℕ → ℕ → Call → ℕ → ℕ → Type 0
KeepsRoom contents meaning s held count capacity call count' capacity' = (A : Account) → Serves contents meaning s A → Roomy A count capacity → Roomy (next (meaning s.model) (contents s.calendar).room (standing A held) call).account count' capacity'
