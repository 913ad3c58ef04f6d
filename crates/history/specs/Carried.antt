-- What a history leaves.
use Rattle.std.specs.Prelude.{◌≡◌, ℕ, ◌-◌, ◌^◌, ◌⊎◌, List, [], ◌∷◌, length, None, Option, reverse}
use Rattle.calendar.specs.Contents.{Contents}
use Rattle.model.specs.Meaning.{Meaning}
use Rattle.account.specs.Account.{Account, waive}
use Rattle.account.specs.Answers as account
use Rattle.study.specs.declared.Study.{Study}
use Rattle.study.specs.Promises.{Serves, view_of}
use Rattle.history.specs.declared.answer.Answer.{Answer}
use Rattle.history.specs.declared.call.Call.{Call}
use Rattle.history.specs.Exchanges.{Exchanged}
use Rattle.history.specs.Histories.{Roomy}
use Rattle.history.specs.Promise.{Promised}
use Rattle.history.specs.Stands.{calls_made, replies, stand}

-- a study of this model over a calendar of this capacity, after these calls, the newest first, that began with these permits
pub record After {C M : Type 0} (contents : C → Contents) (meaning : M → Meaning) (model : M) (capacity : ℕ) (held : List ℕ) (calls : List Call) (study : Study C M) (left : List ℕ) : Type 0 where
  pub model_same : study.model ≡ model
  pub room_same : (contents study.calendar).room ≡ capacity
  -- those permits are left that it began with or that branches gave, and that no call has spent
  pub permits : left ≡ (stand (meaning model) capacity held calls).held
  -- the account that answers is the pair account that is fed with the calls that were made, denied or not
  pub account : (stand (meaning model) capacity held calls).account ≡ account.history (meaning model) capacity (calls_made (meaning model) capacity held calls)
  -- and all is promised
  pub promise : Promised (meaning model) capacity (calls_made (meaning model) capacity held calls) (view_of contents study)

-- after the calls of a caller
pub record Carried {C M K : Type 0} (contents : C → Contents) (meaning : M → Meaning) (gives : K → Option Call → K → Type 0) (hears : K → Call → Answer → K → Type 0) (model : M) (capacity : ℕ) (held : List ℕ) (before after : K) (study : Study C M) (left : List ℕ) : Type 0 where
  -- the calls that it gave, the newest first, and the caller once the last was answered
  pub calls : List Call
  pub told : K
  -- each was answered as the pair account answers it, refusals included
  pub answered : Exchanged gives hears before calls (replies (meaning model) capacity held calls) told
  -- it gave no more, or as many as 64 bits can count
  pub over : gives told None after ⊎ ((told ≡ after) × (length calls ≡ 2 ^ 64 - 1))
  pub all : After contents meaning model capacity held calls study left

-- the answers to a list of calls, both with the oldest first
abbrev pub answers_to : Meaning → ℕ → List ℕ → List Call → List Answer
answers_to M capacity held calls = reverse (replies M capacity held (reverse calls))

-- so far: the study follows the account
pub record Going {C M : Type 0} (contents : C → Contents) (meaning : M → Meaning) (model : M) (capacity : ℕ) (held : List ℕ) (calls : List Call) (study : Study C M) (left : List ℕ) (count room : ℕ) : Type 0 where
  pub permits : left ≡ (stand (meaning model) capacity held calls).held
  pub model_same : study.model ≡ model
  pub room_same : (contents study.calendar).room ≡ capacity
  pub served : Serves contents meaning study (stand (meaning model) capacity held calls).account
  pub roomy : Roomy (stand (meaning model) capacity held calls).account count room

-- the account after permits were waived, the last first
abbrev pub waived_at : Meaning → ℕ → List ℕ → Account → Account
waived_at M capacity [] A = A
waived_at M capacity (v ∷ vs) A = account.after M capacity (waived_at M capacity vs A) (waive v)

-- the study goes on following it
abbrev pub WaivedAll : {C M : Type 0} → (C → Contents) → (M → Meaning) → Study C M → List ℕ → Study C M → Type 0
WaivedAll contents meaning s held t = (A : Account) → Serves contents meaning s A → Serves contents meaning t (waived_at (meaning s.model) (contents s.calendar).room held A)
