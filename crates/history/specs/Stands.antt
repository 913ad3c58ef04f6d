-- Where a history stands: what the account has come to, and which permits are held.
use Rattle.std.specs.Prelude.{ℕ, Bool, true, if◌then◌else◌, List, [], ◌∷◌, ◌++◌, Some, None, Option, is_some, ◌==◌}
use Rattle.std.specs.List.{position, remove}
use Rattle.model.specs.Meaning.{Meaning}
use Rattle.account.specs.Account as account
use Rattle.account.specs.Account.{Account, empty}
use Rattle.account.specs.Answers as answers
use Rattle.account.specs.Answers.{answer, after, variant, refused}
use Rattle.history.specs.declared.answer.Answer.{Answer}
use Rattle.history.specs.declared.answer.Answer.TheVariants.{NoPermit}
use Rattle.history.specs.declared.call.Call.{Call}
use Rattle.history.specs.declared.call.Call.TheVariants.{Branch, Decide, Waive}
use Rattle.history.specs.Calls.{account_call, permit_of, said_as}

pub record Stand : Type 0 where
  pub account : Account
  -- by their numbers, the oldest first
  pub held : List ℕ

-- where the oldest permit of this number stands, if one is held
abbrev pub held_at : ℕ → List ℕ → Option ℕ
held_at v held = position (λ x. x == v) held

abbrev pub without_at : Option ℕ → List ℕ → List ℕ
without_at None held = held
without_at (Some i) held = remove held i

-- one permit of this number is spent
abbrev pub spent : ℕ → List ℕ → List ℕ
spent v held = without_at (held_at v held) held

-- a call that needs no permit can be made; one that needs it, if it is held
abbrev pub can_by : Option ℕ → List ℕ → Bool
can_by None held = true
can_by (Some v) held = is_some (held_at v held)

abbrev pub can : Call → List ℕ → Bool
can call held = can_by (permit_of call) held

-- a denied order hands its permit back
abbrev pub held_decided : ℕ → answers.Answer → List ℕ → List ℕ
held_decided v (refused r) held = held
held_decided v a held = spent v held

-- branch gives a permit for the child
abbrev pub held_branched : answers.Answer → List ℕ → List ℕ
held_branched (variant c) held = held ++ c ∷ []
held_branched a held = held

-- the permits that are held after a call that was answered so
abbrev pub held_after : Call → answers.Answer → List ℕ → List ℕ
held_after (Branch v) a held = held_branched a held
held_after (Decide v p o) a held = held_decided v a held
held_after (Waive v) a held = spent v held
held_after call a held = held

-- the number that an answer names where no permit was held
abbrev pub number_of : Option ℕ → ℕ
number_of None = 0
number_of (Some v) = v

-- what a call is answered
abbrev pub reply : Meaning → ℕ → Stand → Call → Answer
reply M capacity s call = if can call s.held then said_as call (answer M capacity s.account (account_call call)) else NoPermit (number_of (permit_of call))

-- and what it leads to; where its permit is not held no call is made
abbrev pub made : Meaning → ℕ → Stand → Call → Stand
made M capacity s call = record { account = after M capacity s.account (account_call call); held = held_after call (answer M capacity s.account (account_call call)) s.held }

abbrev pub next : Meaning → ℕ → Stand → Call → Stand
next M capacity s call = if can call s.held then made M capacity s call else s

-- before the first call
abbrev pub begun : Meaning → List ℕ → Stand
begun M held = record { account = empty M; held = held }

-- after these calls, the newest first
unfoldable pub stand : Meaning → ℕ → List ℕ → List Call → Stand
stand M capacity held [] = begun M held
stand M capacity held (c ∷ cs) = next M capacity (stand M capacity held cs) c

-- what they are answered, the newest first
unfoldable pub replies : Meaning → ℕ → List ℕ → List Call → List Answer
replies M capacity held [] = []
replies M capacity held (c ∷ cs) = reply M capacity (stand M capacity held cs) c ∷ replies M capacity held cs

-- those of the calls that were made, as the account's
unfoldable pub calls_made : Meaning → ℕ → List ℕ → List Call → List account.Call
calls_made M capacity held [] = []
calls_made M capacity held (c ∷ cs) = if can c (stand M capacity held cs).held then account_call c ∷ calls_made M capacity held cs else calls_made M capacity held cs
