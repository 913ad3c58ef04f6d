-- The call of the account for each call of a history, and the answer for the account's.
use Rattle.std.specs.Prelude.{ℕ, Some, None, Ok, Err, Option, Result, vec_items}
use Rattle.account.specs.Account as account
use Rattle.account.specs.Answers.{refused, variant, done, ran, number, message, waits, stands, shared, counted}
use Rattle.account.specs.Answers as answers
use Rattle.study.specs.declared.fault.StudyFault.{StudyFault}
use Rattle.study.specs.Faults.{refusal_of}
use Rattle.history.specs.declared.answer.Answer.{Answer}
use Rattle.history.specs.declared.answer.Answer.TheVariants as said
use Rattle.history.specs.declared.call.Call.{Call}
use Rattle.history.specs.declared.call.Call.TheVariants.{Load, Step, Branch, Decide, Waive, Retire, Events, Entry, Place, Next, Shares, Group, Totals}

abbrev pub account_call : Call → account.Call
account_call (Load starts end) = account.load (vec_items starts) end
account_call Step = account.step
account_call (Branch v) = account.branch v
account_call (Decide v p o) = account.decide v p o
account_call (Waive v) = account.waive v
account_call (Retire v) = account.retire v
account_call (Events v) = account.reading (account.events_of v)
account_call (Entry v i) = account.reading (account.entry_of v i)
account_call (Place v p) = account.reading (account.place_of v p)
account_call (Next v) = account.reading (account.next_of v)
account_call (Shares v w p) = account.reading (account.sharing v w p)
account_call (Group v p) = account.reading (account.group_of v p)
account_call Totals = account.reading account.totals

-- the permit that a call spends, by its number
abbrev pub permit_of : Call → Option ℕ
permit_of (Load starts end) = None
permit_of Step = None
permit_of (Branch v) = None
permit_of (Decide v p o) = Some v
permit_of (Waive v) = Some v
permit_of (Retire v) = None
permit_of (Events v) = None
permit_of (Entry v i) = None
permit_of (Place v p) = None
permit_of (Next v) = None
permit_of (Shares v w p) = None
permit_of (Group v p) = None
permit_of Totals = None

-- load gives the first variant, branch a child
abbrev pub said_variant : Call → ℕ → Answer
said_variant (Branch v) c = said.Branched c
said_variant call c = said.Loaded c

-- an order, a waived permit and a retired variant have nothing more to tell than that they are done
abbrev pub said_done : Call → Answer
said_done (Decide v p o) = said.Decided v
said_done (Waive v) = said.Waived v
said_done (Retire v) = said.Retired v
-- no other call is answered so
said_done call = said.NoPermit 0

-- a number is one of variants in a group, or else of events
abbrev pub said_number : Call → ℕ → Answer
said_number (Group v p) n = said.Group n
said_number call n = said.Events n

-- the account's answer to a call
abbrev pub said_as : Call → answers.Answer → Answer
said_as call (refused r) = said.Refused r
said_as call (variant c) = said_variant call c
said_as call done = said_done call
said_as call (ran n) = said.Ran n
said_as call (number n) = said_number call n
said_as call (message m) = said.Entry m
said_as call (waits o) = said.Next o
said_as call (stands p) = said.Place p
said_as call (shared b) = said.Shares b
said_as call (counted x n e) = said.Totals x n e

-- what is told, or the refusal
abbrev pub told_by : Result Answer StudyFault → Answer
told_by (Ok a) = a
told_by (Err f) = said.Refused (refusal_of f)
