-- What a command asks for call by call, and what of the answers is said.
use Rattle.std.specs.Prelude.{ℕ, zero, suc, ◌+◌, if◌then◌else◌, List, Some, None, Option, option_map, nat_lt, pred}
use Rattle.event.specs.declared.Start.{Start}
use Rattle.account.specs.Account as account
use Rattle.history.specs.declared.answer.Answer.{Answer}
use Rattle.history.specs.declared.answer.Answer.TheVariants as told
use Rattle.history.specs.declared.call.Call.{Call}
use Rattle.history.specs.declared.call.Call.TheVariants as call
use Rattle.history.specs.Calls.{account_call}
use Rattle.script.specs.declared.answer.Answer as script
use Rattle.script.specs.declared.command.Command.{Command}
use Rattle.script.specs.declared.command.Command.TheVariants as command
use Rattle.session.specs.declared.talk.Rest.{Rest}
use Rattle.session.specs.declared.talk.Rest.TheVariants.{Nothing, Steps, Journal, Entries}
use Rattle.session.specs.Asking.{call_for}
use Rattle.session.specs.Saying.{line_for}

-- the next call
abbrev pub next_of : Rest → Option Call
next_of Nothing = None
next_of (Steps n) = if nat_lt 0 n then Some call.Step else None
next_of (Journal v) = None
next_of (Entries v i n) = if nat_lt i n then Some (call.Entry v i) else None

-- and what is asked for after it
abbrev pub rest_taken : Rest → Rest
rest_taken Nothing = Nothing
rest_taken (Steps n) = Steps (pred n)
rest_taken (Journal v) = Journal v
rest_taken (Entries v i n) = if nat_lt i n then Entries v (i + 1) n else Entries v i n

-- all that a command asks for
abbrev pub rest_of : Command → Rest
rest_of (command.Step n) = Steps n
rest_of (command.Journal v) = Journal v
rest_of c = Nothing

-- what is left of it after its first call
abbrev pub rest_asked : Command → Rest
rest_asked c = rest_taken (rest_of c)

-- the first call: a load is of the starting list of its time, and a journal asks for its events first
abbrev pub asked_for : List Start → Command → Option account.Call
asked_for starts (command.Load end) = Some (account.load starts end)
asked_for starts (command.Step n) = option_map account_call (next_of (Steps n))
asked_for starts (command.Journal v) = Some (account.reading (account.events_of v))
asked_for starts c = option_map account_call (call_for c)

-- a journal has as many entries as events
abbrev pub rest_counted : ℕ → Answer → Rest
rest_counted v (told.Events n) = Entries v 0 n
rest_counted v a = Journal v

-- no step comes after one that is refused
abbrev pub rest_stepped : ℕ → Answer → Rest
rest_stepped n (told.Refused r) = Nothing
rest_stepped n a = Steps n

abbrev pub rest_told : Rest → Answer → Rest
rest_told Nothing a = Nothing
rest_told (Steps n) a = rest_stepped n a
rest_told (Journal v) a = rest_counted v a
rest_told (Entries v i n) a = Entries v i n

-- the number of events of a journal is not said
abbrev pub said_counted : Answer → Option script.Answer
said_counted (told.Events n) = None
said_counted a = Some (line_for a)

abbrev pub said_of : Rest → Answer → Option script.Answer
said_of (Journal v) a = said_counted a
said_of r a = Some (line_for a)
