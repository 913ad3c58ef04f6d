-- The call that a command asks for by itself.
use Rattle.std.specs.Prelude.{Some, None, Option}
use Rattle.history.specs.declared.call.Call.{Call}
use Rattle.history.specs.declared.call.Call.TheVariants as call
use Rattle.script.specs.declared.command.Command.{Command}
use Rattle.script.specs.declared.command.Command.TheVariants.{Branch, Decide, Waive, Retire, Events, Entry, Place, Next, Shares, Group, Totals}

abbrev pub call_for : Command → Option Call
call_for (Branch v) = Some (call.Branch v)
call_for (Decide v p o) = Some (call.Decide v p o)
call_for (Waive v) = Some (call.Waive v)
call_for (Retire v) = Some (call.Retire v)
call_for (Events v) = Some (call.Events v)
call_for (Entry v i) = Some (call.Entry v i)
call_for (Place v p) = Some (call.Place v p)
call_for (Next v) = Some (call.Next v)
call_for (Shares v w p) = Some (call.Shares v w p)
call_for (Group v p) = Some (call.Group v p)
call_for Totals = Some call.Totals
call_for c = None
