-- Who leads one of the messages so far is gathered, and of the others those that have had none are to come.
use Rattle.std.proofs.Common.{◌≡◌, ℕ, ◌||◌, ◌&&◌, not, drop}
use Rattle.event.specs.Lists.{first}
use Rattle.group.specs.Groups.{has}
use Rattle.calendar.specs.Calls.{waiting}
use Rattle.copies.specs.Cells.{cell_of}
use Rattle.copies.specs.Executions.{leads_message}
use Rattle.copies.proofs.store.Copies.leaders.Given as goal

abbrev pub invariant-loop-h : goal.invariant-loop-h
invariant-loop-h l = (v : ℕ) → (has l.leaders v || (not (has l.seen v) && leads_message (cell_of l.self) v (first (waiting v (drop l.h-index l.heads))))) ≡ leads_message (cell_of l.self) v (first (waiting v l.heads))
