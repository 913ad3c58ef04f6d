-- The calls so far are carried out.
use Rattle.std.proofs.Common.{vec_capacity, vec_len}
use Rattle.history.proofs.Going.{Talking}
use Rattle.history.proofs.running.history.Given as goal

abbrev pub invariant-loop : goal.invariant-loop
invariant-loop g l = record {
  talk : Talking g.C.Calendar.meaning g.M.Model.meaning g.K.Caller.gives g.K.Caller.hears l.fn.model (g.C.Calendar.meaning l.fn.calendar).room l.fn.permits.items l.initial.caller l.caller l.study l.permits.items (vec_len l.permits) (vec_capacity l.permits) l.counter;
}
