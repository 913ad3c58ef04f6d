-- The first calls are carried out.
use Rattle.std.proofs.Common.{◌≡◌, ◌≤◌, length, reverse, take, vec_capacity, vec_len}
use Rattle.history.specs.Carried.{Going}
use Rattle.history.specs.Stands.{replies}
use Rattle.history.proofs.running.carry_out.Given as goal

abbrev pub invariant-loop-call : goal.invariant-loop-call
invariant-loop-call g l = let room = (g.C.Calendar.meaning l.fn.calendar).room in let first = take l.call-index l.calls in record {
  going : Going g.C.Calendar.meaning g.M.Model.meaning l.fn.model room l.fn.permits.items (reverse first) l.study l.permits.items (vec_len l.permits) (vec_capacity l.permits);
  answers : l.answers.items ≡ reverse (replies (g.M.Model.meaning l.fn.model) room l.fn.permits.items (reverse first));
  count : vec_len l.answers ≡ l.call-index;
  enough : length l.calls ≤ vec_capacity l.answers;
}
