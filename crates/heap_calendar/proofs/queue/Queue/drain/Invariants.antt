-- What is out, and then the rest in order, is the whole in order.
use Rattle.std.proofs.Common.{◌≡◌, ◌+◌, ◌≤◌, ◌++◌, length, vec_items, vec_len, vec_capacity}
use Rattle.heap_calendar.proofs.queue.Queue.drain.Given as goal

abbrev pub invariant-loop-h : goal.invariant-loop-h
invariant-loop-h l = record {
  whole : vec_items l.out ++ l.self.held ≡ l.fn.self.held;
  fits : vec_len l.out + length l.self.held ≤ 512;
  room : vec_capacity l.out ≡ vec_capacity l.fn.out;
}

abbrev pub decreases-loop-h : goal.decreases-loop-h
decreases-loop-h l = length l.self.held
