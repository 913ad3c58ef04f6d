-- The first of time, receiver and sender that differs tells.
use Rattle.heap_calendar.proofs.Order.{time_tells, receiver_tells, sender_tells}
use Rattle.heap_calendar.proofs.entry.Entry.precedes.Goals as goal

pub returns-then-self-other : goal.returns-then-self-other
returns-then-self-other c = time_tells c.args.pool.now c.args.self.now c.args.other.now c.requires.first c.requires.second c.if-self-other.true

pub returns-then-self-other-2 : goal.returns-then-self-other-2
returns-then-self-other-2 c = receiver_tells c.args.pool.now c.args.self.now c.args.other.now c.requires.first c.requires.second c.if-self-other.false c.if-self-other-2.true

pub returns-then-self-other-3 : goal.returns-then-self-other-3
returns-then-self-other-3 c = sender_tells c.args.pool.now c.args.self.now c.args.other.now c.requires.first c.requires.second c.if-self-other.false c.if-self-other-2.false c.if-self-other-3.true
