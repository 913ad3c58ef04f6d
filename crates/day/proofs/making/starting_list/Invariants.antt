-- The messages passed are in the list, and those to come go into it.
use Rattle.std.proofs.Common.{◌≡◌, ◌≤◌, [], drop, vec_items, vec_len, vec_capacity}
use Rattle.event.specs.Keys.{key_of}
use Rattle.event.specs.Lists.{insert_all}
use Rattle.event.specs.Starts.{numbered}
use Rattle.day.proofs.making.starting_list.Given as goal

abbrev pub invariant-loop-i : goal.invariant-loop-i
invariant-loop-i l = record {
  len : vec_len l.list ≡ l.i;
  room : l.capacity ≤ vec_capacity l.list;
  items : insert_all key_of (numbered l.i (drop l.i l.starts)) (vec_items l.list) ≡ insert_all key_of (numbered 0 l.starts) [];
}
