-- So many are taken.
use Rattle.std.proofs.Common.{◌≡◌, ◌++◌, take, drop}
use Rattle.calendar.specs.Contents.{holding}
use Rattle.study.proofs.stepping.take_heads.Given as goal

abbrev pub invariant-loop-i : goal.invariant-loop-i
invariant-loop-i g l = let old = g.C.Calendar.meaning l.initial.calendar in record {
  calendar : g.C.Calendar.meaning l.calendar ≡ holding (drop l._i old.held) old;
  journal : l.journal ≡ l.initial.journal ++ take l._i old.held;
}
