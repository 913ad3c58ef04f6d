-- Some events have run, and each was told.
use Rattle.std.proofs.Common.{◌-◌, vec_len}
use Rattle.model.specs.Meaning.{Meaning}
use Rattle.day.specs.Held.{SameSetting, day_of}
use Rattle.day.specs.Runs.{Told}
use Rattle.day.proofs.lone.LoneDay.run.Given as goal

abbrev pub invariant-loop-tell : goal.invariant-loop-tell
invariant-loop-tell g l = let old = l.initial.self in let M : Meaning = g.M.Model.meaning old.model in record {
  callable : goal.F-IsAlwaysCallable g l.tell;
  same : SameSetting old l.self;
  told : Told (goal.F-step g) M old l.initial.tell (day_of M l.self) l.tell;
}

abbrev pub decreases-loop-tell : goal.decreases-loop-tell
decreases-loop-tell g l = 2048 - vec_len l.self.journal
