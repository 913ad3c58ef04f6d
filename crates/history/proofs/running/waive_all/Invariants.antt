-- The permits that are left are still to be waived.
use Rattle.std.proofs.Common.{◌≡◌, vec_len}
use Rattle.account.specs.Account.{Account}
use Rattle.study.specs.Promises.{SameParts, Serves}
use Rattle.history.specs.Carried.{waived_at}
use Rattle.history.proofs.running.waive_all.Given as goal

abbrev pub invariant-loop-permit : goal.invariant-loop-permit
invariant-loop-permit g l = let s = l.initial.study in let M = g.M.Model.meaning s.model in let room = (g.C.Calendar.meaning s.calendar).room in record {
  same : SameParts g.C.Calendar.meaning s l.study;
  left : (A : Account) → Serves g.C.Calendar.meaning g.M.Model.meaning s A → (B : Account) × Serves g.C.Calendar.meaning g.M.Model.meaning l.study B × (waived_at M room l.permits.items B ≡ waived_at M room l.initial.permits.items A);
}

abbrev pub decreases-loop-permit : goal.decreases-loop-permit
decreases-loop-permit g l = vec_len l.permits
