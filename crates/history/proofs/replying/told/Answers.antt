use Rattle.std.proofs.Common.{refl, subst, sym, vec_capacity, vec_items, vec_len}
use Rattle.history.specs.declared.call.Call.{Call}
use Rattle.history.specs.Histories.{KeepsRoom}
use Rattle.history.proofs.Keeping.{load_room, reads_on}
use Rattle.history.proofs.replying.told.Goals as goal

pub returns-in_err-entry-in-Entry-clause-keeps : goal.returns-in_err-entry-in-Entry-clause-keeps
returns-in_err-entry-in-Entry-clause-keeps g c = reads_on g.C.Calendar.meaning g.M.Model.meaning c.args.study.now c.args.permits.now.items _ c.args.call.now _ c.in-Entry.is refl refl (λ a. refl)

pub returns-in_err-place-in-Place-clause-keeps : goal.returns-in_err-place-in-Place-clause-keeps
returns-in_err-place-in-Place-clause-keeps g c = reads_on g.C.Calendar.meaning g.M.Model.meaning c.args.study.now c.args.permits.now.items _ c.args.call.now _ c.in-Place.is refl refl (λ a. refl)

pub returns-in_ok-place-in-Place-clause-keeps : goal.returns-in_ok-place-in-Place-clause-keeps
returns-in_ok-place-in-Place-clause-keeps g c = reads_on g.C.Calendar.meaning g.M.Model.meaning c.args.study.now c.args.permits.now.items _ c.args.call.now _ c.in-Place.is refl refl (λ a. refl)

pub returns-in_err-shares-in-Shares-clause-keeps : goal.returns-in_err-shares-in-Shares-clause-keeps
returns-in_err-shares-in-Shares-clause-keeps g c = reads_on g.C.Calendar.meaning g.M.Model.meaning c.args.study.now c.args.permits.now.items _ c.args.call.now _ c.in-Shares.is refl refl (λ a. refl)

pub returns-in_ok-shares-in-Shares-clause-keeps : goal.returns-in_ok-shares-in-Shares-clause-keeps
returns-in_ok-shares-in-Shares-clause-keeps g c = reads_on g.C.Calendar.meaning g.M.Model.meaning c.args.study.now c.args.permits.now.items _ c.args.call.now _ c.in-Shares.is refl refl (λ a. refl)

pub returns-in_err-group-in-Group-clause-keeps : goal.returns-in_err-group-in-Group-clause-keeps
returns-in_err-group-in-Group-clause-keeps g c = reads_on g.C.Calendar.meaning g.M.Model.meaning c.args.study.now c.args.permits.now.items _ c.args.call.now _ c.in-Group.is refl refl (λ a. refl)

pub returns-in_ok-load-in-Load-clause-room : goal.returns-in_ok-load-in-Load-clause-room
returns-in_ok-load-in-Load-clause-room g c =
    let s = c.args.study.now in let permits = c.args.permits.now in
    subst (λ (k : Call). KeepsRoom g.C.Calendar.meaning g.M.Model.meaning s permits.items (vec_len permits) (vec_capacity permits) k (vec_len permits) (vec_capacity permits)) (sym c.in-Load.is)
    (λ A a h. load_room (g.M.Model.meaning s.model) (g.met.M.Model.law s.model) (g.C.Calendar.meaning s.calendar).room A (vec_items c.in-Load.starts) c.in-Load.end (vec_len permits) (vec_capacity permits) a.after h)
