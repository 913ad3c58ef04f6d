use Rattle.std.proofs.Common.{rules, Ok}
use Rattle.account.specs.Account.{load}
use Rattle.account.specs.Answers.{variant}
use Rattle.study.proofs.Promises.{told_answers}
use Rattle.study.proofs.Loads.{load_refused, load_told, load_kept, load_fits}
use Rattle.study.proofs.Plain.{load_alone}
use Rattle.study.proofs.Study.load.Goals as goal

pub returns-in_err-check_load-clause-told : goal.returns-in_err-check_load-clause-told
returns-in_err-check_load-clause-told g c =
    (load_refused g.C.Calendar.meaning g.M.Model.meaning g.met.M.Model.law c.args.self.now c.args.starts.now c.args.end c.from_residual.result c.from_residual.ensures.0 (search rules)).0

pub returns-in_err-check_load-clause-answer : goal.returns-in_err-check_load-clause-answer
returns-in_err-check_load-clause-answer g c =
    let s = c.args.self.now in
    told_answers g.C.Calendar.meaning g.M.Model.meaning g.met.M.Model.law s (load c.args.starts.now c.args.end) variant c.from_residual.result
    (load_refused g.C.Calendar.meaning g.M.Model.meaning g.met.M.Model.law s c.args.starts.now c.args.end c.from_residual.result c.from_residual.ensures.0 (search rules)).0

pub returns-in_err-check_load-clause-keeps : goal.returns-in_err-check_load-clause-keeps
returns-in_err-check_load-clause-keeps g c =
    (load_refused g.C.Calendar.meaning g.M.Model.meaning g.met.M.Model.law c.args.self.now c.args.starts.now c.args.end c.from_residual.result c.from_residual.ensures.0 (search rules)).1

pub begin-requires : goal.begin-requires
begin-requires g c =
    let s = c.args.self.now in
    load_fits s.register.loaded (g.M.Model.meaning s.model).places (g.C.Calendar.meaning s.calendar).room c.args.end c.args.starts.now (search rules)

pub returns-clause-told : goal.returns-clause-told
returns-clause-told g c = load_told g.C.Calendar.meaning g.M.Model.meaning g.met.M.Model.law c.args.self.now c.args.starts.now c.args.end (search rules)

pub returns-clause-answer : goal.returns-clause-answer
returns-clause-answer g c =
    let s = c.args.self.now in
    told_answers g.C.Calendar.meaning g.M.Model.meaning g.met.M.Model.law s (load c.args.starts.now c.args.end) variant (Ok 0)
    (load_told g.C.Calendar.meaning g.M.Model.meaning g.met.M.Model.law s c.args.starts.now c.args.end (search rules))

pub returns-clause-keeps : goal.returns-clause-keeps
returns-clause-keeps g c =
    load_kept g.C.Calendar.meaning g.M.Model.meaning g.met.M.Model.law c.args.self.now c.args.starts.now c.args.end c.begin.new.self (search rules) c.begin.ensures.same c.begin.ensures.held

pub returns-clause-alone : goal.returns-clause-alone
returns-clause-alone g c = λ _.
    load_alone g.C.Calendar.meaning g.M.Model.meaning g.met.M.Model.law c.args.self.now c.begin.new.self c.args.starts.now c.args.end (search rules) c.begin.ensures.same c.begin.ensures.held
