use Rattle.std.proofs.Common.{◌≡◌, ◌∙◌, ℕ, rules, arith, length, sym, ap, subst}
use Rattle.follows.specs.View.{View}
use Rattle.follows.specs.Steps.{turns}
use Rattle.study.specs.Turns.{Led, TurnsReady}
use Rattle.event.specs.Lists.{first}
use Rattle.group.specs.Groups.{has}
use Rattle.calendar.specs.Calls.{waiting}
use Rattle.copies.specs.Cells.{cell_of, content_of}
use Rattle.copies.specs.Executions.{leads_message}
use Rattle.copies.proofs.Leads.{few_counted}
use Rattle.study.proofs.Steps.{heads_held, step_refused, step_answers, step_keeps, view_taken}
use Rattle.study.proofs.Plain.{step_alone}
use Rattle.study.proofs.Study.step.Goals as goal

pub returns-in_err-check_step-clause-answer : goal.returns-in_err-check_step-clause-answer
returns-in_err-check_step-clause-answer g c =
    (step_refused g.C.Calendar.meaning g.M.Model.meaning g.met.M.Model.law c.args.self.now c.find_heads.new.heads.items c.size-executions.result (search rules) (search rules) c.from_residual.result c.from_residual.ensures.0 (search rules)).0

pub returns-in_err-check_step-clause-keeps : goal.returns-in_err-check_step-clause-keeps
returns-in_err-check_step-clause-keeps g c =
    (step_refused g.C.Calendar.meaning g.M.Model.meaning g.met.M.Model.law c.args.self.now c.find_heads.new.heads.items c.size-executions.result (search rules) (search rules) c.from_residual.result c.from_residual.ensures.0 (search rules)).1

pub check_step-requires : goal.check_step-requires
check_step-requires g c = let n = few_counted (has c.leaders-leaders.result) 16 in omega (arith, n, c.size-executions.ensures)

pub take_heads-requires-clause-held : goal.take_heads-requires-clause-held
take_heads-requires-clause-held g c =
    let n : c.len.result ≡ length c.find_heads.new.heads.items = search rules in
    let k = heads_held (g.C.Calendar.meaning c.args.self.now.calendar).held c.find_heads.new.heads.items c.find_heads.ensures.heads in
    omega (arith, n, k)

pub returns-clause-answer : goal.returns-clause-answer
returns-clause-answer g c =
    step_answers g.C.Calendar.meaning g.M.Model.meaning g.met.M.Model.law c.args.self.now c.find_heads.new.heads.items c.size-executions.result (search rules) (search rules) (search rules)

pub returns-clause-keeps : goal.returns-clause-keeps
returns-clause-keeps g c =
    let s = c.args.self.now in
    let M = g.M.Model.meaning s.model in
    let old = g.C.Calendar.meaning s.calendar in
    let heads = c.find_heads.new.heads.items in
    let n : c.len.result ≡ length heads = search rules in
    let taken = view_taken old (g.C.Calendar.meaning c.take_heads.new.calendar) s.register (cell_of s.copies) (content_of s.copies) s.journal c.take_heads.new.journal heads c.len.result n c.take_heads.ensures.calendar c.take_heads.ensures.journal in
    let room = ap (λ k. k.room) c.take_heads.ensures.calendar in
    step_keeps g.C.Calendar.meaning g.M.Model.meaning g.met.M.Model.law s heads c.size-executions.result (search rules) (search rules) c.run_turns.new.self c.leaders-leaders.result (λ v. c.leaders-leaders.ensures.members v ∙ ap (λ xs. leads_message (cell_of s.copies) v (first (waiting v xs))) (search rules)) (g.met.C.Calendar.lawful s.calendar).bounded (search rules) (search rules)
    (λ ready led. c.run_turns.ensures.held (subst (λ (x : ℕ × View). TurnsReady (g.M.Model.meaning c.args.self.now.model) x.0 c.find_heads.new.heads.items x.1) (λ i. (sym room i, sym taken i)) ready)
    (subst (λ (W : View). Led (g.M.Model.meaning c.args.self.now.model) c.find_heads.new.heads.items W c.leaders-leaders.result) (sym taken) led) ∙ ap (λ W. turns M heads W 16) taken)

pub returns-clause-alone : goal.returns-clause-alone
returns-clause-alone g c = step_alone g.C.Calendar.meaning g.M.Model.meaning g.met.M.Model.law c.args.self.now c.run_turns.new.self (returns-clause-keeps g c)
