use Rattle.std.proofs.Common.{rules, refl, ◌∙◌}
use Rattle.copies.specs.Cells.{cell_of, content_of}
use Rattle.study.proofs.Turns.{ran_view, counted}
use Rattle.study.proofs.Study.run_group.Goals as goal

pub returns-clause-held : goal.returns-clause-held
returns-clause-held g c = λ ready.
    let s = c.args.self.now in
    let M = g.M.Model.meaning s.model in
    ran_view M (g.met.M.Model.law s.model) (g.C.Calendar.meaning s.calendar) (g.C.Calendar.meaning c.put_all.new.calendar) s.register (cell_of s.copies) (cell_of c.put.new.self) (content_of s.copies) (content_of c.put.new.self) s.journal c.args.head.now c.args.v
    c.target-cell.result c.saturating_add-self.result c.run_at-sends.new.place c.run_at-sends.result ready
    (search rules) (search rules) (search rules) (search rules) c.target-cell.ensures.inside (search rules) (search rules) (c.saturating_add-self.ensures ∙ counted s.register.executions ready.executions)

pub returns-clause-same : goal.returns-clause-same
returns-clause-same g c = record { model = refl; room = c.put_all.ensures.room }
