-- Each turn is an event, which is told, and events leave the day alone and tidy.
use Rattle.std.proofs.Common.{rules, of_calls, refl, ◌∙◌}
use Rattle.model.specs.Meaning.{Meaning}
use Rattle.day.specs.Held.{day_of}
use Rattle.day.specs.Runs.{Later}
use Rattle.day.proofs.Runs.{later_more, told_more, told_failing, alone_later, tidy_later}
use Rattle.day.proofs.lone.LoneDay.run.Goals as goal

pub loop-tell-preserved : goal.loop-tell-preserved
loop-tell-preserved g c =
    let inv = c.loop-tell.invariant in
    record {
      callable = search of_calls;
      same = search rules;
      told = told_more (goal.F-step g) _ c.args.self.now c.args.tell _ _ inv.told c.in-Some.ran (search rules) _ (search rules) _ _ (c.event.ensures.same.0 ∙ inv.same.0, refl) c.tell.result _ (search rules) c.tell.ensures;
    }

pub returns-in_err-ran-clause-alone : goal.returns-in_err-ran-clause-alone
returns-in_err-ran-clause-alone g c = alone_later _ _ _ _ (search rules)

pub returns-in_err-ran-clause-tidy : goal.returns-in_err-ran-clause-tidy
returns-in_err-ran-clause-tidy g c = tidy_later _ (g.met.M.Model.law c.args.self.now.model) c.args.self.now.waiting.end _ _ (search rules)

pub returns-in_err-map_err : goal.returns-in_err-map_err
returns-in_err-map_err g c =
    let s = c.args.self.now in
    let inv = c.loop-tell.invariant in
    let M : Meaning = g.M.Model.meaning s.model in
    let later : Later M s.waiting.end (day_of M s) (day_of M c.event.new.self) = later_more _ M s c.args.tell _ _ inv.told c.in-Some.ran (search rules) _ (search rules) in
    record {
      told = told_failing _ M s c.args.tell _ _ inv.told c.in-Some.ran (search rules) _ (search rules) _ _ (c.event.ensures.same.0 ∙ inv.same.0, refl) c.tell.result _ c.from_residual-in_err-map_err.result (search rules) c.tell.ensures;
      later = later;
      same = search rules;
      alone = alone_later M _ _ _ later;
      tidy = tidy_later M (g.met.M.Model.law s.model) _ _ _ later;
    }

pub returns-clause-alone : goal.returns-clause-alone
returns-clause-alone g c = alone_later _ _ _ _ (search rules)

pub returns-clause-tidy : goal.returns-clause-tidy
returns-clause-tidy g c = tidy_later _ (g.met.M.Model.law c.args.self.now.model) c.args.self.now.waiting.end _ _ (search rules)
