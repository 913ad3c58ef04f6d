use Rattle.std.proofs.Common.{◌≡◌, ◌∷◌, [], ◌++◌, rules, ap, sym, subst, ◌∙◌}
use Rattle.account.specs.Account.{Account, waive}
use Rattle.account.specs.Answers.{after}
use Rattle.study.specs.Promises.{Serves}
use Rattle.history.specs.Carried.{waived_at}
use Rattle.history.proofs.Going.{waived_last}
use Rattle.history.proofs.running.waive_all.Goals as goal

pub loop-permit-preserved : goal.loop-permit-preserved
loop-permit-preserved g c =
    let s = c.args.study.now in let now = c.loop-permit.study in let M = g.M.Model.meaning s.model in let room = (g.C.Calendar.meaning s.calendar).room in
    let same = c.loop-permit.invariant.same in
    record {
      same = record { model = c.waive.ensures.same.model ∙ same.model; room = c.waive.ensures.same.room ∙ same.room };
      left = λ A a. let b = c.loop-permit.invariant.left A a in
          let here : after (g.M.Model.meaning now.model) (g.C.Calendar.meaning now.calendar).room b.0 (waive c.in-Some.permit) ≡ after M room b.0 (waive c.in-Some.permit) = λ i. after (g.M.Model.meaning (same.model i)) (same.room i) b.0 (waive c.in-Some.permit) in
          let items : c.loop-permit.permits.items ≡ c.pop.new.self.items ++ c.in-Some.permit ∷ [] = search rules in (
            after M room b.0 (waive c.in-Some.permit),
            subst (λ (B : Account). Serves g.C.Calendar.meaning g.M.Model.meaning c.waive.new.self B) here (c.waive.ensures.keeps b.0 b.1),
            sym (waived_last M room c.pop.new.self.items c.in-Some.permit b.0) ∙ ap (λ vs. waived_at M room vs b.0) (sym items) ∙ b.2,
          );
    }
