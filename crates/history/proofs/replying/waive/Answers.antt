use Rattle.std.proofs.Common.{◌≡◌, Some, rules, refl, ap, sym, subst, ◌∙◌}
use Rattle.account.specs.Account.{Account, waive}
use Rattle.account.specs.Answers.{done}
use Rattle.study.specs.Promises.{Serves, answered}
use Rattle.history.specs.declared.call.Call.TheVariants.{Waive as Waiving}
use Rattle.history.specs.Stands.{held_at, without_at}
use Rattle.history.proofs.Permits.{spent_call, waive_refused}
use Rattle.history.proofs.replying.waive.Goals as goal

pub returns-in_err-waive-clause-answer : goal.returns-in_err-waive-clause-answer
returns-in_err-waive-clause-answer g c A a =
    waive_refused c.args.variant c.from_residual.result c.waive.result c.from_residual.ensures.0 (search rules)
    ∙ (spent_call (g.M.Model.meaning c.args.study.now.model) (g.C.Calendar.meaning c.args.study.now.calendar).room A c.args.permits.now.items (Waiving c.args.variant) c.args.variant c.in-Some.i c.remove.result
    (λ r. waive r) refl refl (search rules) c.remove.ensures.value (answered {X = Unit {0}} (λ _. done) c.waive.result) (c.waive.ensures.answer A a)).said

pub returns-in_err-waive-clause-keeps : goal.returns-in_err-waive-clause-keeps
returns-in_err-waive-clause-keeps g c A a =
    let held = c.args.permits.now.items in
    let found : held_at c.args.variant held ≡ Some c.in-Some.i = search rules in
    let spent = spent_call (g.M.Model.meaning c.args.study.now.model) (g.C.Calendar.meaning c.args.study.now.calendar).room A held (Waiving c.args.variant) c.args.variant c.in-Some.i c.remove.result
    (λ r. waive r) refl refl found c.remove.ensures.value (answered {X = Unit {0}} (λ _. done) c.waive.result) (c.waive.ensures.answer A a) in
    (subst (λ (B : Account). Serves g.C.Calendar.meaning g.M.Model.meaning c.waive.new.self B) spent.account (c.waive.ensures.keeps A a), c.remove.ensures.items ∙ ap (λ o. without_at o held) (sym found) ∙ spent.left)

pub returns-clause-answer : goal.returns-clause-answer
returns-clause-answer g c A a =
    (spent_call (g.M.Model.meaning c.args.study.now.model) (g.C.Calendar.meaning c.args.study.now.calendar).room A c.args.permits.now.items (Waiving c.args.variant) c.args.variant c.in-Some.i c.remove.result
    (λ r. waive r) refl refl (search rules) c.remove.ensures.value done (c.in_ok-waive.ensures.answer A a)).said

pub returns-clause-keeps : goal.returns-clause-keeps
returns-clause-keeps g c A a =
    let held = c.args.permits.now.items in
    let found : held_at c.args.variant held ≡ Some c.in-Some.i = search rules in
    let spent = spent_call (g.M.Model.meaning c.args.study.now.model) (g.C.Calendar.meaning c.args.study.now.calendar).room A held (Waiving c.args.variant) c.args.variant c.in-Some.i c.remove.result
    (λ r. waive r) refl refl found c.remove.ensures.value (answered {X = Unit {0}} (λ _. done) c.waive.result) (c.waive.ensures.answer A a) in
    (subst (λ (B : Account). Serves g.C.Calendar.meaning g.M.Model.meaning c.waive.new.self B) spent.account (c.waive.ensures.keeps A a), c.remove.ensures.items ∙ ap (λ o. without_at o held) (sym found) ∙ spent.left)
