use Rattle.std.proofs.Common.{◌≡◌, Some, rules, refl, ap, sym, subst, ◌∙◌}
use Rattle.std.specs.List.{insert}
use Rattle.account.specs.Account.{Account, decide}
use Rattle.account.specs.Answers.{done, refused}
use Rattle.study.specs.Faults.{refusal_of}
use Rattle.study.specs.Promises.{Serves}
use Rattle.history.specs.declared.call.Call.TheVariants.{Decide as Deciding}
use Rattle.history.specs.Stands.{held_at, without_at}
use Rattle.history.proofs.Permits.{held_within, put_back_same, spent_call}
use Rattle.history.proofs.replying.decide.Goals as goal

pub returns-in-Ok-clause-answer : goal.returns-in-Ok-clause-answer
returns-in-Ok-clause-answer g c A a =
    (spent_call (g.M.Model.meaning c.args.study.now.model) (g.C.Calendar.meaning c.args.study.now.calendar).room A c.args.permits.now.items (Deciding c.args.variant c.args.place c.args.order) c.args.variant c.in-Some.i c.remove.result
    (λ r. decide r c.args.place c.args.order) refl refl (search rules) c.remove.ensures.value done (c.in-Ok.ensures.answer A a)).said

pub returns-in-Ok-clause-keeps : goal.returns-in-Ok-clause-keeps
returns-in-Ok-clause-keeps g c A a =
    let held = c.args.permits.now.items in
    let found : held_at c.args.variant held ≡ Some c.in-Some.i = search rules in
    let spent = spent_call (g.M.Model.meaning c.args.study.now.model) (g.C.Calendar.meaning c.args.study.now.calendar).room A held (Deciding c.args.variant c.args.place c.args.order) c.args.variant c.in-Some.i c.remove.result
    (λ r. decide r c.args.place c.args.order) refl refl found c.remove.ensures.value done (c.in-Ok.ensures.answer A a) in
    (subst (λ (B : Account). Serves g.C.Calendar.meaning g.M.Model.meaning c.decide.new.self B) spent.account (c.in-Ok.ensures.keeps A a), c.remove.ensures.items ∙ ap (λ o. without_at o held) (sym found) ∙ spent.left)

pub returns-in-Err-clause-answer : goal.returns-in-Err-clause-answer
returns-in-Err-clause-answer g c A a =
    (spent_call (g.M.Model.meaning c.args.study.now.model) (g.C.Calendar.meaning c.args.study.now.calendar).room A c.args.permits.now.items (Deciding c.args.variant c.args.place c.args.order) c.args.variant c.in-Some.i c.remove.result
    (λ r. decide r c.args.place c.args.order) refl refl (search rules) c.remove.ensures.value (refused (refusal_of c.in-Err.field-0.fault)) (c.in-Err.ensures.answer A a)).said

pub returns-in-Err-clause-keeps : goal.returns-in-Err-clause-keeps
returns-in-Err-clause-keeps g c A a =
    let held = c.args.permits.now.items in
    let found : held_at c.args.variant held ≡ Some c.in-Some.i = search rules in
    let handed : c.in-Err.field-0.permit ≡ c.remove.result = search rules in
    let back : c.put_back.new.permits.items ≡ held = c.put_back.ensures.items ∙ (λ j. insert (c.remove.ensures.items j) c.in-Some.i (handed j)) ∙ put_back_same held c.in-Some.i c.remove.result (held_within c.args.variant held c.in-Some.i found) c.remove.ensures.value in
    let spent = spent_call (g.M.Model.meaning c.args.study.now.model) (g.C.Calendar.meaning c.args.study.now.calendar).room A held (Deciding c.args.variant c.args.place c.args.order) c.args.variant c.in-Some.i c.remove.result
    (λ r. decide r c.args.place c.args.order) refl refl found c.remove.ensures.value (refused (refusal_of c.in-Err.field-0.fault)) (c.in-Err.ensures.answer A a) in
    (subst (λ (B : Account). Serves g.C.Calendar.meaning g.M.Model.meaning c.decide.new.self B) spent.account (c.in-Err.ensures.keeps A a), back ∙ spent.left)
