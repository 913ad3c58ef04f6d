use Rattle.std.proofs.Common.{◌≡◌, ◌-◌, ◌^◌, None, inl, inr, subst, sym, arith, vec_capacity, vec_len}
use Rattle.history.proofs.Going.{talk_begun, talk_on, all_carried}
use Rattle.history.proofs.running.history.Goals as goal
use Rattle.history.proofs.running.history.Goals.{else-loop-test, then-loop-test+in_default}

pub loop-init : goal.loop-init
loop-init g c = record {
  talk = talk_begun g.C.Calendar.meaning g.M.Model.meaning g.K.Caller.gives g.K.Caller.hears c.args.model (g.C.Calendar.meaning c.args.calendar).room c.args.permits.items c.args.caller.now c.in-Ok.study c.make.new.permits.items (vec_len c.make.new.permits) (vec_capacity c.make.new.permits)
      c.in-Ok.ensures.kept.0 c.in-Ok.ensures.kept.1 c.in-Ok.ensures.begun c.make.ensures.permits c.in-Ok.ensures.room;
}

pub loop-preserved : goal.loop-preserved
loop-preserved g c = record {
  talk = talk_on g.C.Calendar.meaning g.M.Model.meaning g.K.Caller.gives g.K.Caller.hears c.args.model (g.C.Calendar.meaning c.args.calendar).room c.args.permits.items c.args.caller.now c.loop.caller c.next.new.self c.tell.new.self c.loop.study c.reply-answer.new.study c.loop.permits.items c.reply-answer.new.permits.items
      (vec_len c.loop.permits) (vec_len c.reply-answer.new.permits) (vec_capacity c.loop.permits) (vec_capacity c.reply-answer.new.permits) c.loop.counter c.in-Some.call c.reply-answer.result c.loop.invariant.talk c.in-Some.ensures c.tell.ensures c.reply-answer.ensures.answer c.reply-answer.ensures.keeps c.reply-answer.ensures.same c.reply-answer.ensures.room;
}

pub returns-clause-carried : goal.returns-clause-carried
returns-clause-carried g c =
    all_carried g.C.Calendar.meaning g.M.Model.meaning g.K.Caller.gives g.K.Caller.hears c.args.model (g.C.Calendar.meaning c.args.calendar).room c.args.permits.items c.args.caller.now g.met.M.Model.law c.loop.caller c.loop-test.caller c.loop.study c.loop.permits.items (vec_len c.loop.permits) (vec_capacity c.loop.permits) c.loop.counter c.loop.invariant.talk
    (elim c.loop-test.branch [
      | else-loop-test w ↦ inr (sym w.caller-is, (let a = w.loop-test.false in let b = c.loop.auto.counter-end in let z : c.loop.counter ≡ 2 ^ 64 - 1 = omega (arith, a, b) in z))
      | then-loop-test+in_default w ↦ inl (subst (λ k. g.K.Caller.gives c.loop.caller None k) (sym w.caller-is) w.in_default.ensures)
    ])
