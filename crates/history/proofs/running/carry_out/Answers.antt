use Rattle.std.proofs.Common.{◌≡◌, ◌+◌, ◌∷◌, [], ◌++◌, rules, ap, sym, subst, ◌∙◌, reverse, take, vec_capacity, vec_len, List}
use Rattle.std.proofs.lemmas.List.{take_all}
use Rattle.history.specs.declared.call.Call.{Call}
use Rattle.history.specs.Carried.{After, Going}
use Rattle.history.specs.Stands.{replies}
use Rattle.history.proofs.Going.{going_begun, going_on, replied_so, all_promised, front_more, back_more}
use Rattle.history.proofs.running.carry_out.Goals as goal

pub loop-call-init : goal.loop-call-init
unfolding replies
loop-call-init g c = record {
  going = going_begun g.C.Calendar.meaning g.M.Model.meaning c.args.model (g.C.Calendar.meaning c.args.calendar).room c.args.permits.items c.in-Ok-make.study c.make.new.permits.items (vec_len c.make.new.permits) (vec_capacity c.make.new.permits)
      c.in-Ok-make.ensures.kept.0 c.in-Ok-make.ensures.kept.1 c.in-Ok-make.ensures.begun c.make.ensures.permits c.in-Ok-make.ensures.room;
  answers = c.in-Ok.ensures.items;
  count = search rules;
  enough = search rules;
}

pub loop-call-preserved : goal.loop-call-preserved
loop-call-preserved g c =
    let M = g.M.Model.meaning c.args.model in let room = (g.C.Calendar.meaning c.args.calendar).room in let held = c.args.permits.items in
    let h = c.loop-call.invariant in let i = c.loop-call.call-index in let calls = c.args.calls.now in
    let call : Call = c.call-item.result in
    let more : reverse (take (i + 1) calls) ≡ call ∷ reverse (take i calls) = front_more calls i call c.loop-call-test.true c.call-item.is in
    record {
      going = subst (λ (cs : List Call). Going g.C.Calendar.meaning g.M.Model.meaning c.args.model room held cs c.reply.new.study c.reply.new.permits.items (vec_len c.reply.new.permits) (vec_capacity c.reply.new.permits)) (sym more)
          (going_on g.C.Calendar.meaning g.M.Model.meaning c.args.model room held (reverse (take i calls)) c.loop-call.study c.reply.new.study c.loop-call.permits.items c.reply.new.permits.items (vec_len c.loop-call.permits) (vec_len c.reply.new.permits) (vec_capacity c.loop-call.permits) (vec_capacity c.reply.new.permits) call h.going
          c.reply.ensures.keeps c.reply.ensures.same c.reply.ensures.room);
      answers = c.push_reserved.ensures.items ∙ (λ j. h.answers j ++ replied_so g.C.Calendar.meaning g.M.Model.meaning c.args.model room held (reverse (take i calls)) c.loop-call.study c.reply.new.study c.loop-call.permits.items c.reply.new.permits.items (vec_len c.loop-call.permits) (vec_len c.reply.new.permits) (vec_capacity c.loop-call.permits) (vec_capacity c.reply.new.permits) call h.going c.reply.result c.reply.ensures.answer j ∷ [])
          ∙ sym (back_more M room held (reverse (take i calls)) call) ∙ ap (λ cs. reverse (replies M room held cs)) (sym more);
      count = search rules;
      enough = search rules;
    }

pub returns-clause-all : goal.returns-clause-all
returns-clause-all g c =
    let calls = c.args.calls.now in let permits = c.loop-call.permits in
    let all : take c.loop-call.call-index calls ≡ calls = take_all c.loop-call.call-index calls c.loop-call-test.false in
    subst (λ (cs : List Call). After g.C.Calendar.meaning g.M.Model.meaning c.args.model (g.C.Calendar.meaning c.args.calendar).room c.args.permits.items (reverse cs) c.loop-call.study permits.items) all
    (all_promised g.C.Calendar.meaning g.M.Model.meaning c.args.model (g.C.Calendar.meaning c.args.calendar).room c.args.permits.items g.met.M.Model.law (reverse (take c.loop-call.call-index calls)) c.loop-call.study permits.items (vec_len permits) (vec_capacity permits) c.loop-call.invariant.going)
