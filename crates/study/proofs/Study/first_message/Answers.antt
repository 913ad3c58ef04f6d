use Rattle.std.proofs.Common.{rules, ◌≡◌, Some, None, sym, subst}
use Rattle.std.specs.Prelude.{MatchOption}
use Rattle.std.specs.List.{slice_get}
use Rattle.event.specs.Lists.{first}
use Rattle.calendar.specs.Calls.{waiting}
use Rattle.calendar.specs.Laws.{messages_of}
use Rattle.study.proofs.Readings.{first_waiting}
use Rattle.study.proofs.Study.first_message.Goals as goal

pub returns : goal.returns
returns g c =
    let held = (g.C.Calendar.meaning c.args.self.now.calendar).held in
    let e : slice_get (waiting c.args.v held) 0 ≡ Some c.in_ok-held.held = search rules in
    sym (subst (λ o. MatchOption o (first (messages_of c.args.v held) ≡ None) (λ h. first (messages_of c.args.v held) ≡ Some h.message)) e (first_waiting (waiting c.args.v held)))
