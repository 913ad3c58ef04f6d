use Rattle.std.proofs.Common.{◌≡◌, drop, rules, sym, ap, ◌∙◌, arith}
use Rattle.event.specs.Lists.{first, rest}
use Rattle.calendar.specs.Contents.{holding}
use Rattle.study.proofs.Takes.{rest_more, pushed, some_dropped}
use Rattle.study.proofs.stepping.take_heads.Goals as goal
use Rattle.study.proofs.stepping.take_heads.Goals.{in-Some, in_default}

pub loop-i-preserved : goal.loop-i-preserved
loop-i-preserved g c =
    let old = g.C.Calendar.meaning c.args.calendar.now in
    let i = c.loop-i._i in
    let told : c.take.result ≡ first (drop i old.held) = c.take.ensures.told ∙ ap (λ k. first k.held) c.loop-i.invariant.calendar in
    record {
      calendar = c.take.ensures.taken ∙ ap (λ k. holding (rest k.held) k) c.loop-i.invariant.calendar ∙ ap (λ l. holding l old) (rest_more old.held i);
      journal = elim c.match-take.branch [
        | in-Some w ↦ pushed c.args.journal.now old.held c.loop-i.journal _ i c.args.count w.in-Some.head c.loop-i.invariant.journal c.requires.entries c.loop-i-test.true (sym told ∙ w.in-Some.is) (w.journal-is ∙ w.push.ensures.entries)
        | in_default w ↦ absurd (some_dropped old.held i (omega (arith, c.loop-i-test.true, c.requires.held)) (sym told ∙ search rules))
      ];
    }
