-- Each goes behind those before it.
use Rattle.std.proofs.Common.{length, sym, ap, ◌∙◌, arith}
use Rattle.event.proofs.Insertion.{length_insert}
use Rattle.calendar.specs.Calls.{key_of_held}
use Rattle.heap_calendar.specs.Line.{Line}
use Rattle.heap_calendar.specs.Entries.{blank}
use Rattle.heap_calendar.proofs.Backs.{given_more, none_more}
use Rattle.heap_calendar.proofs.queue.Queue.put_back.Goals as goal
use Rattle.heap_calendar.proofs.queue.Queue.put_back.Goals.{in-Some, in_default}

pub loop-h-preserved : goal.loop-h-preserved
loop-h-preserved g c =
    let all = c.args.all.now in
    let i = c.loop-h.h-index in
    let inv = c.loop-h.invariant in
    elim c.match-f.branch [
      | in-Some w ↦ record {
        held = λ k t e. given_more k e all i blank.held w.in-Some.changed _ _ c.loop-h-test.true c.requires.sorted (sym (t _ _ c.f.ensures) ∙ w.in-Some.is) (inv.held k t e)
            (ap (λ (q : Line). q.held) w.self-is ∙ w.push.ensures.held);
        fits = omega (arith, ap (λ (q : Line). length q.held) w.self-is, ap length w.push.ensures.held, length_insert key_of_held w.in-Some.changed c.loop-h.self.held, inv.fits);
        ages = omega (arith, ap (λ (q : Line). q.next) w.self-is, w.push.ensures.next, inv.ages);
      }
      | in_default w ↦ record {
        held = λ k t e. ap (λ (q : Line). q.held) w.self-is ∙ none_more k e all i blank.held _ c.loop-h-test.true (sym (t _ _ c.f.ensures) ∙ w.in_default.is) (inv.held k t e);
        fits = omega (arith, ap (λ (q : Line). length q.held) w.self-is, inv.fits);
        ages = omega (arith, ap (λ (q : Line). q.next) w.self-is, inv.ages);
      }
    ]
