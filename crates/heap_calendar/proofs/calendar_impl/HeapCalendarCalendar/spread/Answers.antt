-- Each is kept, with c where v is.
use Rattle.std.proofs.Common.{◌∙◌, Some, ap, rules}
use Rattle.event.specs.Keys.{key_of}
use Rattle.calendar.specs.Calls.{joins}
use Rattle.calendar.specs.Contents.{holding}
use Rattle.calendar.specs.declared.Held.{Held}
use Rattle.calendar.proofs.Variants.{joins_message}
use Rattle.heap_calendar.specs.Laws.{contents_of}
use Rattle.heap_calendar.proofs.Backs.{all_given}
use Rattle.heap_calendar.proofs.calendar_impl.HeapCalendarCalendar.spread.Goals as goal

pub returns : goal.returns
returns c =
    let s = c.args.self.now in
    let v = c.args.v in
    let k = c.args.c in
    ap (λ l. holding l (contents_of s))
    (c.change.ensures.held (λ (x : Held). Some (joins v k x)) (search rules) (λ x. ap key_of (joins_message v k x)) ∙ all_given (joins v k) s.queue.held)
