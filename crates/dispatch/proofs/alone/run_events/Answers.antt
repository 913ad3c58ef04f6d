-- One more event has run.
use Rattle.std.proofs.Common.{◌≡◌, ◌+◌, rules, add-one, refl}
use Rattle.collection.specs.Rules.{meaning_of}
use Rattle.day.specs.Held.{SameSetting, day_of}
use Rattle.day.specs.Day.{event}
use Rattle.day.specs.Runs.{events}
use Rattle.dispatch.proofs.alone.run_events.Goals as goal

pub loop-i-preserved : goal.loop-i-preserved
loop-i-preserved c =
    let d = c.args.day.now in
    let M = meaning_of d.model.farms d.model.tankers in
    let same : SameSetting d c.loop-i.day = c.loop-i.invariant.0 in
    let before : day_of M c.loop-i.day ≡ events M d.waiting.«end» c.loop-i.i (day_of M d) = c.loop-i.invariant.1 in
    let ran : day_of (meaning_of c.loop-i.day.model.farms c.loop-i.day.model.tankers) c.event.new.self ≡ event (meaning_of c.loop-i.day.model.farms c.loop-i.day.model.tankers) c.loop-i.day.waiting.«end» (day_of (meaning_of c.loop-i.day.model.farms c.loop-i.day.model.tankers) c.loop-i.day) = search rules in
    let next : events M d.waiting.«end» (c.loop-i.i + 1) (day_of M d) ≡ event M d.waiting.«end» (events M d.waiting.«end» c.loop-i.i (day_of M d)) = rw add-one refl in
    let here : day_of M c.event.new.self ≡ event M d.waiting.«end» (day_of M c.loop-i.day) = rw (same.0, same.1.0) at ran in
    (search rules, rw (next, ← before) here)
