-- The first i events have run.
use Rattle.std.proofs.Common.{◌≡◌}
use Rattle.collection.specs.Rules.{meaning_of}
use Rattle.day.specs.Held.{SameSetting, day_of}
use Rattle.day.specs.Runs.{events}
use Rattle.dispatch.proofs.alone.run_events.Given as goal

abbrev pub invariant-loop-i : goal.invariant-loop-i
invariant-loop-i l = SameSetting l.initial.day l.day
    × (day_of (meaning_of l.initial.day.model.farms l.initial.day.model.tankers) l.day
    ≡ events (meaning_of l.initial.day.model.farms l.initial.day.model.tankers) l.initial.day.waiting.«end» l.i (day_of (meaning_of l.initial.day.model.farms l.initial.day.model.tankers) l.initial.day))
