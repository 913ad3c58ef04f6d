-- One more variant is noted.
use Rattle.std.proofs.Common.{slice_index_or, rules}
use Rattle.dispatch.specs.Courses.{Noted, SameDay, blank_poised}
use Rattle.dispatch.proofs.Noting.{none_noted, one_noted}
use Rattle.dispatch.proofs.course.Course.note_all.Goals as goal

pub loop-before-init : goal.loop-before-init
loop-before-init c =
    let s = c.args.self.now in
    record { same = search rules; noted = none_noted s.study s.model c.args.all.now c.args.place s.partings.items }

pub loop-before-preserved : goal.loop-before-preserved
loop-before-preserved c =
    let s = c.args.self.now in
    let d = c.loop-before.self in
    let n = c.loop-before.before-index in
    let same : SameDay c.args.self.now c.loop-before.self = c.loop-before.invariant.same in
    let noted : Noted d.study d.model c.args.all.now (slice_index_or c.args.all.now n blank_poised) c.args.place d.partings.items c.note.new.self.partings.items = search rules in
    record {
      same = search rules;
      noted = one_noted s d c.args.all.now c.args.place n s.partings.items d.partings.items c.note.new.self.partings.items same c.loop-before.invariant.noted noted;
    }
