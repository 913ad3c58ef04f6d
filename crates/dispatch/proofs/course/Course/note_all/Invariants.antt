-- What has parted the places of the variants so far is noted.
use Rattle.dispatch.specs.Courses.{NotedFirst, SameDay}
use Rattle.dispatch.proofs.course.Course.note_all.Given as goal

abbrev pub invariant-loop-before : goal.invariant-loop-before
invariant-loop-before l = record {
  same : SameDay l.initial.self l.self;
  noted : NotedFirst l.initial.self.study l.initial.self.model l.all l.place l.before-index l.initial.self.partings.items l.self.partings.items;
}
