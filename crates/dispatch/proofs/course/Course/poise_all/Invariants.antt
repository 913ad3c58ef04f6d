-- The variants so far have been read.
use Rattle.dispatch.specs.Courses.{PoisesFirst}
use Rattle.dispatch.proofs.course.Course.poise_all.Given as goal

abbrev pub invariant-loop-variant : goal.invariant-loop-variant
invariant-loop-variant l = PoisesFirst l.self.study l.self.model l.self.variants.items l.place l.variant-index l.all.items
