-- One more is passed.
use Rattle.std.proofs.Common.{◌<◌, ◌∙◌, ap, arith}
use Rattle.std.specs.List.{slice_get}
use Rattle.bucket_calendar.proofs.Cuts.{walk_in, walk_on, walk_nth, walk_short}
use Rattle.bucket_calendar.proofs.chains.nth_place.Goals as goal

pub returns-in_default : goal.returns-in_default
returns-in_default c ps r = walk_short _ _ _ _ _ _ (c.loop.invariant ps r).1 c.args.i c.in_default.is (omega (arith, c.loop-test.true))

pub bounds-next-k : goal.bounds-next-k
bounds-next-k c = let h = c.requires in walk_in _ _ _ _ _ _ (c.loop.invariant h.places h.runs).1 (λ p. p < 512) c.in-Some.k c.in-Some.is h.within

pub loop-preserved : goal.loop-preserved
loop-preserved c ps r = (_, walk_on _ _ _ _ _ _ (c.loop.invariant ps r).1 c.in-Some.k c.in-Some.is tt)

pub returns : goal.returns
returns c ps r = walk_nth _ _ _ _ _ _ (c.loop.invariant ps r).1 ∙ ap (slice_get ps) (omega (arith, c.loop-test.false, c.loop.auto.counter-end))
