-- One more is passed.
use Rattle.std.proofs.Common.{◌<◌, length, arith, rules}
use Rattle.bucket_calendar.proofs.Cuts.{walk_in, walk_on}
use Rattle.bucket_calendar.proofs.chains.last_before.Goals as goal

pub bounds-pool-k : goal.bounds-pool-k
bounds-pool-k c =
    let h = c.requires.chain in
    walk_in _ _ _ _ _ _ (c.loop.invariant h.places h.runs) (λ p. p < length c.args.pool.now) c.in-Some.k c.in-Some.is h.within

pub bounds-next-k : goal.bounds-next-k
bounds-next-k c =
    let h = c.requires.chain in
    let k = walk_in _ _ _ _ _ _ (c.loop.invariant h.places h.runs) (λ p. p < length c.args.pool.now) c.in-Some.k c.in-Some.is h.within in
    omega (arith, k, c.requires.few)

pub loop-preserved : goal.loop-preserved
loop-preserved c ps h = walk_on _ _ _ _ _ _ (c.loop.invariant ps h) c.in-Some.k c.in-Some.is (search rules)
