-- An empty pool is sound.
use Rattle.std.proofs.Common.{arith}
use Rattle.bucket_calendar.proofs.Moves.{sound_none}
use Rattle.bucket_calendar.proofs.buckets.Buckets.clear.Goals as goal

pub invariant_of-self : goal.invariant_of-self
invariant_of-self c = (omega (arith, c.clear.ensures.capacity, c.self.invariant.0), sound_none 0 _ _ _ c.clear.ensures.items c.new-self-inside.ensures)
