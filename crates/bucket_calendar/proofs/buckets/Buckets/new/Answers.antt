-- An empty pool is sound.
use Rattle.bucket_calendar.proofs.Moves.{sound_none}
use Rattle.bucket_calendar.proofs.buckets.Buckets.new.Goals as goal

pub invariant_of-result-2 : goal.invariant_of-result-2
invariant_of-result-2 c =
    let e = c.in_ok-with_capacity.ensures in
    (e.exact, sound_none 0 _ _ _ e.items c.new.ensures)
