-- As many as the pool has.
use Rattle.std.proofs.Common.{sym, ◌∙◌}
use Rattle.slot.proofs.Holds.{length_in_order}
use Rattle.bucket_calendar.proofs.buckets.Buckets.len.Goals as goal

pub returns : goal.returns
returns c =
    let s = c.self.inside in
    rw (← c.self.view_is) (c.len.ensures ∙ s.pool.ok.0 ∙ sym (length_in_order s.pool.items))
