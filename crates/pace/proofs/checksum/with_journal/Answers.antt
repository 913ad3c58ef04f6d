use Rattle.pace.specs.Checksums.{none, next}
use Rattle.pace.proofs.checksum.with_journal.Goals as goal

pub loop-i-init : goal.loop-i-init
loop-i-init g c = none

pub loop-i-preserved : goal.loop-i-preserved
loop-i-preserved g c = next c.in_ok-entry.field-0 c.loop-i.invariant c.in_ok-entry.ensures.told c.with_message-all.ensures
