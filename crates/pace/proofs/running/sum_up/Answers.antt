use Rattle.pace.specs.Checksums.{nobody, one_more}
use Rattle.pace.proofs.running.sum_up.Goals as goal

pub loop-v-init : goal.loop-v-init
loop-v-init g c = nobody

pub loop-v-preserved : goal.loop-v-preserved
loop-v-preserved g c = one_more c.in_ok-count.count c.in_ok-count.sum c.loop-v.invariant c.in_ok-count.ensures
