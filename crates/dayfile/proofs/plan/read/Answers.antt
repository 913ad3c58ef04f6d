-- A plan that is read is sound, and is read back from its text.
use Rattle.std.proofs.Common.{rules}
use Rattle.text.proofs.Cuts.{length_lines}
use Rattle.dayfile.proofs.Soundness.{sound_answer}
use Rattle.dayfile.proofs.ReadBack.{answered}
use Rattle.dayfile.proofs.plan.read.Goals as goal

pub loop-line-init : goal.loop-line-init
loop-line-init c = let bound = length_lines c.args.text.now in search rules

pub returns-in_err-take-clause-back : goal.returns-in_err-take-clause-back
returns-in_err-take-clause-back c = answered c.args.text.now _ (search rules)

pub returns-clause-sound : goal.returns-clause-sound
returns-clause-sound c = sound_answer c.args.text.now _ (search rules)

pub returns-clause-back : goal.returns-clause-back
returns-clause-back c = answered c.args.text.now _ (search rules)
