use Rattle.std.proofs.Common.{rules}
use Rattle.account.specs.Account.{step}
use Rattle.pace.proofs.Service.{goes_on}
use Rattle.pace.proofs.running.step.Goals as goal

pub returns-in-Ok-eq0-clause-keeps : goal.returns-in-Ok-eq0-clause-keeps
returns-in-Ok-eq0-clause-keeps g c i = goes_on g.C.Calendar.meaning g.M.Model.meaning c.loop-i.study c.step.new.self step c.step.ensures.keeps (c.loop-i.invariant.keeps i)

pub returns-in-Ok-eq0-2-clause-keeps : goal.returns-in-Ok-eq0-2-clause-keeps
returns-in-Ok-eq0-2-clause-keeps g c i = goes_on g.C.Calendar.meaning g.M.Model.meaning c.loop-i.study c.step.new.self step c.step.ensures.keeps (c.loop-i.invariant.keeps i)

pub loop-i-preserved : goal.loop-i-preserved
loop-i-preserved g c = record {
  same = search rules;
  keeps = λ i. goes_on g.C.Calendar.meaning g.M.Model.meaning c.loop-i.study c.step.new.self step c.step.ensures.keeps (c.loop-i.invariant.keeps i);
  alone = λ starts end n. c.step.ensures.alone starts end (c.loop-i.invariant.alone starts end n);
}
