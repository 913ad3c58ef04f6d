-- The study stands between the two calls as the branch has left it.
use Rattle.std.proofs.Common.{rules}
use Rattle.dispatch.proofs.studied.branch.Goals as goal

pub returns-in-Ok : goal.returns-in-Ok
returns-in-Ok c = record {
  between = c.branch-study.new.self;
  branched = search rules;
  child = search rules;
  ordered = search rules;
  kept = search rules;
}
