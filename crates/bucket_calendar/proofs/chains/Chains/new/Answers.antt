-- No chain of nothing has a place.
use Rattle.bucket_calendar.proofs.Firsts.{none_linked}
use Rattle.bucket_calendar.proofs.chains.Chains.new.Goals as goal

pub returns : goal.returns
returns c = none_linked
