-- The worked history, computed.
use Rattle.std.proofs.Common.{refl}
use Rattle.event.specs.Keys.{before, same}
use Rattle.account.specs.Account.{least, runs, sends, any_below, sum_below}
use Rattle.worked.specs.History.{WorkedHistory}

pub worked : WorkedHistory
unfolding least runs sends any_below sum_below before same
worked = record {
  told = refl;
  totals = refl;
  nearest = refl;
  farthest = refl;
  shares = refl;
  groups = (refl, refl);
  dairies = (refl, refl);
  tankers = (refl, refl);
  nothing_waits = (refl, refl);
}
