-- What the first message does is the event, and the day stays alone and tidy.
use Rattle.std.proofs.Common.{sym, subst}
use Rattle.day.specs.Alone.{Alone}
use Rattle.day.specs.Tidy.{Tidy}
use Rattle.day.proofs.Alone.{alone_event}
use Rattle.day.proofs.Tidy.{tidy_event}
use Rattle.day.proofs.lone.LoneDay.event.Goals as goal

pub returns-clause-alone : goal.returns-clause-alone
returns-clause-alone g c = λ starts orders a. subst (Alone _ _ starts orders) (sym c.run_first.ensures.day) (alone_event _ _ starts orders _ a)

pub returns-clause-tidy : goal.returns-clause-tidy
returns-clause-tidy g c = λ t. subst (Tidy _) (sym c.run_first.ensures.day) (tidy_event _ (g.met.M.Model.law c.args.self.now.model) _ _ t)
