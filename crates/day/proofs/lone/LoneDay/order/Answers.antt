-- The day stays alone and tidy.
use Rattle.std.proofs.Common.{sym, subst}
use Rattle.day.specs.Alone.{Alone}
use Rattle.day.specs.Tidy.{Tidy}
use Rattle.day.proofs.Alone.{alone_order}
use Rattle.day.proofs.Tidy.{tidy_order}
use Rattle.day.proofs.lone.LoneDay.order.Goals as goal

pub returns-clause-alone : goal.returns-clause-alone
returns-clause-alone g c = λ _ starts orders a. subst (Alone _ _ starts _) (sym c.set_order.ensures.day) (alone_order _ _ starts orders _ c.args.place c.args.value a)

pub returns-clause-tidy : goal.returns-clause-tidy
returns-clause-tidy g c = λ t. subst (Tidy _) (sym c.set_order.ensures.day) (tidy_order _ _ c.args.place c.args.value t)
