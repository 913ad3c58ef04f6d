-- The chain passes over the messages in turn.
use Rattle.std.proofs.Common.{◌∙◌, rules, tests}
use Rattle.std.proofs.lemmas.Iterator.{YieldsList-from_slice}
use Rattle.std.proofs.lemmas.Iterator.Search.{all_from_yields_List}
use Rattle.calendar.specs.declared.Held.{Held}
use Rattle.copies.proofs.Groups.{alike, together_listed}
use Rattle.copies.proofs.counting.stay_together.Goals as goal

pub returns : goal.returns
returns c =
    all_from_yields_List (λ (h : Held). alike c.args.x c.args.y h.group) _ _ c.all.result c.all.ensures.ran (YieldsList-from_slice c.args.heads.now c.iter.ensures.rest) (λ h b q k. search (rules, tests))
    ∙ together_listed c.args.heads.now c.args.x c.args.y
