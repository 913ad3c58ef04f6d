use Rattle.std.proofs.Common.{rules, ◌≡◌, ◌++◌, ◌∷◌, [], ap, sym, ◌∙◌}
use Rattle.pace.specs.Starts.{milked_at}
use Rattle.pace.proofs.Listed.{listed_none, listed_more}
use Rattle.pace.proofs.starts.milked.Goals as goal

pub loop-i-init : goal.loop-i-init
loop-i-init c = c.new-starts.ensures.items ∙ sym (listed_none _)

pub loop-i-preserved : goal.loop-i-preserved
loop-i-preserved c =
    let f = milked_at c.args.farms in
    let e : c.push.new.self.items ≡ c.loop-i.starts.items ++ f c.loop-i.i ∷ [] = search rules in
    e ∙ ap (λ l. l ++ f c.loop-i.i ∷ []) c.loop-i.invariant ∙ sym (listed_more f c.loop-i.i)
