-- What the chain makes of the waiting farms is the choice of the order.
use Rattle.std.proofs.Common.{◌≡◌, ◌+◌, ◌-◌, fold, filter, None, sym, ◌∙◌, subst, arith}
use Rattle.std.specs.List.{range_with_len}
use Rattle.collection.specs.Bits.{has}
use Rattle.collection.specs.Choice.{Farthest, Smallest, Nearest, Chosen, chosen_farm_of, preferred, rather}
use Rattle.collection.specs.Picking.{pick_folds}
use Rattle.collection.proofs.Orders.{farthest, smallest, nearest}
use Rattle.collection.proofs.Collection.chosen_farm.Goals as goal

pub returns : goal.returns
returns c =
    let order = c.args.order in
    let w = c.args.waiting in
    let f = c.args.self.now.farms in
    let all : f + 1 - 1 ≡ f = omega arith in
    let found : c.best_of.result ≡ fold (λ best i. rather (preferred order) i best) None (filter (has w) (range_with_len 1 f)) = rw all at c.best_of.ensures in
    let is : c.best_of.result ≡ chosen_farm_of order w f = found ∙ sym (pick_folds (preferred order) w f) in
    record {
      value = is;
      farthest = λ e. subst (Chosen Farthest w f) (sym is) (farthest order w f e);
      smallest = λ e. subst (Chosen Smallest w f) (sym is) (smallest order w f e);
      nearest = λ d e. subst (Chosen Nearest w f) (sym is) (nearest order w f d e);
    }
