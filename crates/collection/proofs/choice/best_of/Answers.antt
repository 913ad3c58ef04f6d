-- One fold over all farms is one over those that wait.
use Rattle.std.proofs.Common.{◌≡◌, ◌-◌, Bool, true, false, if◌then◌else◌, List, [], ◌∷◌, fold, filter, None, refl, ap, ◌∙◌, rules}
use Rattle.std.specs.List.{range_with_len}
use Rattle.std.proofs.lemmas.Iterator.{YieldsList-from_range}
use Rattle.std.proofs.lemmas.Iterator.Consumers.{fold_from_yields_List}
use Rattle.collection.specs.Bits.{has}
use Rattle.collection.specs.Choice.{preferred, rather}
use Rattle.collection.proofs.choice.best_of.Goals as goal

fold_kept : {X Y : Type 0} (f : Y → X → Y) (p : X → Bool) (y : Y) (xs : List X) → fold (λ b x. if p x then f b x else b) y xs ≡ fold f y (filter p xs)
fold_kept f p y [] = refl
fold_kept {X} {Y} f p y (x ∷ xs) = go (λ z. fold_kept f p z xs) (p x)
  where
    go : ((z : Y) → fold (λ b x. if p x then f b x else b) z xs ≡ fold f z (filter p xs)) → (c : Bool) → fold (λ b x. if p x then f b x else b) (if c then f y x else y) xs ≡ fold f y (if c then x ∷ filter p xs else filter p xs)
    go ih true = ih (f y x)
    go ih false = ih y

pub returns : goal.returns
returns c =
    let ahead = preferred c.args.order in
    let w = c.args.waiting in
    let r = c.args.farms in
    fold_from_yields_List _ (λ best i. if has w i then rather ahead i best else best) None c.fold.result c.fold.ensures.ran (YieldsList-from_range r.start r.«end» (r.«end» - r.start) refl refl) (λ a x b q k. search rules)
    ∙ fold_kept (λ best i. rather ahead i best) (has w) None (range_with_len r.start (r.«end» - r.start))
