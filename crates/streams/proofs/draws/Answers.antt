-- A fold over the range draws once for each number.
use Rattle.std.proofs.Common.{◌≡◌, ℕ, zero, suc, ◌+◌, fold, refl, ap, ◌∙◌, rules, arith}
use Rattle.std.specs.List.{range_with_len}
use Rattle.std.proofs.lemmas.Iterator.{YieldsList-from_range}
use Rattle.std.proofs.lemmas.Iterator.Consumers.{fold_from_yields_List}
use Rattle.streams.specs.Draws.{draw_of, draws_of}
use Rattle.streams.proofs.draws.Goals as goal

shift : (n x : ℕ) → draws_of n (draw_of x) ≡ draw_of (draws_of n x)
unfolding draws_of
shift zero x = refl
shift (suc n) x = ap draw_of (shift n x)

folded : (a n x : ℕ) → fold (λ last _. draw_of last) x (range_with_len a n) ≡ draws_of n x
unfolding draws_of
folded a zero x = refl
folded a (suc n) x = folded (a + 1) n (draw_of x) ∙ shift n x

pub returns : goal.returns
returns c =
    fold_from_yields_List _ (λ last _. draw_of last) c.args.x c.fold.result c.fold.ensures.ran (YieldsList-from_range 0 c.args.n c.args.n refl (omega arith)) (λ a x b q k. search rules)
    ∙ folded 0 c.args.n c.args.x
