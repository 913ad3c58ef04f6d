-- The fold sets one tanker's bit after the other.
use Rattle.std.proofs.Common.{◌≡◌, ℕ, zero, suc, ◌+◌, [], ◌∷◌, fold, refl, ap, ◌∙◌, rules, arith}
use Rattle.std.specs.List.{range_with_len}
use Rattle.std.proofs.lemmas.Iterator.{YieldsList-from_range}
use Rattle.std.proofs.lemmas.Iterator.Consumers.{fold_from_yields_List}
use Rattle.std.proofs.lemmas.List.Sums.{fold-append}
use Rattle.collection.specs.Bits.{has, with}
use Rattle.collection.specs.Dairy.{all_free_word}
use Rattle.collection.specs.Picking.{range_more}
use Rattle.collection.proofs.Masks.{has_all_free}
use Rattle.collection.proofs.Collection.all_free.Goals as goal

folded : (t : ℕ) → fold with 0 (range_with_len 1 t) ≡ all_free_word t
folded zero = refl
folded (suc t) =
    ap (fold with 0) (range_more 1 t) ∙ fold-append with 0 (range_with_len 1 t) ((1 + t) ∷ [])
    ∙ ap (λ w. with w (1 + t)) (folded t) ∙ ap (with (all_free_word t)) (let e : 1 + t ≡ suc t = omega arith in e)

pub returns : goal.returns
returns c =
    let t = c.args.self.now.tankers in
    let is : c.fold.result ≡ all_free_word t =
    fold_from_yields_List _ with 0 c.fold.result c.fold.ensures.ran (YieldsList-from_range 1 (t + 1) t refl (omega arith)) (λ a x b q k. search rules) ∙ folded t in
    record { value = is; bits = λ k. ap (λ x. has x k) is ∙ has_all_free t k }
