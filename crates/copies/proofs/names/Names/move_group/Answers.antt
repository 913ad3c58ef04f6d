-- Who has gone there shares with all that are there, and the count of parted places changes with this one.
use Rattle.std.proofs.Common.{◌≡◌, ◌+◌, ◌||◌, ap, ◌∙◌, rules, arith}
use Rattle.std.proofs.lemmas.Bool.{cond-false, ne_eqb}
use Rattle.group.specs.Groups.{has}
use Rattle.account.specs.Account.{ind}
use Rattle.copies.specs.Rows.{parted_places}
use Rattle.copies.proofs.Beside.{moved_shared}
use Rattle.copies.proofs.Numbers.{ind_few}
use Rattle.copies.proofs.Wholes.{few_parted, parted_recounted}
use Rattle.copies.proofs.names.Names.move_group.Goals as goal

-- with the place counted both before and after
even : (c : goal.After-from-2) → c.args.self.now.parted + c.from.result ≡ parted_places c.share_row.new.sharing + c.from-2.result
even c =
    let old = c.args.self.now in
    let was : c.from.result ≡ ind c.all_share-was_whole.result = search rules in
    let is : c.from-2.result ≡ ind c.all_share-is_whole.result = search rules in
    let a = was ∙ ap ind c.all_share-was_whole.ensures in
    let b = is ∙ ap ind c.all_share-is_whole.ensures in
    let d = parted_recounted old.sharing c.share_row.new.sharing c.args.p old.parted c.requires.place old.counted (λ q m ne w. c.share_row.ensures 0 q w (omega arith) m ∙ cond-false _ _ _ (ne_eqb q c.args.p ne)) in
    omega (arith, a, b, d)

pub invariant_of-self : goal.invariant_of-self
invariant_of-self c =
    let old = c.args.self.now in
    record {
      inside = c.fill_row.ensures.inside;
      shared = moved_shared old.rows c.fill_row.new.rows old.sharing c.share_row.new.sharing c.args.group c.union-there.result c.args.p c.args.c old.shared
          (λ w. c.union-there.ensures.members w ∙ ap (λ b. b || has c.args.group w) (c.holders.ensures w)) (λ w q. ap (λ f. f w q) c.fill_row.ensures.cells) c.share_row.ensures;
      counted = let e = even c in omega (arith, e);
    }

pub overflow_add-self : goal.overflow_add-self
overflow_add-self c =
    let few = few_parted c.args.self.now.sharing in
    let was : c.from.result ≡ ind c.all_share-was_whole.result = search rules in
    let a = ind_few c.all_share-was_whole.result in
    omega (arith, few, was, a, c.args.self.now.counted)

pub overflow_sub-self : goal.overflow_sub-self
overflow_sub-self c = let e = even c in omega (arith, e)
