-- The list is the one with m inserted, so it has the laws of insertion.
use Rattle.std.proofs.Common.{◌≡◌, ◌∷◌, filter, sym, ap, ◌∙◌, subst, rules}
use Rattle.std.specs.List.Sorted.{IsPermutation}
use Rattle.event.specs.Keys.{key_of}
use Rattle.event.specs.Lists.{insert, Sorted}
use Rattle.event.proofs.Insertion.{sorted_insert, shuffled_insert, kept_by_insert}
use Rattle.event.proofs.insert_by_key.Goals as goal

is_inserted : (c : goal.After-map_err) → c.insert.new.self.items ≡ insert key_of c.args.m c.args.list.now.items
is_inserted c = search rules

pub returns-clause-sorted : goal.returns-clause-sorted
returns-clause-sorted c s = subst (Sorted key_of) (sym (is_inserted c)) (sorted_insert key_of c.args.m c.args.list.now.items s)

pub returns-clause-shuffled : goal.returns-clause-shuffled
returns-clause-shuffled c _ = subst (IsPermutation (c.args.m ∷ c.args.list.now.items)) (sym (is_inserted c)) (shuffled_insert key_of c.args.m c.args.list.now.items)

pub returns-clause-filtered : goal.returns-clause-filtered
returns-clause-filtered c _ s p = ap (filter p) (is_inserted c) ∙ kept_by_insert key_of p c.args.m c.args.list.now.items s
