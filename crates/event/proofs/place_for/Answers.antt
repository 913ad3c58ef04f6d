-- The search finds the first that m comes before.
use Rattle.std.proofs.Common.{◌≡◌, ℕ, ◌≤◌, ltb, cond, length, Some, None, rules, sym, ap, ◌∙◌, arith}
use Rattle.std.specs.List.{insert as inserted, position_or_len}
use Rattle.std.specs.Option.{unwrap_or}
use Rattle.std.proofs.lemmas.Bool.Decides.{nat_tests}
use Rattle.std.proofs.lemmas.Iterator.{YieldsList-from_slice}
use Rattle.std.proofs.lemmas.Iterator.Search.{position_from_yields_List}
use Rattle.std.proofs.lemmas.List.Sums.{prefix_len-le-length}
use Rattle.event.specs.declared.Message.{Message}
use Rattle.event.specs.Keys.{key_of, before}
use Rattle.event.proofs.Insertion.{insert_at_first}
use Rattle.event.proofs.place_for.Goals as goal

-- the place that is found, or the end
found_or_end : (i n : ℕ) → i ≤ n → unwrap_or (cond (ltb i n) (Some i) None) n ≡ i
found_or_end i n h = grind (arith, nat_tests)

pub returns-clause-value : goal.returns-clause-value
returns-clause-value c =
    let m = c.args.m.now in
    let list = c.args.list.now in
    let test = λ (x : Message). before (key_of m) (key_of x) in
    let found = position_from_yields_List test _ _ c.position.result c.position.ensures.ran (YieldsList-from_slice list cc) (λ x b q k. search rules) in
    let is = c.unwrap_or.ensures ∙ ap (λ r. unwrap_or r (length list)) found ∙ found_or_end (position_or_len test list) (length list) (prefix_len-le-length _ list) in
    insert_at_first key_of m list ∙ ap (λ i. inserted list i m) (sym is)
