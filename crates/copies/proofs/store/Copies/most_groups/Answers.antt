-- At other places than this one, all that share go on to share.
use Rattle.std.proofs.Common.{ℕ, ◌+◌, eqb, not, ◌||◌, ◌&&◌, ap, rules, arith}
use Rattle.std.proofs.lemmas.Bool.{and_from}
use Rattle.std.proofs.lemmas.Nat.{mul-le}
use Rattle.group.specs.Groups.{has}
use Rattle.copies.proofs.Leads.{few_counted}
use Rattle.copies.specs.Cells.{cell_of}
use Rattle.copies.specs.Rows.{is_whole_at}
use Rattle.copies.specs.Sharing.{shares, shares_decided, shares_stepped, together}
use Rattle.copies.proofs.Wholes.{most, past_whole, told, whole_shared}
use Rattle.copies.proofs.store.Copies.most_groups.Goals as goal

pub returns-clause-stepped : goal.returns-clause-stepped
returns-clause-stepped c =
    let names = c.args.self.now.names in
    let cell = cell_of c.args.self.now in
    let parted = λ (p : ℕ). not (is_whole_at c.args.self.now.names.sharing p) in
    λ heads. most c.args.live (shares_stepped cell heads c.args.place) parted c.args.place c.args.places c.parted_places.result _ (λ p l. ap not (past_whole names.sharing p l))
    (λ p e k x y a b. and_from (shares cell p x y) _ (whole_shared names p (told (is_whole_at names.sharing p) k) x y a b) (ap (λ d. not d || together heads x y) e)) c.parted_places.ensures.value (search rules)

pub returns-clause-decided : goal.returns-clause-decided
returns-clause-decided c =
    let names = c.args.self.now.names in
    let cell = cell_of c.args.self.now in
    let parted = λ (p : ℕ). not (is_whole_at c.args.self.now.names.sharing p) in
    λ v. most c.args.live (shares_decided cell v c.args.place) parted c.args.place c.args.places c.parted_places.result _ (λ p l. ap not (past_whole names.sharing p l))
    (λ p e k x y a b. and_from (shares cell p x y) _ (whole_shared names p (told (is_whole_at names.sharing p) k) x y a b) (ap (λ d. not (d && (not (eqb x y) && (eqb x v || eqb y v)))) e)) c.parted_places.ensures.value (search rules)

pub overflow_mul-result : goal.overflow_mul-result
overflow_mul-result c =
    let n = few_counted (has c.args.live) 16 in
    let a = c.parted_places.ensures.few in
    let d = mul-le (c.parted_places.result + 1) c.size.result 33 16 (omega (arith, a)) (omega (arith, n, c.size.ensures)) in
    search (rules, d)

pub overflow_add-result-2 : goal.overflow_add-result-2
overflow_add-result-2 c =
    let n = few_counted (has c.args.live) 16 in
    let a = c.parted_places.ensures.few in
    let d = mul-le (c.parted_places.result + 1) c.size.result 33 16 (omega (arith, a)) (omega (arith, n, c.size.ensures)) in
    search (rules, d)
