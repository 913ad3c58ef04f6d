use Rattle.std.proofs.Common.{◌<◌, ◌≤◌, rules, arith}
use Rattle.std.proofs.lemmas.Nat.{mul-le}
use Rattle.group.specs.Groups.{has}
use Rattle.copies.proofs.Leads.{few_counted}
use Rattle.study.proofs.Study.has_copies_for_all.Goals as goal

pub overflow_mul-result : goal.overflow_mul-result
overflow_mul-result g c =
    let n = few_counted (has c.args.self.now.register.live) 16 in
    let a : c.from.result < 256 = search rules in
    let b : c.size.result ≤ 16 = search (rules, n) in
    let d = mul-le c.from.result c.size.result 255 16 (omega (arith, a)) b in
    search (rules, d)
