-- The first free tanker has the smallest number.
use Rattle.std.proofs.Common.{◌≡◌, ◌+◌, ◌-◌, sym, subst, arith}
use Rattle.std.specs.List.{find, range_with_len}
use Rattle.collection.specs.Bits.{has}
use Rattle.collection.specs.Choice.{Smallest, Chosen, free_tanker_of}
use Rattle.collection.specs.Picking.{find_smallest, only_smallest, smallest}
use Rattle.collection.proofs.Collection.free_tanker.Goals as goal

pub returns : goal.returns
returns c =
    let w = c.args.free in
    let t = c.args.self.now.tankers in
    let all : t + 1 - 1 ≡ t = omega arith in
    let found : c.first_of.result ≡ find (has w) (range_with_len 1 t) = rw all at c.first_of.ensures in
    let right : Chosen Smallest w t c.first_of.result = subst (Chosen Smallest w t) (sym found) (find_smallest w t) in
    record { value = only_smallest w t c.first_of.result (free_tanker_of w t) right (smallest w t); smallest = right }
