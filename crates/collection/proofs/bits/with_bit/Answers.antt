-- The mask has one bit.
use Rattle.std.proofs.Common.{◌≡◌, ◌*◌, ◌%◌, ◌^◌, ap, ◌∙◌}
use lib.Bits.{bit_or}
use Rattle.std.proofs.lemmas.Nat.{one_shl}
use Rattle.collection.specs.Bits.{has, with}
use Rattle.collection.proofs.Masks.{or_with, has_with}
use Rattle.collection.proofs.bits.with_bit.Goals as goal

pub returns : goal.returns
returns c =
    let w = c.args.word in
    let i = c.args.bit in
    let is : bit_or w ((1 * 2 ^ i) % 2 ^ 32) ≡ with w i = ap (bit_or w) (one_shl i 32 c.requires) ∙ or_with w i in
    record { value = is; bits = λ k. ap (λ x. has x k) is ∙ has_with w i k }
