-- The mask lacks one bit.
use Rattle.std.proofs.Common.{◌≡◌, ◌-◌, ◌*◌, ◌%◌, ◌^◌, ap, ◌∙◌, arith}
use lib.Bits.{bit_and}
use Rattle.std.proofs.lemmas.Nat.{one_shl}
use Rattle.collection.specs.Bits.{has, without}
use Rattle.collection.proofs.Masks.{and_without, has_without}
use Rattle.collection.proofs.bits.without_bit.Goals as goal

pub returns : goal.returns
returns c =
    let w = c.args.word in
    let i = c.args.bit in
    let is : bit_and w (2 ^ 32 - 1 - (1 * 2 ^ i) % 2 ^ 32) ≡ without w i =
    ap (λ x. bit_and w (2 ^ 32 - 1 - x)) (one_shl i 32 c.requires) ∙ and_without 32 w i (omega arith) c.requires in
    record { value = is; bits = λ k. ap (λ x. has x k) is ∙ has_without w i k }
