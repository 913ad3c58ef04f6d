-- No bit above the last is set.
use Rattle.std.proofs.Common.{le-ltb, ◌/◌, ◌^◌, ◌==◌, sym, ap, ◌∙◌}
use Rattle.std.proofs.lemmas.Nat.{and_mask}
use Rattle.collection.proofs.Masks.{has_above}
use Rattle.collection.proofs.bits.has_bit.Goals as goal

pub returns-then-bit-lt32 : goal.returns-then-bit-lt32
returns-then-bit-lt32 c = ap (λ x. x == 1) (and_mask (c.args.word / 2 ^ c.args.bit) 1)

pub returns-else-bit-lt32 : goal.returns-else-bit-lt32
returns-else-bit-lt32 c = le-ltb c.args.bit 32 c.if-bit-lt32.false ∙ sym (has_above 32 c.args.word c.args.bit c.ranges.word.fits c.if-bit-lt32.false)
