-- Number i of the chain's places has number i of the bucket's slots.
use Rattle.std.proofs.Common.{◌<◌, ◌∙◌, ap, arith, length}
use Rattle.std.proofs.ByRecursion.{All-weaker}
use Rattle.std.specs.List.{slice_get}
use Rattle.bucket_calendar.specs.Chains.{slot_at}
use Rattle.bucket_calendar.proofs.Firsts.{slots_get}
use Rattle.bucket_calendar.proofs.chains.Chains.nth.Goals as goal

pub nth_place-requires : goal.nth_place-requires
nth_place-requires c =
    let d = c.requires.linked in
    let b = c.args.b in
    record {
      places = d.row b;
      runs = d.runs b c.requires.within;
      within = All-weaker (λ p. p < length c.args.pool.now) (λ p. p < 512) (λ p e. omega (arith, e, c.requires.few)) (d.row b) (d.within b c.requires.within);
    }

pub returns : goal.returns
returns c =
    let d = c.requires.linked in
    let b = c.args.b in
    let xs = c.args.pool.now in
    let i = c.args.i in
    c.slot_at.ensures ∙ ap (slot_at xs) (c.nth_place.ensures (d.row b) (d.runs b c.requires.within)) ∙ slots_get xs (d.row b) i (d.within b c.requires.within) ∙ ap (λ l. slice_get l i) (d.listed b c.requires.within)
