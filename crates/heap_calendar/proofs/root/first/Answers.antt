-- The root, or what stands first below it.
use Rattle.std.proofs.Common.{◌≡◌, sym, ap, ◌∙◌, subst}
use Rattle.std.specs.List.{slice_get}
use Rattle.std.specs.Option.{option_map}
use Rattle.std.specs.Prelude.{IfSome}
use Rattle.std.proofs.lemmas.Option.{slice_get-map}
use Rattle.slot.specs.Rank.{ranked}
use Rattle.slot.specs.Slots.{earlier}
use Rattle.heap_calendar.specs.Entries.{slots, slot_of, Fits}
use Rattle.heap_calendar.specs.Totals.{standing}
use Rattle.heap_calendar.proofs.Moves.{first_fits}
use Rattle.heap_calendar.proofs.Thirds.{root_at, below_at}
use Rattle.heap_calendar.proofs.root.first.Goals as goal

pub returns-then-taken-clause-slot : goal.returns-then-taken-clause-slot
returns-then-taken-clause-slot c =
    let xs = slots c.args.pool.now c.args.all.now in
    c.below_root.ensures.slot ∙ below_at xs 0 c.requires.heap ∙ sym (ap (λ b. slice_get (ranked earlier (standing b xs)) 0) c.if-taken.true)

pub returns-else-taken-clause-fit : goal.returns-else-taken-clause-fit
returns-else-taken-clause-fit c =
    let e : c.copied.result ≡ slice_get c.args.all.now 0 = c.copied.ensures ∙ c.first.ensures.value in
    subst (λ o. IfSome o (Fits c.args.pool.now)) (sym e) (first_fits c.args.pool.now c.args.all.now c.requires.fit)

pub returns-else-taken-clause-slot : goal.returns-else-taken-clause-slot
returns-else-taken-clause-slot c =
    let xs = slots c.args.pool.now c.args.all.now in
    let e : c.copied.result ≡ slice_get c.args.all.now 0 = c.copied.ensures ∙ c.first.ensures.value in
    ap (option_map (slot_of c.args.pool.now)) e ∙ sym (slice_get-map (slot_of c.args.pool.now) c.args.all.now 0)
    ∙ root_at xs c.requires.heap ∙ sym (ap (λ b. slice_get (ranked earlier (standing b xs)) 0) c.if-taken.false)
