-- The first, or a place in its bucket's chain.
use Rattle.std.proofs.Common.{◌≡◌, true, false, Some, None, sym, ap, ◌∙◌, rules}
use Rattle.std.specs.Option.{option_map}
use Rattle.std.specs.Bool.{then_some}
use Rattle.std.specs.List.{slice_get}
use Rattle.event.specs.Keys.{same}
use Rattle.event.specs.Lists.{rest}
use Rattle.calendar.specs.Calls.{leading}
use Rattle.slot.specs.Rank.{ranked}
use Rattle.slot.specs.Slots.{earlier, key_of_slot, bare, in_order}
use Rattle.slot.specs.Passes.{likewise}
use Rattle.slot.proofs.Puts.{look_first}
use Rattle.slot.proofs.Picks.{first_rest}
use Rattle.bucket_calendar.specs.Buckets.{bucket_of, row_of}
use Rattle.bucket_calendar.proofs.Looks.{look_near}
use Rattle.bucket_calendar.proofs.buckets.Buckets.look.Goals as goal

pub returns-then-i-eq0 : goal.returns-then-i-eq0
returns-then-i-eq0 c =
    let xs = c.self.inside.pool.items in
    let x = c.in_ok-first.first in
    let f = first_rest (ranked earlier xs) x (sym c.in_ok-first.was ∙ c.self.invariant.1.known) in
    rw (← c.self.view_is) (look_first xs x (rest (ranked earlier xs)) f ∙ ap (slice_get (leading (in_order xs))) (sym c.if-i-eq0.true))

pub returns-in_err-other : goal.returns-in_err-other
returns-in_err-other c =
    let xs = c.self.inside.pool.items in
    let x = c.in_ok-first.first in
    let i = c.args.i in
    let r : None ≡ slice_get (row_of (bucket_of x) xs) i =
    c.in_err-other.ensures ∙ ap (λ b. slice_get (row_of b c.deref.result.now) i) c.bucket.ensures.value ∙ ap (λ l. slice_get (row_of (bucket_of x) l) i) c.deref.ensures.value in
    rw (← c.self.view_is) (c.from_residual-in_err-other.ensures ∙ ap (λ o. option_map bare (likewise (key_of_slot x) o)) r ∙ look_near xs x i (sym (sym c.in_ok-first.was ∙ c.self.invariant.1.known)))

pub returns-then-eq : goal.returns-then-eq
unfolding same
returns-then-eq c =
    let xs = c.self.inside.pool.items in
    let x = c.in_ok-first.first in
    let y = c.in_ok-other.other in
    let i = c.args.i in
    let r : Some y ≡ slice_get (row_of (bucket_of x) xs) i =
    c.in_ok-other.ensures ∙ ap (λ b. slice_get (row_of b c.deref.result.now) i) c.bucket.ensures.value ∙ ap (λ l. slice_get (row_of (bucket_of x) l) i) c.deref.ensures.value in
    let t : true ≡ same (key_of_slot x) (key_of_slot y) = search rules in
    rw (← c.self.view_is) (ap (λ b. option_map bare (then_some b y)) t ∙ ap (λ o. option_map bare (likewise (key_of_slot x) o)) r ∙ look_near xs x i (sym (sym c.in_ok-first.was ∙ c.self.invariant.1.known)))

pub returns-else-eq : goal.returns-else-eq
unfolding same
returns-else-eq c =
    let xs = c.self.inside.pool.items in
    let x = c.in_ok-first.first in
    let y = c.in_ok-other.other in
    let i = c.args.i in
    let r : Some y ≡ slice_get (row_of (bucket_of x) xs) i =
    c.in_ok-other.ensures ∙ ap (λ b. slice_get (row_of b c.deref.result.now) i) c.bucket.ensures.value ∙ ap (λ l. slice_get (row_of (bucket_of x) l) i) c.deref.ensures.value in
    let t : false ≡ same (key_of_slot x) (key_of_slot y) = search rules in
    rw (← c.self.view_is) (ap (λ b. option_map bare (then_some b y)) t ∙ ap (λ o. option_map bare (likewise (key_of_slot x) o)) r ∙ look_near xs x i (sym (sym c.in_ok-first.was ∙ c.self.invariant.1.known)))
