-- What is not refused fits, so there is room, and what waits is in time and goes to a place.
use Rattle.std.proofs.Common.{◌<◌, ◌≤◌, List, vec_items, arith}
use Rattle.event.specs.declared.Message.{Message}
use Rattle.event.specs.declared.Start.{Start}
use Rattle.day.proofs.Loading.{load_fits, starts_wait}
use Rattle.day.proofs.lone.LoneDay.begin.Goals as goal

pub starting_list-requires : goal.starting_list-requires
starting_list-requires g c =
    let fits = load_fits c.args.limits.places c.args.limits.capacity c.args.limits.end c.args.starts.now c.requires.fits in
    let few = fits.1.few in
    omega arith

pub invariant_of-waiting : goal.invariant_of-waiting
invariant_of-waiting g c =
    let limits = c.args.limits in
    let starts : List Start = c.args.starts.now in
    let waiting : List Message = vec_items c.in_ok-messages.messages in
    let fits = load_fits limits.places limits.capacity limits.end starts c.requires.fits in
    let most : limits.places ≤ 32 = omega (arith, c.requires.places, (g.met.M.Model.law c.args.model).most) in
    let listed = c.in_ok-messages.ensures in
    record {
      room = listed.1;
      ended = fits.0;
      timely = starts_wait (λ s. s.time ≤ limits.end) (λ m. m.time ≤ limits.end) (λ n s h. h) (omega arith) starts waiting listed.0 fits.1.timely;
      placed = starts_wait (λ s. s.receiver < limits.places) (λ m. m.receiver < 32) (λ n s h. omega arith) (omega arith) starts waiting listed.0 fits.1.placed;
    }
