-- The smallest that is left leads, and is left no more.
use Rattle.std.proofs.Common.{◌≡◌, ℕ, ◌<◌, true, false, ◌&&◌, not, sym, ap, ◌∙◌}
use Rattle.std.proofs.lemmas.Bool.{and_parts}
use Rattle.group.specs.Groups.{has}
use Rattle.copies.specs.Cells.{cell_of}
use Rattle.copies.proofs.Leaders.{parted_more, parted_fewer}
use Rattle.copies.proofs.Members.{fewer, member_small}
use Rattle.copies.proofs.store.Copies.leaders_of.Goals as goal

pub loop-v-preserved : goal.loop-v-preserved
loop-v-preserved c =
    let v = c.in-Some.v in
    let m : (has c.loop-v.rest c.in-Some.v ≡ true) × ((w : ℕ) → w < c.in-Some.v → has c.loop-v.rest w ≡ false) = c.in-Some.ensures in
    parted_more (cell_of c.args.self.now) c.args.group c.args.p c.loop-v.leaders c.loop-v.rest c.with-leaders.result c.difference-rest.result v c.loop-v.invariant m.0 m.1 c.with-leaders.ensures.members
    (λ w. c.difference-rest.ensures.members w ∙ ap (λ g. has c.loop-v.rest w && not (has g w)) c.sharers.ensures)

pub loop-v-smaller : goal.loop-v-smaller
loop-v-smaller c =
    let v = c.in-Some.v in
    let rest = c.loop-v.rest in
    let m : (has c.loop-v.rest c.in-Some.v ≡ true) × ((w : ℕ) → w < c.in-Some.v → has c.loop-v.rest w ≡ false) = c.in-Some.ensures in
    let is = λ (w : ℕ). c.difference-rest.ensures.members w ∙ ap (λ g. has c.loop-v.rest w && not (has g w)) c.sharers.ensures in
    fewer (has rest) (has c.difference-rest.result) 16 v (λ w e. (and_parts (has rest w) _ (sym (is w) ∙ e)).0) (member_small rest v m.0) m.0
    (parted_fewer (cell_of c.args.self.now) c.args.group c.args.p c.loop-v.leaders rest c.with-leaders.result c.difference-rest.result v c.loop-v.invariant m.0 m.1 c.with-leaders.ensures.members is)
