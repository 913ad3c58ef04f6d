-- The smallest that is left goes over, and at the end all of the group have.
use Rattle.std.proofs.Common.{◌≡◌, ℕ, ◌<◌, true, false, ◌&&◌, not, cond, eqb, ap, ◌∙◌, sym}
use Rattle.group.specs.Groups.{has}
use Rattle.copies.specs.Rows.{cell_at}
use Rattle.copies.specs.Sharing.{move_cell}
use Rattle.copies.proofs.Rows.{same_cells, none_over, one_over, all_over}
use Rattle.copies.proofs.Members.{fewer, member_small, left_by, gone}
use Rattle.copies.proofs.names.fill_row.Goals as goal

pub loop-v-init : goal.loop-v-init
loop-v-init c = record { left = λ w e. e; cells = λ w q. none_over (has c.args.group w) (eqb q c.args.p) c.args.c (cell_at c.args.rows.now w q); inside = c.requires.inside }

pub loop-v-preserved : goal.loop-v-preserved
loop-v-preserved c =
    let v = c.in-Some.v in
    let rest = c.loop-v.rest in
    let m : (has c.loop-v.rest c.in-Some.v ≡ true) × ((w : ℕ) → w < c.in-Some.v → has c.loop-v.rest w ≡ false) = c.in-Some.ensures in
    let is = c.without-rest.ensures.members in
    record {
      left = λ w e. c.loop-v.invariant.left w (left_by rest c.without-rest.result v is w e);
      cells = λ w q.
          c.set.ensures.cells w q
          ∙ one_over (has c.args.group) (has rest) v w (eqb q c.args.p) c.args.c (cell_at c.loop-v.rows w q) (cell_at c.args.rows.now w q) (c.loop-v.invariant.left v m.0) (c.loop-v.invariant.cells w q)
          ∙ sym (ap (λ b. cond ((has c.args.group w && not b) && eqb q c.args.p) c.args.c (cell_at c.args.rows.now w q)) (is w));
      inside = c.set.ensures.inside;
    }

pub loop-v-smaller : goal.loop-v-smaller
loop-v-smaller c =
    let v = c.in-Some.v in
    let m : (has c.loop-v.rest c.in-Some.v ≡ true) × ((w : ℕ) → w < c.in-Some.v → has c.loop-v.rest w ≡ false) = c.in-Some.ensures in
    fewer (has c.loop-v.rest) (has c.without-rest.result) 16 v (left_by c.loop-v.rest c.without-rest.result v c.without-rest.ensures.members) (member_small c.loop-v.rest v m.0) m.0 (gone c.loop-v.rest c.without-rest.result v c.without-rest.ensures.members)

pub returns-clause-cells : goal.returns-clause-cells
returns-clause-cells c =
    let none : (w : ℕ) → has c.loop-v.rest w ≡ false = c.in_default.ensures in
    let g = c.args.group in
    let p = c.args.p in
    let old = cell_at c.args.rows.now in
    same_cells _ (move_cell old g p c.args.c) (λ w q. c.loop-v.invariant.cells w q ∙ all_over (has g w) (has c.loop-v.rest w) (eqb q p) c.args.c (old w q) (none w))

pub set-requires-clause-variant : goal.set-requires-clause-variant
set-requires-clause-variant c =
    let m : (has c.loop-v.rest c.in-Some.v ≡ true) × ((w : ℕ) → w < c.in-Some.v → has c.loop-v.rest w ≡ false) = c.in-Some.ensures in
    member_small c.loop-v.rest c.in-Some.v m.0
