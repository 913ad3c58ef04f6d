-- The smallest that is left has its turn.
use Rattle.std.proofs.Common.{◌≡◌, ℕ, ◌+◌, ◌<◌, true, false, refl, ◌∙◌}
use Rattle.group.specs.Groups.{has}
use Rattle.copies.proofs.Members.{fewer, from_all, from_next, next_of_group, reached, member_small, left_by, gone}
use Rattle.study.proofs.Turns.{turned_none, turned_more, turned_up}
use Rattle.study.proofs.Study.run_turns.Goals as goal

pub loop-v-init : goal.loop-v-init
loop-v-init g c = record {
  n = 0;
  from = from_all (has c.args.leaders);
  same = record { model = refl; room = refl };
  heads = refl;
  held = turned_none g.C.Calendar.meaning g.M.Model.meaning c.args.self.now c.args.leaders;
}

pub loop-v-preserved : goal.loop-v-preserved
loop-v-preserved g c =
    let v = c.in-Some.v in
    let h = c.loop-v.invariant in
    let old = c.args.self.now in
    let leaders = c.args.leaders in
    let rest = has c.loop-v.rest in
    let m : (has c.loop-v.rest c.in-Some.v ≡ true) × ((w : ℕ) → w < c.in-Some.v → has c.loop-v.rest w ≡ false) = c.in-Some.ensures in
    let small = member_small c.loop-v.rest v m.0 in
    let member = next_of_group (has leaders) rest h.n h.from (λ w. true) v m.0 in
    let there = turned_up g.C.Calendar.meaning g.M.Model.meaning old leaders c.loop-v.self rest h.n v h.from (reached (has leaders) rest h.n v h.from m.0) m.1 h.held in
    record {
      n = v + 1;
      from = from_next (has leaders) rest (has c.without-rest.result) h.n v h.from small m.0 m.1 c.without-rest.ensures.members;
      same = record { model = c.run_turn.ensures.same.model ∙ h.same.model; room = c.run_turn.ensures.same.room ∙ h.same.room };
      heads = c.run_turn.ensures.heads ∙ h.heads;
      held = turned_more g.C.Calendar.meaning g.M.Model.meaning old leaders c.loop-v.self c.run_turn.new.self v small member h.same h.heads there c.run_turn.ensures.held;
    }

pub loop-v-smaller : goal.loop-v-smaller
loop-v-smaller g c =
    let v = c.in-Some.v in
    let m : (has c.loop-v.rest c.in-Some.v ≡ true) × ((w : ℕ) → w < c.in-Some.v → has c.loop-v.rest w ≡ false) = c.in-Some.ensures in
    fewer (has c.loop-v.rest) (has c.without-rest.result) 16 v (left_by c.loop-v.rest c.without-rest.result v c.without-rest.ensures.members) (member_small c.loop-v.rest v m.0) m.0 (gone c.loop-v.rest c.without-rest.result v c.without-rest.ensures.members)

pub returns-clause-held : goal.returns-clause-held
returns-clause-held g c =
    let none : (w : ℕ) → has c.loop-v.rest w ≡ false = c.in_default.ensures in
    let h = c.loop-v.invariant in
    turned_up g.C.Calendar.meaning g.M.Model.meaning c.args.self.now c.args.leaders c.loop-v.self (has c.loop-v.rest) h.n 16 h.from h.from.small (λ w l. none w) h.held
