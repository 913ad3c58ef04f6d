-- The cell of v is marked if v is live.
use Rattle.std.proofs.Common.{◌≡◌, ℕ, Bool, ◌&&◌, ◌||◌, true, false, eqb, get_or, sym, ap, ◌∙◌, rules}
use Rattle.group.specs.Groups.{has}
use Rattle.copies.specs.Cells.{cell_of}
use Rattle.copies.proofs.Marks.{any_none, one_marked, none_marked}
use Rattle.copies.proofs.store.Copies.mark.Goals as goal
use Rattle.copies.proofs.store.Copies.mark.Goals.{then-has, else-has}

pub loop-v-init : goal.loop-v-init
loop-v-init c = λ k l. sym (ap (λ b. b || get_or c.args.marks.now k false) (any_none _))

pub loop-v-preserved : goal.loop-v-preserved
loop-v-preserved c = λ k l.
    let v = c.loop-v.v in
    let live = c.args.live in
    let cell = cell_of c.args.self.now in
    let F : ℕ → Bool = λ u. has live u && eqb (cell u c.args.p) k in
    let before = get_or c.args.marks.now k false in
    let old = c.loop-v.invariant k l in
    elim c.if-has.branch [
      | then-has w ↦
          let is : has live v ≡ true = sym c.has.ensures.value ∙ w.if-has.true in
          let there : w.from.result ≡ cell v c.args.p = search rules in
          let e = ap (λ b. b && eqb (cell v c.args.p) k) is ∙ ap (λ j. eqb j k) (sym there) in
          ap (λ m. get_or m k false) w.marks-is ∙ one_marked c.loop-v.marks w.from.result k F v before (search rules) e old
      | else-has w ↦
          let is : has live v ≡ false = sym c.has.ensures.value ∙ w.if-has.false in
          ap (λ m. get_or m k false) w.marks-is ∙ none_marked F v before _ (ap (λ b. b && eqb (cell v c.args.p) k) is) old
    ]
