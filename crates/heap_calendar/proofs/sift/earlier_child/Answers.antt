-- The other child does not come before it.
use Rattle.std.proofs.Common.{◌+◌, ◌-◌, ◌*◌, inl, sym, ◌∙◌, arith}
use Rattle.std.proofs.lemmas.List.{length-set}
use Rattle.slot.specs.Slots.{earlier}
use Rattle.slot.specs.Laws.{strictly}
use Rattle.heap_calendar.specs.Entries.{slots}
use Rattle.heap_calendar.proofs.Sifts.{child_is, alone, one_of, other_of}
use Rattle.heap_calendar.proofs.Moves.{many, at_slots}
use Rattle.heap_calendar.proofs.sift.earlier_child.Goals as goal
use Rattle.heap_calendar.proofs.sift.earlier_child.Goals.{else-right-all-via-then-right-all+else-precedes, else-right-all-via-else-right-all}

pub returns-then-precedes-clause-earlier : goal.returns-then-precedes-clause-earlier
returns-then-precedes-clause-earlier c = λ x k d a b f.
    let es = c.args.all.now in
    let pool = c.args.pool.now in
    let r = 2 * c.args.at + 2 in
    let p = c.if-right-all.true in
    let m = many pool es in
    let h = strictly.one_way _ _ (sym c.if-precedes.ensures) in
    child_is (slots pool es) c.args.at r (r - 1) (omega arith) (omega arith) (omega arith) (omega arith)
    ((λ i. earlier (at_slots pool es (r - 1) (omega arith) i) (at_slots pool es r p i)) ∙ h) x k d (one_of k r (r - 1) (omega arith) (omega arith) (omega arith))

pub returns-else-right-all-clause-earlier : goal.returns-else-right-all-clause-earlier
returns-else-right-all-clause-earlier c = λ x k d a b f.
    let es = c.args.all.now in
    let pool = c.args.pool.now in
    let r = 2 * c.args.at + 2 in
    let m = many pool es in
    let n = length-set (slots pool es) c.args.at x in
    let w = c.requires.within in
    elim c.else-right-all.branch [
      | else-right-all-via-then-right-all+else-precedes w ↦
          let p = w.if-right-all.true in
          child_is (slots pool es) c.args.at (r - 1) r (omega arith) (omega arith) (omega arith) (omega arith)
          ((λ i. earlier (at_slots pool es r p i) (at_slots pool es (r - 1) (omega arith) i)) ∙ sym w.if-precedes.ensures) x k d (other_of k (r - 1) r (omega arith) (omega arith) (omega arith))
      | else-right-all-via-else-right-all w ↦
          let p = w.if-right-all.false in
          child_is (slots pool es) c.args.at (r - 1) (r - 1) (omega arith) (omega arith) (omega arith) (omega arith) (alone (r - 1) (slots pool es)) x k d (inl (omega arith))
    ]
