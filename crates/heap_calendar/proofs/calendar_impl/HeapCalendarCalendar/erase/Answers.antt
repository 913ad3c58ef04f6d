-- Each goes on without v, if some variant still waits for it.
use Rattle.std.proofs.Common.{◌≡◌, Bool, true, false, ◌∙◌, sym, refl, ap, rules, arith}
use Rattle.std.specs.Bool.{then_some}
use Rattle.std.specs.Prelude.{IfSome}
use Rattle.std.proofs.lemmas.Bool.{lt-ltb, cond-true}
use Rattle.calendar.specs.Calls.{key_of_held, leaves, wanted}
use Rattle.calendar.specs.Contents.{holding}
use Rattle.calendar.specs.declared.Held.{Held}
use Rattle.heap_calendar.specs.Laws.{contents_of}
use Rattle.heap_calendar.proofs.Backs.{passing_given}
use Rattle.heap_calendar.proofs.calendar_impl.HeapCalendarCalendar.erase.Goals as goal

-- what is left keeps its key
same_key : (v : _) (x : Held) (b : Bool) → IfSome (then_some b (leaves v x)) (λ y. key_of_held y ≡ key_of_held x)
same_key v x true = refl
same_key v x false = tt

pub returns-then-v-lt-VARIANTS : goal.returns-then-v-lt-VARIANTS
returns-then-v-lt-VARIANTS c =
    let s = c.args.self.now in
    let v = c.args.v in
    ap (λ l. holding l (contents_of s))
    (c.change.ensures.held (λ (x : Held). then_some (wanted (leaves v x)) (leaves v x)) (search rules) (λ x. same_key v x (wanted (leaves v x)))
    ∙ passing_given (leaves v) wanted s.queue.held ∙ sym (cond-true _ _ _ (lt-ltb v 16 (omega arith))))
