-- What is still wanted stays.
use Rattle.std.proofs.Common.{filter, sym, ap, ◌∙◌, arith, rules}
use Rattle.std.proofs.lemmas.Fn.{filter_same}
use Rattle.std.proofs.lemmas.Bool.{lt-ltb, cond-true}
use Rattle.calendar.specs.Calls.{wanted}
use Rattle.journal.proofs.Journal.erase.Goals as goal

pub returns-then-v-lt-VARIANTS : goal.returns-then-v-lt-VARIANTS
returns-then-v-lt-VARIANTS c =
    let v = c.args.v in
    rw (← c.self.view_is) (filter_same _ wanted _ (λ x b f k. search rules) _ _ c.retain.ensures.filtered ∙ ap (filter wanted) c.leave_all.ensures.items ∙ sym (cond-true _ _ _ (lt-ltb v 16 (omega arith))))
