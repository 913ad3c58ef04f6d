-- The head of the bucket has its first.
use Rattle.std.proofs.Common.{◌≡◌, ◌<◌, ◌%◌, ◌/◌, sym, ◌∙◌, subst, arith}
use Rattle.std.proofs.lemmas.Option.{none-some, same_Some}
use Rattle.bucket_calendar.proofs.Firsts.{head_slot}
use Rattle.bucket_calendar.proofs.chains.Chains.first_in.Goals as goal

pub returns-in_err-s-clause-none : goal.returns-in_err-s-clause-none
returns-in_err-s-clause-none c e s f =
    let b : c.args.span % 64 < 64 = omega arith in
    absurd (none-some s (sym c.in_err-s.was ∙ c.slot_at.ensures ∙ head_slot c.args.self.now.heads c.args.self.now.next c.args.pool.now (c.args.span % 64) b c.requires ∙ f))

pub returns-then-s-span-clause-some : goal.returns-then-s-span-clause-some
returns-then-s-span-clause-some c s e =
    let b : c.args.span % 64 < 64 = omega arith in (
      sym (head_slot c.args.self.now.heads c.args.self.now.next c.args.pool.now (c.args.span % 64) b c.requires) ∙ sym c.slot_at.ensures ∙ c.in_ok-s.was ∙ e,
      subst (λ t. t.held.message.time / 64 ≡ c.args.span) (same_Some _ _ e) c.if-s-span.true,
    )

pub returns-else-s-span-clause-none : goal.returns-else-s-span-clause-none
returns-else-s-span-clause-none c e s f g =
    let b : c.args.span % 64 < 64 = omega arith in
    let z = same_Some _ _ (sym c.in_ok-s.was ∙ c.slot_at.ensures ∙ head_slot c.args.self.now.heads c.args.self.now.next c.args.pool.now (c.args.span % 64) b c.requires ∙ f) in
    c.if-s-span.false (subst (λ t. t.held.message.time / 64 ≡ c.args.span) (sym z) g)
