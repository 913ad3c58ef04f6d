-- One more is passed.
use Rattle.std.proofs.Common.{◌≡◌, ◌<◌, get_or, None, Some, ◌∙◌, ap, arith, rules}
use Rattle.std.proofs.lemmas.Option.{same_Some}
use Rattle.bucket_calendar.proofs.Cuts.{walk_in, walk_on, walk_found, passed_none, passed_full}
use Rattle.bucket_calendar.proofs.chains.leads_to.Goals as goal

pub returns-in_default-clause-none : goal.returns-in_default-clause-none
returns-in_default-clause-none c e ps r n = passed_none _ _ _ _ _ _ (c.loop.invariant.1 ps r).1 c.in_default.is

pub bounds-next-k : goal.bounds-next-k
bounds-next-k c = let h = c.requires.chain in walk_in _ _ _ _ _ _ (c.loop.invariant.1 h.places h.runs).1 (λ p. p < 512) c.in-Some.k c.in-Some.is h.within

pub returns-then-eq-clause-some : goal.returns-then-eq-clause-some
returns-then-eq-clause-some c k e ps r =
    let f : get_or c.args.next.now c.in-Some.k None ≡ Some c.args.place = search rules in
    rw (← same_Some _ _ e) (walk_found _ _ _ _ _ _ (c.loop.invariant.1 ps r).1 c.in-Some.k c.args.place c.in-Some.is f)

pub bounds-next-k-in-loop : goal.bounds-next-k-in-loop
bounds-next-k-in-loop c = let h = c.requires.chain in walk_in _ _ _ _ _ _ (c.loop.invariant.1 h.places h.runs).1 (λ p. p < 512) c.in-Some.k c.in-Some.is h.within

pub loop-preserved : goal.loop-preserved
loop-preserved c =
    let f : get_or c.args.next.now c.in-Some.k None ≡ Some c.args.place → ⊥ = search rules in
    (f, λ ps r. (_, walk_on _ _ _ _ _ _ (c.loop.invariant.1 ps r).1 c.in-Some.k c.in-Some.is (λ z. c.loop.invariant.0 (c.in-Some.is ∙ ap Some z))))

pub returns-clause-none : goal.returns-clause-none
returns-clause-none c e ps r n = passed_full _ _ _ _ _ _ (c.loop.invariant.1 ps r).1 (omega (arith, n, c.loop-test.false))
