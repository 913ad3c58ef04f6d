-- A chain reaches what is reached, after any accepted calls.
use Rattle.std.proofs.Common.{◌≡◌, ℕ, true, false, sym, refl, ap, ◌∙◌, ⊎_elim}
use Rattle.std.proofs.lemmas.Bool.{cases_Bool}
use Rattle.model.specs.Meaning.{Meaning, Law}
use Rattle.account.specs.Account.{Account, Call, load, branch, decide, waive, step, retire, reading, fed, Accepted, After, begun, one_more}
use Rattle.account.specs.Sound.{Sound, Faithful}
use Rattle.account.specs.Chain.{pair}
use Rattle.account.specs.Claims.{ChainStands, UntouchedSame}
use Rattle.account.proofs.After.{sound_after, alone_stands}
use Rattle.account.proofs.Clock.{Clock, empty_clock, load_clock, branch_clock, decide_clock, retire_clock, step_clock}
use Rattle.account.proofs.Chains.{Chained, Live, empty_chained, load_chained, branch_chained, decide_chained, waive_chained, retire_chained}
use Rattle.account.proofs.ChainStep.{step_chained}

fed_clock : (M : Meaning) → Law M → (A : Account) (c : Call) → Accepted M A c → Sound M A → Clock A → Clock (fed M A c)
fed_clock M law A (load l end) a s k = load_clock M A l end
fed_clock M law A (branch v) a s k = branch_clock A v a.0 k
fed_clock M law A (decide v place value) a s k = decide_clock A v place value k
fed_clock M law A (waive v) a s k = k
fed_clock M law A step a s k = step_clock M law A s k
fed_clock M law A (retire v) a s k = retire_clock A v k
fed_clock M law A (reading r) a s k = k

pub clock_after : {M : Meaning} {A : Account} → Law M → After M A → Clock A
clock_after {M} law begun = empty_clock M
clock_after {M} law (one_more {A} c h a) = fed_clock M law A c a (sound_after law h) (clock_after law h)

fed_chained : (M : Meaning) → Law M → (A : Account) (c : Call) → Accepted M A c → Sound M A → Faithful M A → Clock A → Chained M A → Chained M (fed M A c)
fed_chained M law A (load l end) a s f k c = load_chained M A l end
fed_chained M law A (branch v) a s f k c = branch_chained M A v a.0 c
fed_chained M law A (decide v place value) a s f k c = decide_chained M A v place value a.1 a.0 c refl (s.given v a.0)
fed_chained M law A (waive v) a s f k c = waive_chained M A v c
fed_chained M law A step a s f k c = step_chained M law A s f k c
fed_chained M law A (retire v) a s f k c = retire_chained M A v c
fed_chained M law A (reading r) a s f k c = c

pub chained_after : {M : Meaning} {A : Account} → Law M → After M A → Chained M A
chained_after {M} law begun = empty_chained M
chained_after {M} law (one_more {A} c h a) = fed_chained M law A c a (sound_after law h) (alone_stands M A law h) (clock_after law h) (chained_after law h)

pub chain_stands : ChainStands
chain_stands M A law h = record {
  to = λ v w p a b. c.reached_to (pair v w) p (both v w a b);
  back = λ v w p t a b. c.reached_from (pair v w) p t (both v w a b);
  marked_to = λ v w k m a b f h. c.marked_to (pair v w) true k m (both v w a b) h f;
  marked_back = λ v w k m a b. c.marked_from (pair v w) true k m (both v w a b);
  joint_to = λ v w i a b. c.joint_to (pair v w) i (both v w a b);
  joint_back = λ v w i j m a b. c.joint_from (pair v w) i j m (both v w a b);
}
  where
    c : Chained M A
    c = chained_after law h

    both : (v w : ℕ) → A.live v ≡ true → A.live w ≡ true → Live A (pair v w)
    both v w a b true = a
    both v w a b false = b

pub untouched_same : UntouchedSame
untouched_same M A law h v w p lv lw n =
    ap (λ d. d.place p) (sym ((f v lv).day))
    ∙ (sound_after law h).place_same v w p lv lw (⊎_elim (λ t. let T = (chain_stands M A law h).to v w p lv lw t in absurd (n T.0 T.1)) (λ t. t) (cases_Bool (A.reached v w p)))
    ∙ ap (λ d. d.place p) ((f w lw).day)
  where
    f : Faithful M A
    f = alone_stands M A law h
