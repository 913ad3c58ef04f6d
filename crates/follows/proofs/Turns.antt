-- What is known at the turn of a variant that leads, in a step that is not refused.
use Rattle.std.proofs.Common.{◌≡◌, ℕ, ◌+◌, ◌*◌, ◌<◌, ◌≤◌, true, refl, sym, ap, ◌∙◌, subst, Option, Some, None}
use Rattle.std.proofs.lemmas.Bool.{cond-false, ltb-false}
use Rattle.event.specs.declared.Key.{Key}
use Rattle.event.specs.Lists.{first}
use Rattle.calendar.specs.declared.Held.{Held}
use Rattle.calendar.specs.Calls.{waiting}
use Rattle.model.specs.Meaning.{Meaning, Law}
use Rattle.account.specs.Account.{Account, step, least, leads_run, fed_step_at}
use Rattle.account.specs.Refusals.{NoneMet, cases, crowded}
use Rattle.account.specs.Groups.{copies, entries, held, taken, worked}
use Rattle.account.specs.Sound.{Sound}
use Rattle.account.proofs.After.{sound_after}
use Rattle.account.proofs.Refusing.{none_met}
use Rattle.account.proofs.Step.{step_sound_at}
use Rattle.follows.specs.View.{View}
use Rattle.follows.specs.Follows.{Follows}
use Rattle.follows.specs.Steps.{head_key, with_key, took_all, leads_in, turns}
use Rattle.follows.specs.Claims.{before_turn}
use Rattle.follows.specs.Accounted.{Accounted}
use Rattle.follows.specs.Refusing.{refusal_of}
use Rattle.follows.proofs.Free.{step_finds}
use Rattle.follows.proofs.Leading.{led_apart, to_group}
use Rattle.follows.proofs.Mid.{Mid}
use Rattle.follows.proofs.Refusing.{refusal_same}
use Rattle.follows.proofs.Step.{Head, head_of, inside, leads_same, turns_mid}
use Rattle.follows.proofs.Taking.{least_head}

-- a step of the key k that is not refused
pub record Allowed (M : Meaning) (capacity : ℕ) (A : Account) (k : Key) : Type 0 where
  pub smallest : least A 16 ≡ Some k
  pub roomy : held A + 2 * worked A k ≤ capacity + taken A k
  pub written : entries (fed_step_at M A (Some k)) ≤ 2048
  pub copied : copies M (fed_step_at M A (Some k)) ≤ 128

pub step_allowed : (M : Meaning) (capacity : ℕ) → Law M → (V : View) (A : Account) → Accounted M capacity V A → refusal_of M capacity V step ≡ None → (k : Key) → head_key V.held ≡ Some k → Allowed M capacity A k
step_allowed M capacity law V A a e k head = record {
  smallest = is;
  roomy = ltb-false _ _ (sym (ap (crowded capacity A) is) ∙ m.1.0);
  written = subst (λ (o : Option Key). entries (fed_step_at M A o) ≤ 2048) is (ltb-false 2048 _ m.1.1.0);
  copied = subst (λ (o : Option Key). copies M (fed_step_at M A o) ≤ 128) is (ltb-false 128 _ m.1.1.1.0);
}
  where
    is : least A 16 ≡ Some k
    is = least_head M A (sound_after law a.after) V.held a.follows.messages ∙ head

    m : NoneMet (cases M capacity A step)
    m = none_met (cases M capacity A step) (sym (refusal_same M capacity law V A (sound_after law a.after) a.follows step) ∙ e)

before_first : (M : Meaning) (V : View) (k : Key) → before_turn M V k 0 ≡ took_all V k
unfolding turns
before_first M V k = refl

-- who leads is told by who runs, at every turn alike
pub stays : (M : Meaning) (capacity : ℕ) (law : Law M) (V : View) (A : Account) (a : Accounted M capacity V A) (k : Key) → Allowed M capacity A k → (n : ℕ) (o : Option Held) → first (waiting n (with_key k V.held)) ≡ o
    → leads_in (before_turn M V k n) n o ≡ leads_in V n o
stays M capacity law V A a k allowed n None is = refl
stays M capacity law V A a k allowed n (Some h) is =
    let s = sound_after law a.after in
    let f = a.follows in
    let e = allowed.smallest in
    let m = turns_mid M law A s k e V f (step_finds M law A s k e V f allowed.copied) in
    let d = head_of M law A s k e V f n h is in
    leads_same M law A s k e V f n h d n (before_turn M V k n) (m n) ∙ sym (leads_same M law A s k e V f n h d 0 (before_turn M V k 0) (m 0)) ∙ ap (λ W. leads_in W n (Some h)) (before_first M V k)

module _ (M : Meaning) (capacity : ℕ) (law : Law M) (V : View) (A : Account) (a : Accounted M capacity V A) (k : Key) (allowed : Allowed M capacity A k)
    (n : ℕ) (h : Held) (is : first (waiting n (with_key k V.held)) ≡ Some h) (leads : leads_in (before_turn M V k n) n (Some h) ≡ true) where
  abbrev pub s : Sound M A
  s = sound_after law a.after

  abbrev pub f : Follows M V A
  f = a.follows

  pub mid : Mid M A k n (before_turn M V k n)
  mid = turns_mid M law A s k allowed.smallest V f (step_finds M law A s k allowed.smallest V f allowed.copied) n

  pub head : Head M law A s k allowed.smallest V f n h
  head = head_of M law A s k allowed.smallest V f n h is

  pub receives : h.message.receiver < M.places
  receives = inside M law A s k allowed.smallest V f n h head

  pub led : leads_run A k n ≡ true
  led = sym (leads_same M law A s k allowed.smallest V f n h head n (before_turn M V k n) mid) ∙ leads

  -- n's cell still holds what n has there, since n has not had its event
  pub holds : (before_turn M V k n).content ((before_turn M V k n).cell n h.message.receiver) ≡ (A.day n).place h.message.receiver
  holds =
      mid.cells.holds n h.message.receiver head.alive receives
      ∙ cond-false _ _ _ (led_apart M law A s k allowed.smallest n n head.alive led (to_group M law A s k allowed.smallest n n head.alive ((step_sound_at M law A s k allowed.smallest).reached_self n k.receiver)))
