-- A group's run and the turns of a step, by what they leave.
use Rattle.std.proofs.Common.{◌≡◌, ℕ, zero, suc, ◌+◌, ◌^◌, ◌<◌, ◌≤◌, ⊎_elim, Bool, min, true, false, ltb, ◌&&◌, List, length, Some, None, Option, sym, refl, ap, ◌∙◌, subst, add-one, arith}
use Rattle.std.specs.Prelude.{if◌then◌else◌}
use Rattle.std.proofs.lemmas.Bool.{cases_eq, cond-true, cond-false, lt-ltb, and_from}
use Rattle.event.specs.Lists.{first}
use Rattle.group.specs.declared.Group.{Group}
use Rattle.group.specs.Groups.{has}
use Rattle.calendar.specs.Contents.{Contents}
use Rattle.calendar.specs.declared.Held.{Held}
use Rattle.calendar.specs.Calls.{waiting}
use Rattle.model.specs.declared.Sends.{Sends}
use Rattle.model.specs.Meaning.{Meaning, Law, listed}
use Rattle.day.specs.declared.place.Place.{Place}
use Rattle.day.specs.Day.{reaction, stamped, within, posted_by, place_after}
use Rattle.copies.proofs.Members.{From, gap}
use Rattle.copies.specs.Sharing.{sharers, target, move_cell, move_content}
use Rattle.follows.specs.View.{View, put_all}
use Rattle.follows.specs.Steps.{leads_in, ran_group, turn_of, turns}
use Rattle.follows.specs.Rooms.{put_each}
use Rattle.follows.proofs.Rooms.{puts_accepted}
use Rattle.study.specs.declared.register.Register.{Register}
use Rattle.study.specs.declared.Study.{Study}
use Rattle.study.specs.Promises.{view_from, view_of, SameParts}
use Rattle.follows.specs.Ready.{Ready}
use Rattle.study.specs.Turns.{Led, TurnReady, TurnsReady}

-- one more run is counted
pub counted : (n : ℕ) → n + 1 < 2 ^ 32 → min (n + 1) 4294967295 ≡ suc n
counted n h = omega arith

module _ (M : Meaning) (law : Law M) (old new : Contents) (register : Register) (cell cell' : ℕ → ℕ → ℕ) (content content' : ℕ → Place) (entries : List Held) (h : Held) (v t executions : ℕ) (place : Place) (sends : Sends) where
  abbrev V : View
  V = view_from old register cell content entries

  abbrev r : ℕ
  r = h.message.receiver

  abbrev p : Place
  p = content (cell v r)

  abbrev G : Group
  G = sharers cell h.group r v

  -- what is left where a group has run, on the cell t
  pub ran_view : Ready M old.room V h v → new ≡ put_each G (within register.end (stamped h.message.time r p.sent (listed sends))) old → sends ≡ (reaction M p h.message).sends → place ≡ place_after M p h.message
      → t ≡ target M.places cell register.live G r v → t < 128
      → cell' ≡ (if ltb r 32 && ltb t 128 then move_cell cell G r t else cell) → content' ≡ (if ltb r 32 && ltb t 128 then move_content content t place else content) → executions ≡ suc register.executions
      → view_from new (record register { executions = executions }) cell' content' entries ≡ ran_group M V h v
  ran_view ready e q w at inside c d x = λ i. record {
    loaded = register.loaded;
    end = register.end;
    held = held i;
    cell = cells i;
    content = contents i;
    entries = entries;
    live = register.live;
    undecided = register.undecided;
    made = register.made;
    executions = x i;
    puts = puts i;
  }
    where
      posted : new ≡ put_each G (posted_by M register.end p h.message) old
      posted = e ∙ ap (λ s. put_each G (within register.end (stamped h.message.time r p.sent (listed s))) old) q

      accepted : new ≡ record { held = put_all G (posted_by M register.end p h.message) old.held; room = old.room; puts = old.puts + length (posted_by M register.end p h.message) }
      accepted = posted ∙ puts_accepted G (posted_by M register.end p h.message) old ready.room.held ready.room.puts

      held : new.held ≡ put_all G (posted_by M register.end p h.message) old.held
      held = ap (λ k. k.held) accepted

      puts : new.puts ≡ old.puts + length (posted_by M register.end p h.message)
      puts = ap (λ k. k.puts) accepted

      inside_both : (ltb r 32 && ltb t 128) ≡ true
      inside_both = let most = law.most in let k = ready.receiver in and_from _ _ (lt-ltb r 32 (omega arith)) (lt-ltb t 128 inside)

      cells : cell' ≡ move_cell cell G r (target M.places cell register.live G r v)
      cells = c ∙ cond-true (ltb r 32 && ltb t 128) (move_cell cell G r t) cell inside_both ∙ ap (move_cell cell G r) at

      contents : content' ≡ move_content content (target M.places cell register.live G r v) (place_after M p h.message)
      contents = d ∙ cond-true (ltb r 32 && ltb t 128) (move_content content t place) content inside_both ∙ ap (λ z. move_content content z place) at ∙ ap (move_content content (target M.places cell register.live G r v)) w

turns_zero : (M : Meaning) (heads : List Held) (V : View) → turns M heads V 0 ≡ V
unfolding turns
turns_zero M heads V = refl

turns_more : (M : Meaning) (heads : List Held) (V : View) (n : ℕ) → turns M heads V (n + 1) ≡ turn_of M (turns M heads V n) n (first (waiting n heads))
unfolding turns
turns_more M heads V n = ap (turns M heads V) (add-one n)

turn_idle : (M : Meaning) (V : View) (v : ℕ) (o : Option Held) → leads_in V v o ≡ false → turn_of M V v o ≡ V
turn_idle M V v None e = refl
turn_idle M V v (Some h) e = cond-false _ _ _ e

-- and the group of one that leads runs
pub turn_led : (M : Meaning) (capacity : ℕ) (heads : List Held) (V W : View) (v : ℕ) (h : Held) → first (waiting v heads) ≡ Some h → (Ready M capacity V h v → W ≡ ran_group M V h v)
    → TurnReady M capacity heads V v → leads_in V v (first (waiting v heads)) ≡ true → W ≡ turn_of M V v (first (waiting v heads))
turn_led M capacity heads V W v h is ran ready leads =
    let led = subst (λ o. leads_in V v o ≡ true) is leads in
    ran (ready h is led) ∙ sym (ap (turn_of M V v) is ∙ cond-true _ _ _ led)

-- those that do not lead do nothing in their turns
turns_skip : (M : Meaning) (heads : List Held) (V : View) (n m : ℕ) → n ≤ m → ((w : ℕ) → n ≤ w → w < m → leads_in (turns M heads V w) w (first (waiting w heads)) ≡ false) → turns M heads V m ≡ turns M heads V n
unfolding turns
turns_skip M heads V n zero l h = let e : 0 ≡ n = omega (arith, l) in ap (turns M heads V) e
turns_skip M heads V n (suc m) l h = ⊎_elim
    (λ (e : n ≡ suc m). ap (turns M heads V) (sym e))
    (λ (ne : n ≡ suc m → ⊥). let k : n ≤ m = omega (arith, ne, l) in turn_idle M (turns M heads V m) m (first (waiting m heads)) (h m k (omega arith)) ∙ turns_skip M heads V n m k (λ w a b. h w a (omega (arith, b)))) (cases_eq n (suc m))

-- the turns of a study, one after the other
module _ {C M : Type 0} (contents : C → Contents) (meaning : M → Meaning) (old : Study C M) (leaders : Group) where
  abbrev pub Turned : Study C M → ℕ → Type 0
  Turned s v = TurnsReady (meaning old.model) (contents old.calendar).room old.heads.items (view_of contents old) → Led (meaning old.model) old.heads.items (view_of contents old) leaders
      → view_of contents s ≡ turns (meaning old.model) old.heads.items (view_of contents old) v

  pub turned_none : Turned old 0
  turned_none ready led = sym (turns_zero (meaning old.model) old.heads.items (view_of contents old))

  pub turned_more : (s t : Study C M) (v : ℕ) → v < 16 → has leaders v ≡ true → SameParts contents old s → s.heads ≡ old.heads → Turned s v
      → (TurnReady (meaning s.model) (contents s.calendar).room s.heads.items (view_of contents s) v → leads_in (view_of contents s) v (first (waiting v s.heads.items)) ≡ true
      → view_of contents t ≡ turn_of (meaning s.model) (view_of contents s) v (first (waiting v s.heads.items))) → Turned t (v + 1)
  turned_more s t v l member same heads h turn ready led =
      let e = h ready led in
      turn (subst (λ (x : Meaning × ℕ × List Held × View). TurnReady x.0 x.1 x.2 x.3 v) (λ i. (meaning (sym same.model i), sym same.room i, (sym heads i).items, sym e i)) (ready v l))
      ((λ i. leads_in (e i) v (first (waiting v (heads i).items))) ∙ sym (led v) ∙ member)
      ∙ (λ i. turn_of (meaning (same.model i)) (e i) v (first (waiting v (heads i).items)))
      ∙ sym (turns_more (meaning old.model) old.heads.items (view_of contents old) v)

  -- up to the next that leads, and to the end where none is left
  pub turned_up : (s : Study C M) (rest : ℕ → Bool) (n m : ℕ) → From (has leaders) rest n → n ≤ m → ((w : ℕ) → w < m → rest w ≡ false) → Turned s n → Turned s m
  turned_up s rest n m h l low turned ready led =
      turned ready led ∙ sym (turns_skip (meaning old.model) old.heads.items (view_of contents old) n m l (λ w a b. sym (led w) ∙ gap (has leaders) rest n h w a (low w b)))
