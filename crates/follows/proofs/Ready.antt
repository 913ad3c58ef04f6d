-- No number passes its type in a turn of a step that is not refused.
use Rattle.std.proofs.Common.{◌≡◌, ℕ, ◌≤◌, true, not, map, refl, ap, ◌∙◌, arith}
use Rattle.event.specs.declared.Key.{Key}
use Rattle.event.specs.Lists.{first}
use Rattle.calendar.specs.Calls.{waiting}
use Rattle.model.specs.Meaning.{Meaning, Law}
use Rattle.day.specs.declared.place.Place.{Place}
use Rattle.account.specs.Account.{Account, ind, leads_run, runs}
use Rattle.account.specs.Groups.{leads}
use Rattle.account.specs.Orders.{plain}
use Rattle.account.specs.Sound.{Sound}
use Rattle.account.proofs.After.{alone_stands, bounded_stands, sound_after}
use Rattle.follows.specs.View.{View}
use Rattle.follows.specs.Steps.{with_key}
use Rattle.follows.specs.Accounted.{Accounted}
use Rattle.follows.specs.Ready.{HeadsFew, LeadersStay, TurnsReady}
use Rattle.follows.proofs.Modest.{executions_few, journal_few, sum_most}
use Rattle.follows.proofs.Rooms.{ind_most, room_is_found}
use Rattle.follows.proofs.Sent.{few_sent}
use Rattle.follows.proofs.Stands.{counts_agree}
use Rattle.follows.proofs.Taking.{least_head}
use Rattle.follows.proofs.Turns.{Allowed, step_allowed, head, holds, mid, receives, stays}

-- before a step that is not refused no place of a live variant has sent more than 4,096
sent_most : (M : Meaning) (capacity : ℕ) → Law M → (V : View) (A : Account) → Accounted M capacity V A → (k : Key) → Allowed M capacity A k → (v p : ℕ) → A.live v ≡ true → ((A.day v).place p).sent ≤ 4096
sent_most M capacity law V A a k allowed v p l =
    let c = counts_agree M law V A s a.follows in
    let e = c.entries_same in
    let t = c.entries_after k allowed.smallest in
    let w = allowed.written in
    let j = journal_few M A s V a.follows v l in
    let d = few_sent M A.end A.load (map plain (A.orders v)) (A.day v) (alone_stands M A law a.after v l) p in
    omega (arith, e, t, w, j, d)
  where
    s : Sound M A
    s = sound_after law a.after

pub turns_ready : TurnsReady
turns_ready M capacity law small V A a denied k n h first below is leads = record {
  receiver = receives M capacity law V A a k allowed n h is leads;
  sent =
      let e = ap (λ (x : Place). x.sent) (holds M capacity law V A a k allowed n h is leads) in
      let m = sent_most M capacity law V A a k allowed n h.message.receiver (head M capacity law V A a k allowed n h is leads).alive in
      omega (arith, e, m);
  executions =
      let e = (mid M capacity law V A a k allowed n h is leads).same_executions in
      let g = sum_most (λ v. ind (leads_run A k v)) 1 n (λ v. ind_most (leads_run A k v)) in
      let x = executions_few M A (sound_after law a.after) (bounded_stands M A law a.after) a.few.modest in
      omega (arith, e, g, x, below);
  room = (room_is_found M capacity law small V A a).step k n h denied below first is leads;
}
  where
    allowed : Allowed M capacity A k
    allowed = step_allowed M capacity law V A a denied k first

pub leaders_stay : LeadersStay
leaders_stay M capacity law V A a denied k n is = stays M capacity law V A a k (step_allowed M capacity law V A a denied k is) n (first (waiting n (with_key k V.held))) refl

-- each is counted by the one of its variants that leads
pub heads_few : HeadsFew
heads_few M capacity law V A a k first =
    let c = (counts_agree M law V A s a.follows).taken_same k (least_head M A s V.held a.follows.messages ∙ first) in
    let m = sum_most (λ v. ind (leads (runs A k) (λ x y. not (A.marked x y k)) v)) 1 16 (λ v. ind_most (leads (runs A k) (λ x y. not (A.marked x y k)) v)) in
    omega (arith, c, m)
  where
    s : Sound M A
    s = sound_after law a.after
