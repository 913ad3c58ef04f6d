-- The order of slots by time, receiver and sender first.
use Rattle.std.proofs.Common.{◌≡◌, ℕ, Bool, true, false, ◌&&◌, ◌||◌, List, ltb, eqb, sym, refl, ap, ◌∙◌, ⊎_elim, arith}
use Rattle.std.proofs.lemmas.Bool.{cases_Bool, eqb-true}
use Rattle.std.proofs.lemmas.Bool.Decides.{nat_tests}
use Rattle.heap_calendar.specs.declared.entry.Entry.{Entry}
use Rattle.heap_calendar.specs.Entries.{Fits, slot_of}
use Rattle.event.specs.declared.Key.{Key}
use Rattle.event.specs.Keys.{before, same}
use Rattle.slot.specs.declared.Slot.{Slot}
use Rattle.slot.specs.Slots.{key_of_slot, earlier}

-- three tests in turn, and what follows
by_first : (l e b s r : Bool) → e ≡ false → ((l || (e && b)) || ((e && s) && r)) ≡ l
by_first true false b s r h = refl
by_first false false b s r h = refl
by_first l true b s r h = absurd (let z : ⊥ = cc in z)

by_next : (l e b s r : Bool) → l ≡ false → e ≡ true → ((l || (e && b)) || ((e && s) && r)) ≡ (b || (s && r))
by_next false true b s r h k = refl
by_next true e b s r h k = absurd (let z : ⊥ = cc in z)
by_next false false b s r h k = absurd (let z : ⊥ = cc in z)

module _ (x y : Slot) where
  pub by_time : eqb x.held.message.time y.held.message.time ≡ false → earlier x y ≡ ltb x.held.message.time y.held.message.time
  unfolding earlier before same
  by_time e = by_first _ _ _ _ _ e

  pub by_receiver : ltb x.held.message.time y.held.message.time ≡ false → eqb x.held.message.time y.held.message.time ≡ true
      → eqb x.held.message.receiver y.held.message.receiver ≡ false → earlier x y ≡ ltb x.held.message.receiver y.held.message.receiver
  unfolding earlier before same
  by_receiver a b e = by_next _ _ _ _ _ a b ∙ by_first _ _ _ _ _ e

  pub by_sender : ltb x.held.message.time y.held.message.time ≡ false → eqb x.held.message.time y.held.message.time ≡ true
      → ltb x.held.message.receiver y.held.message.receiver ≡ false → eqb x.held.message.receiver y.held.message.receiver ≡ true
      → eqb x.held.message.sender y.held.message.sender ≡ false → earlier x y ≡ ltb x.held.message.sender y.held.message.sender
  unfolding earlier before same
  by_sender a b c d e = by_next _ _ _ _ _ a b ∙ by_next _ _ _ _ _ c d ∙ by_first _ _ _ _ _ e

differ : (a b : ℕ) → (a ≡ b → ⊥) → eqb a b ≡ false
differ a b n = ⊎_elim (λ (e : eqb a b ≡ true). absurd (n (eqb-true a b e))) (λ e. e) (cases_Bool (eqb a b))

alike : (a b : ℕ) → a ≡ b → (ltb a b ≡ false) × (eqb a b ≡ true)
alike a b e = (grind (arith, nat_tests), grind (arith, nat_tests))

module _ (pool : List Slot) (a b : Entry) (p : Fits pool a) (q : Fits pool b) where
  pub time_tells : (a.time ≡ b.time → ⊥) → ltb a.time b.time ≡ earlier (slot_of pool a) (slot_of pool b)
  time_tells n = sym (λ i. ltb (p.is i).time (q.is i).time) ∙ sym (by_time (slot_of pool a) (slot_of pool b) ((λ i. eqb (p.is i).time (q.is i).time) ∙ differ a.time b.time n))

  pub receiver_tells : a.time ≡ b.time → (a.receiver ≡ b.receiver → ⊥) → ltb a.receiver b.receiver ≡ earlier (slot_of pool a) (slot_of pool b)
  receiver_tells t n =
      let w = alike a.time b.time t in
      sym (λ i. ltb (p.is i).receiver (q.is i).receiver)
      ∙ sym (by_receiver (slot_of pool a) (slot_of pool b) ((λ i. ltb (p.is i).time (q.is i).time) ∙ w.0) ((λ i. eqb (p.is i).time (q.is i).time) ∙ w.1)
      ((λ i. eqb (p.is i).receiver (q.is i).receiver) ∙ differ a.receiver b.receiver n))

  pub sender_tells : a.time ≡ b.time → a.receiver ≡ b.receiver → (a.sender ≡ b.sender → ⊥) → ltb a.sender b.sender ≡ earlier (slot_of pool a) (slot_of pool b)
  sender_tells t r n =
      let w = alike a.time b.time t in
      let v = alike a.receiver b.receiver r in
      sym (λ i. ltb (p.is i).sender (q.is i).sender)
      ∙ sym (by_sender (slot_of pool a) (slot_of pool b) ((λ i. ltb (p.is i).time (q.is i).time) ∙ w.0) ((λ i. eqb (p.is i).time (q.is i).time) ∙ w.1)
      ((λ i. ltb (p.is i).receiver (q.is i).receiver) ∙ v.0) ((λ i. eqb (p.is i).receiver (q.is i).receiver) ∙ v.1)
      ((λ i. eqb (p.is i).sender (q.is i).sender) ∙ differ a.sender b.sender n))

-- an entry of another time, receiver or sender names a slot with another key
module _ (pool : List Slot) (e : Entry) (p : Fits pool e) (k : Key) where
  pub other_time : (e.time ≡ k.time → ⊥) → k ≡ key_of_slot (slot_of pool e) → ⊥
  other_time n q = n (sym (ap (λ k. k.time) q ∙ ap (λ e. e.time) p.is))

  pub other_receiver : (e.receiver ≡ k.receiver → ⊥) → k ≡ key_of_slot (slot_of pool e) → ⊥
  other_receiver n q = n (sym (ap (λ k. k.receiver) q ∙ ap (λ e. e.receiver) p.is))

  pub other_sender : (e.sender ≡ k.sender → ⊥) → k ≡ key_of_slot (slot_of pool e) → ⊥
  other_sender n q = n (sym (ap (λ k. k.sender) q ∙ ap (λ e. e.sender) p.is))
