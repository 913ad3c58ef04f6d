-- No put of an accepted step is denied: the calendar has room for what each group sends, and puts are few.
use Rattle.std.proofs.Common.{◌≡◌, ℕ, zero, suc, ◌+◌, ◌≤◌, Bool, true, false, [], ◌∷◌, length, sym, ap, ◌∙◌, subst, ltb, arith, ⊎_elim, Some, ◌<◌}
use Rattle.std.proofs.lemmas.Bool.{cond-true, cases_eq, lt-ltb, and_from}
use Rattle.event.specs.declared.Key.{Key}
use Rattle.event.specs.Lists.{first, insert}
use Rattle.event.proofs.Insertion.{length_insert}
use Rattle.calendar.specs.declared.Held.{Held}
use Rattle.calendar.specs.Calls.{key_of_held, waiting}
use Rattle.calendar.specs.Contents.{Contents, accepts}
use Rattle.model.specs.Meaning.{Meaning, Law}
use Rattle.account.specs.Account.{Account, load, ind, sum_below, leads_run}
use Rattle.account.proofs.After.{sound_after, bounded_stands}
use Rattle.account.proofs.Refusing.{none_met}
use Rattle.follows.specs.View.{View, held_for, put_all}
use Rattle.follows.specs.Steps.{with_key, leads_in}
use Rattle.follows.specs.Rooms.{PutsAccepted, RoomIsFound, put_each, sends_at, HasRoom}
use Rattle.follows.specs.Claims.{before_turn}
use Rattle.follows.specs.Accounted.{Accounted}
use Rattle.follows.specs.Refusing.{cases_of}
use Rattle.follows.proofs.Mid.{Mid}
use Rattle.follows.proofs.Refusing.{starts_few}
use Rattle.follows.proofs.Modest.{executions_few, sum_most}
use Rattle.follows.proofs.Sent.{few_posted}
use Rattle.follows.proofs.Turns.{Allowed, step_allowed, mid, led}

pub puts_accepted : PutsAccepted
puts_accepted group [] s room few = let e : s.puts ≡ s.puts + 0 = omega arith in λ i. record { held = s.held; room = s.room; puts = e i }
puts_accepted group (m ∷ ms) s room few =
    ap (put_each group ms) (cond-true (accepts s) _ s (and_from (ltb (length s.held) s.room) (ltb s.puts 1000000) (lt-ltb _ _ (omega arith)) (lt-ltb _ _ (omega arith))))
    ∙ puts_accepted group ms next (let a = longer in omega (arith, a)) (omega arith) ∙ (λ i. record { held = put_all group (m ∷ ms) s.held; room = s.room; puts = counted i })
  where
    next : Contents
    next = record { held = insert key_of_held (held_for group m) s.held; room = s.room; puts = s.puts + 1 }

    longer : length (insert key_of_held (held_for group m) s.held) ≡ suc (length s.held)
    longer = length_insert key_of_held (held_for group m) s.held

    counted : s.puts + 1 + length ms ≡ s.puts + suc (length ms)
    counted = omega arith

sum_longer : (f : ℕ → ℕ) (m n : ℕ) → m ≤ n → sum_below f m ≤ sum_below f n
unfolding sum_below
sum_longer f m zero h = let e : m ≡ 0 = omega arith in subst (λ (i : ℕ). sum_below f i ≤ 0) (sym e) (omega arith)
sum_longer f m (suc n) h = ⊎_elim (λ (e : m ≡ suc n). subst (λ (i : ℕ). sum_below f i ≤ sum_below f (suc n)) (sym e) (omega arith))
    (λ (ne : m ≡ suc n → ⊥). let a = sum_longer f m n (omega (arith, ne)) in omega (arith, a)) (cases_eq m (suc n))

pub ind_most : (b : Bool) → ind b ≤ 1
ind_most true = omega arith
ind_most false = omega arith

-- in a step that leaves room for two messages of each execution
module _ (M : Meaning) (capacity : ℕ) (law : Law M) (small : capacity ≤ 4096) (V : View) (A : Account) (a : Accounted M capacity V A) (k : Key) (allowed : Allowed M capacity A k)
    (n : ℕ) (h : Held) (below : n < 16) (is : first (waiting n (with_key k V.held)) ≡ Some h) (leads : leads_in (before_turn M V k n) n (Some h) ≡ true) where
  posted : length (sends_at M (before_turn M V k n) h n) ≤ 2
  posted = few_posted M (before_turn M V k n).end ((before_turn M V k n).content ((before_turn M V k n).cell n h.message.receiver)) h.message

  step_room : HasRoom capacity (before_turn M V k n) (length (sends_at M (before_turn M V k n) h n))
  unfolding sum_below
  step_room = record {
    held =
        let b = c.few_held in let r = allowed.roomy in let g = sum_longer (λ v. ind (leads_run A k v)) (suc n) 16 (omega arith) in
        let i = ap ind (led M capacity law V A a k allowed n h is leads) in let p = posted in
        omega (arith, b, r, g, i, p);
    puts =
        let b = c.few_puts in let d = c.same_executions in let g = sum_most (λ v. ind (leads_run A k v)) 1 n (λ v. ind_most (leads_run A k v)) in
        let x = executions_few M A (sound_after law a.after) (bounded_stands M A law a.after) a.few.modest in let p = posted in let l = a.few.starts in
        omega (arith, b, d, g, x, p, l, small, below);
  }
    where
      c : Mid M A k n (before_turn M V k n)
      c = mid M capacity law V A a k allowed n h is leads

pub room_is_found : RoomIsFound
room_is_found M capacity law small V A a = record {
  load = λ l end e. let few = starts_few M capacity end 0 l (omega arith) (none_met (cases_of M capacity V (load l end)) e).1.1 in omega (arith, few);
  step = λ k n h e below head is leads. step_room M capacity law small V A a k (step_allowed M capacity law V A a e k head) n h below is leads;
}
