-- Every day run alone is tidy.
use Rattle.std.proofs.Common.{◌≡◌, ℕ, suc, ◌+◌, ◌<◌, ◌≤◌, true, leb, List, [], ◌∷◌, ◌++◌, length, Some, None, Option, sym, refl, ap, subst, append_assoc, arith}
use Rattle.std.specs.List.{AllByRecursion}
use Rattle.std.proofs.ByRecursion.{All-weaker, all_kept_by, All-push}
use Rattle.event.specs.declared.Key.{Key}
use Rattle.event.specs.declared.Message.{Message}
use Rattle.event.specs.declared.Start.{Start}
use Rattle.event.specs.Keys.{key_of, before}
use Rattle.event.specs.Lists.{first, rest, Rising}
use Rattle.event.specs.Starts.{numbered}
use Rattle.event.proofs.Insertion.{all_insert_all, rising_insert_all, rising_front, distinct_kept_by}
use Rattle.event.proofs.Orders.{chain, sooner}
use Rattle.model.specs.declared.Sent.{Sent}
use Rattle.model.specs.Meaning.{Meaning, Law, Within, arrival_of, listed}
use Rattle.day.specs.Day.{Day, stamped, within, reaction, event_at, event, ordered, starting}
use Rattle.day.specs.Alone.{Deed, run, give, done}
use Rattle.day.specs.Tidy.{Tidy}
use Rattle.day.proofs.Events.{all_rest, stamped_receivers}
use Rattle.day.proofs.Numbers.{InSequence, Between, length_stamped, stamped_sequence, starts_sequence, numbered_all, sequence_between, sequence_distinct}

-- what is stamped comes later
pub stamped_later : (n now s from : ℕ) (ss : List Sent) → AllByRecursion (Within n) ss → AllByRecursion (λ m. now < m.time) (stamped now s from ss)
stamped_later n now s from [] h = tt
stamped_later n now s from (x ∷ ss) h = let a = h.0.least in (omega arith, stamped_later n now s (suc from) ss h.1)

pub first_rest : (xs : List Message) (m : Message) → first xs ≡ Some m → xs ≡ m ∷ rest xs
first_rest [] m e = grind arith
first_rest (x ∷ xs) m e = grind arith

module _ (M : Meaning) (law : Law M) (end : ℕ) (d : Day) (t : Tidy M d) (m : Message) (e : first d.waiting ≡ Some m) where
  abbrev sends : List Sent
  sends = listed (reaction M (d.place m.receiver) m).sends

  abbrev sent : List Message
  sent = stamped m.time m.receiver (d.place m.receiver).sent sends

  split : d.waiting ≡ m ∷ rest d.waiting
  split = first_rest d.waiting m e

  inside : m.receiver < M.places
  inside = (subst (AllByRecursion (λ x. x.receiver < M.places)) split t.received).0

  lawful : AllByRecursion (Within M.places) sends
  lawful = law.lawful m.receiver (d.place m.receiver).order (d.place m.receiver).words (arrival_of m)

  in_sequence : InSequence m.receiver (d.place m.receiver).sent sent
  in_sequence = stamped_sequence m.time m.receiver (d.place m.receiver).sent sends

  spread : AllByRecursion (Between m.receiver (d.place m.receiver).sent ((d.place m.receiver).sent + length sent)) sent
  spread = sequence_between m.receiver (d.place m.receiver).sent sent in_sequence

  -- the whole journal comes before what is sent
  journal_first : (x : Message) → m.time < x.time → AllByRecursion (λ j. before (key_of j) (key_of x) ≡ true) (d.journal ++ m ∷ [])
  journal_first x h =
      All-push (λ j. before (key_of j) (key_of x) ≡ true) d.journal m
      (All-weaker (λ j. before (key_of j) (key_of m) ≡ true) (λ j. before (key_of j) (key_of x) ≡ true) (λ j b. chain (key_of j) (key_of m) (key_of x) b (sooner (key_of m) (key_of x) h)) d.journal
      (rising_front key_of d.journal m (rest d.waiting) whole))
      (sooner (key_of m) (key_of x) h)
    where
      whole : Rising key_of (d.journal ++ m ∷ rest d.waiting)
      whole = subst (λ (l : List Message). Rising key_of (d.journal ++ l)) split t.rising

  -- none that waits has the key of one that is sent
  fresh : (x : Message) → Between m.receiver (d.place m.receiver).sent ((d.place m.receiver).sent + length sent) x → AllByRecursion (λ y. key_of x ≡ key_of y → ⊥) (rest d.waiting)
  fresh x b =
      all_rest (λ y. key_of x ≡ key_of y → ⊥) d.waiting
      (All-weaker (λ y. y.sender < M.places → y.number < (d.place y.sender).sent) (λ y. key_of x ≡ key_of y → ⊥) apart d.waiting t.numbered)
    where
      apart : (y : Message) → (y.sender < M.places → y.number < (d.place y.sender).sent) → key_of x ≡ key_of y → ⊥
      apart y u k =
          let sender : x.sender ≡ y.sender = ap (λ (j : Key). j.sender) k in
          let number : x.number ≡ y.number = ap (λ (j : Key). j.number) k in
          let from = b.sender in
          let low = b.least in
          grind (arith, inside)

  grown : (q : ℕ) → (d.place q).sent ≤ ((event_at M end d (Some m)).place q).sent
  grown q = grind arith

  pub tidy_at : Tidy M (event_at M end d (Some m))
  tidy_at = record {
    rising = rising_insert_all key_of (d.journal ++ m ∷ []) (within end sent) (rest d.waiting)
        (kept (λ x. AllByRecursion (λ j. before (key_of j) (key_of x) ≡ true) (d.journal ++ m ∷ [])) (All-weaker (λ x. m.time < x.time) _ journal_first sent (stamped_later M.places m.time m.receiver (d.place m.receiver).sent sends lawful)))
        (distinct_kept_by key_of (λ x. leb x.time end) sent (sequence_distinct m.receiver (d.place m.receiver).sent sent in_sequence))
        (kept (λ x. AllByRecursion (λ y. key_of x ≡ key_of y → ⊥) (rest d.waiting)) (All-weaker _ _ fresh sent spread))
        (subst (Rising key_of) (sym (append_assoc d.journal (m ∷ []) (rest d.waiting))) (subst (λ (l : List Message). Rising key_of (d.journal ++ l)) split t.rising));
    numbered = all_insert_all key_of Numbered (within end sent) (rest d.waiting) (kept Numbered (All-weaker _ Numbered new sent spread))
        (all_rest Numbered d.waiting (All-weaker _ Numbered (λ x u i. let a = u i in let b = grown x.sender in omega arith) d.waiting t.numbered));
    received = all_insert_all key_of (λ x. x.receiver < M.places) (within end sent) (rest d.waiting)
        (kept (λ x. x.receiver < M.places) (stamped_receivers M.places m.time m.receiver (d.place m.receiver).sent sends lawful)) (all_rest (λ x. x.receiver < M.places) d.waiting t.received);
  }
    where
      kept : (P : Message → Type 0) → AllByRecursion P sent → AllByRecursion P (within end sent)
      kept P h = all_kept_by (λ x. leb x.time end) P sent h

      Numbered : Message → Type 0
      Numbered x = x.sender < M.places → x.number < ((event_at M end d (Some m)).place x.sender).sent

      new : (x : Message) → Between m.receiver (d.place m.receiver).sent ((d.place m.receiver).sent + length sent) x → Numbered x
      new x b i = let from = b.sender in let most = b.most in grind (arith, length_stamped m.time m.receiver (d.place m.receiver).sent sends)

pub tidy_event : (M : Meaning) → Law M → (end : ℕ) (d : Day) → Tidy M d → Tidy M (event M end d)
tidy_event M law end d t = go (first d.waiting) refl
  where
    go : (o : Option Message) → first d.waiting ≡ o → Tidy M (event_at M end d o)
    go None e = t
    go (Some m) e = tidy_at M law end d t m e

pub tidy_order : (M : Meaning) (d : Day) (place value : ℕ) → Tidy M d → Tidy M (ordered d place value)
tidy_order M d place value t = record {
  rising = t.rising;
  numbered = All-weaker (λ x. x.sender < M.places → x.number < (d.place x.sender).sent) (λ x. x.sender < M.places → x.number < ((ordered d place value).place x.sender).sent)
      (λ x u i. subst (λ (n : ℕ). x.number < n) (kept x.sender) (u i)) d.waiting t.numbered;
  received = t.received;
}
  where
    kept : (q : ℕ) → (d.place q).sent ≡ ((ordered d place value).place q).sent
    kept q = grind arith

pub tidy_starts : (M : Meaning) → Law M → (starts : List Start) → AllByRecursion (λ s. s.receiver < M.places) starts → Tidy M (starting M starts)
tidy_starts M law starts h = record {
  rising = rising_insert_all key_of [] (numbered 0 starts) [] (every (numbered 0 starts)) (sequence_distinct 255 0 (numbered 0 starts) (starts_sequence 0 starts)) (every (numbered 0 starts)) tt;
  numbered = all_insert_all key_of (λ m. m.sender < M.places → m.number < 0) (numbered 0 starts) []
      (All-weaker (Between 255 0 (0 + length (numbered 0 starts))) (λ m. m.sender < M.places → m.number < 0) (λ m b i. let a = law.most in let s = b.sender in omega arith) (numbered 0 starts)
      (sequence_between 255 0 (numbered 0 starts) (starts_sequence 0 starts))) tt;
  received = all_insert_all key_of (λ m. m.receiver < M.places) (numbered 0 starts) [] (numbered_all (λ s. s.receiver < M.places) (λ m. m.receiver < M.places) (λ n s r. r) 0 starts h) tt;
}
  where
    every : (ms : List Message) → AllByRecursion (λ m. Unit {0}) ms
    every [] = tt
    every (m ∷ ms) = (tt, every ms)

-- whatever is done
pub tidy_done : (M : Meaning) → Law M → (end : ℕ) (deeds : List Deed) (d : Day) → Tidy M d → Tidy M (done M end deeds d)
tidy_done M law end [] d t = t
tidy_done M law end (run ∷ deeds) d t = tidy_done M law end deeds (event M end d) (tidy_event M law end d t)
tidy_done M law end (give place value ∷ deeds) d t = tidy_done M law end deeds (ordered d place value) (tidy_order M d place value t)
