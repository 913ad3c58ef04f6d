-- Any mixture of events and orders gives the day run alone under those orders.
use Rattle.std.proofs.Common.{◌≡◌, ℕ, zero, suc, ◌<◌, ◌≤◌, if◌then◌else◌, ◌==◌, List, [], ◌∷◌, ◌++◌, length, Some, None, Option, sym, refl, ap, ◌∙◌, subst, append_assoc, arith}
use Rattle.std.specs.List.{AllByRecursion}
use Rattle.std.proofs.ByRecursion.{All-weaker, All-push}
use Rattle.std.proofs.lemmas.List.{append-nil, length_push}
use Rattle.event.specs.declared.Message.{Message}
use Rattle.event.specs.declared.Start.{Start}
use Rattle.event.specs.Lists.{first}
use Rattle.model.specs.Meaning.{Meaning}
use Rattle.day.specs.Day.{Day, event_at, event, ordered, starting}
use Rattle.day.specs.Alone.{Order, ordered_at, alone, Alone, order_now, Deed, run, give, done, given}

-- one order more is set last
ordered_push : (n : ℕ) (os : List Order) (o : Order) (d : Day) → ordered_at n (os ++ o ∷ []) d ≡ (if o.position == n then ordered (ordered_at n os d) o.place o.value else ordered_at n os d)
ordered_push n [] o d = refl
ordered_push n (x ∷ os) o d = ordered_push n os o (if x.position == n then ordered d x.place x.value else d)

-- none is of the next position
ordered_none : (n : ℕ) (os : List Order) (d : Day) → AllByRecursion (λ o. o.position ≤ n) os → ordered_at (suc n) os d ≡ d
ordered_none n [] d h = refl
ordered_none n (o ∷ os) d h =
    let a = h.0 in
    grind (arith, ordered_none n os d h.1)

module _ (M : Meaning) (end : ℕ) (starts : List Start) (os : List Order) (o : Order) where
  -- an order changes nothing before its position
  pub alone_before : (n : ℕ) → n < o.position → alone M end starts (os ++ o ∷ []) n ≡ alone M end starts os n
  unfolding alone
  alone_before zero h = grind (arith, ordered_push 0 os o (starting M starts))
  alone_before (suc n) h = grind (arith, alone_before n (omega arith), ordered_push (suc n) os o (event M end (alone M end starts os n)))

  -- and at its position it is set
  pub alone_ordered : (n : ℕ) → o.position ≡ n → alone M end starts (os ++ o ∷ []) n ≡ ordered (alone M end starts os n) o.place o.value
  unfolding alone
  alone_ordered zero e = grind (arith, ordered_push 0 os o (starting M starts))
  alone_ordered (suc n) e = grind (arith, alone_before n (omega arith), ordered_push (suc n) os o (event M end (alone M end starts os n)))

pub alone_next : (M : Meaning) (end : ℕ) (starts : List Start) (os : List Order) (n : ℕ) → AllByRecursion (λ o. o.position ≤ n) os → alone M end starts os (suc n) ≡ event M end (alone M end starts os n)
unfolding alone
alone_next M end starts os n h = ordered_none n os (event M end (alone M end starts os n)) h

module _ (M : Meaning) (end : ℕ) (starts : List Start) where
  pub alone_starts : Alone M end starts [] (starting M starts)
  unfolding alone
  alone_starts = record { day = refl; past = tt }

  pub alone_event : (os : List Order) (d : Day) → Alone M end starts os d → Alone M end starts os (event M end d)
  alone_event os d a = go (first d.waiting) refl
    where
      go : (o : Option Message) → first d.waiting ≡ o → Alone M end starts os (event_at M end d o)
      go None e = a
      go (Some m) e = record {
        day = let was = a.day in grind (arith, alone_next M end starts os (length d.journal) a.past, length_push d.journal m);
        past = All-weaker (λ x. x.position ≤ length d.journal) (λ x. x.position ≤ length (d.journal ++ m ∷ [])) (λ x h. omega (arith, length_push d.journal m)) os a.past;
      }

  pub alone_order : (os : List Order) (d : Day) (place value : ℕ) → Alone M end starts os d
      → Alone M end starts (os ++ order_now d place value ∷ []) (ordered d place value)
  alone_order os d place value a = record {
    day = ap (λ e. ordered e place value) a.day ∙ sym (alone_ordered M end starts os (order_now d place value) (length d.journal) refl);
    past = All-push (λ x. x.position ≤ length d.journal) os (order_now d place value) a.past (omega arith);
  }

  -- whatever is done
  pub alone_done : (os : List Order) (deeds : List Deed) (d : Day) → Alone M end starts os d → Alone M end starts (os ++ given M end deeds d) (done M end deeds d)
  alone_done os [] d a = subst (λ (l : List Order). Alone M end starts l d) (sym (append-nil os)) a
  alone_done os (run ∷ deeds) d a = alone_done os deeds (event M end d) (alone_event os d a)
  alone_done os (give place value ∷ deeds) d a =
      subst (λ (l : List Order). Alone M end starts l (done M end deeds (ordered d place value))) (append_assoc os _ _) (alone_done (os ++ order_now d place value ∷ []) deeds (ordered d place value) (alone_order os d place value a))
