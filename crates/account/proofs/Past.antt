-- What a day run alone keeps of its earlier events.
use Rattle.std.proofs.Common.{◌≡◌, ℕ, zero, suc, ◌+◌, ◌<◌, ◌≤◌, cond, eqb, leb, ◌⊎◌, List, [], ◌∷◌, ◌++◌, length, Some, None, Option, sym, refl, ap, ◌∙◌, subst, inl, inr, ⊎_elim, arith}
use Rattle.std.specs.List.{AllByRecursion}
use Rattle.std.proofs.ByRecursion.{all_kept_by}
use Rattle.std.proofs.lemmas.Bool.{cond_both, cond-true, cases_eq, eq-eqb, eqb-true}
use Rattle.event.specs.declared.Message.{Message}
use Rattle.event.specs.declared.Start.{Start}
use Rattle.event.specs.Keys.{key_of}
use Rattle.event.specs.Lists.{first}
use Rattle.account.specs.Finds.{find}
use Rattle.model.specs.Meaning.{Meaning, listed}
use Rattle.day.specs.Day.{Day, reaction, posted_by, place_after, event_at, event, ordered, ordered_place}
use Rattle.day.specs.Alone.{Order, ordered_at, alone}
use Rattle.account.specs.Account.{sent_at}
use Rattle.std.proofs.lemmas.Option.{none-some}
use Rattle.account.proofs.Finding.{all_find}
use Rattle.day.proofs.Numbers.{Between}
use Rattle.account.proofs.Events.{stamped_from}

-- orders leave journal and send counts
at_journal : (n : ℕ) (os : List Order) (d : Day) → (ordered_at n os d).journal ≡ d.journal
at_journal n [] d = refl
at_journal n (o ∷ os) d = at_journal n os (cond (eqb o.position n) (ordered d o.place o.value) d) ∙ cond_both (eqb o.position n) (ordered d o.place o.value) d (λ e. e.journal ≡ d.journal) (λ _. refl) (λ _. refl)

ordered_sent : (d : Day) (at value q : ℕ) → ((ordered d at value).place q).sent ≡ (d.place q).sent
ordered_sent d at value q = cond_both (eqb q at) (ordered_place (d.place at) value) (d.place q) (λ p. p.sent ≡ (d.place q).sent) (λ h. ap (λ i. (d.place i).sent) (sym (eqb-true q at h))) (λ _. refl)

at_sent : (n : ℕ) (os : List Order) (d : Day) (q : ℕ) → ((ordered_at n os d).place q).sent ≡ (d.place q).sent
at_sent n [] d q = refl
at_sent n (o ∷ os) d q = at_sent n os (cond (eqb o.position n) (ordered d o.place o.value) d) q ∙ cond_both (eqb o.position n) (ordered d o.place o.value) d (λ e. (e.place q).sent ≡ (d.place q).sent) (λ _. ordered_sent d o.place o.value q) (λ _. refl)

event_sent : (M : Meaning) (end : ℕ) (d : Day) (q : ℕ) → (d.place q).sent ≤ ((event M end d).place q).sent
event_sent M end d q = go (first d.waiting)
  where
    go : (o : Option Message) → (d.place q).sent ≤ ((event_at M end d o).place q).sent
    go None = omega arith
    go (Some m) = cond_both (eqb q m.receiver) (place_after M (d.place m.receiver) m) (d.place q) (λ p. (d.place q).sent ≤ p.sent)
        (λ h. subst (λ i. (d.place i).sent ≤ (d.place m.receiver).sent + length (listed (reaction M (d.place m.receiver) m).sends)) (sym (eqb-true q m.receiver h)) (omega arith)) (λ _. omega arith)

-- what an event sends is numbered from the send count on, and the count grows past it
pub sent_from : (M : Meaning) (end : ℕ) (d : Day) (m x : Message) → find (key_of x) (sent_at M end d (Some m)) ≡ Some x → Between m.receiver (d.place m.receiver).sent ((d.place m.receiver).sent + length (listed (reaction M (d.place m.receiver) m).sends)) x
sent_from M end d m x h = all_find _ (key_of x) (posted_by M end (d.place m.receiver) m) x (all_kept_by (λ y. leb y.time end) _ _ (stamped_from m.time m.receiver (d.place m.receiver).sent (listed (reaction M (d.place m.receiver) m).sends))) h

sent_below : (M : Meaning) (end : ℕ) (d : Day) (x : Message) → find (key_of x) (sent_at M end d (first d.waiting)) ≡ Some x → x.number < ((event M end d).place x.sender).sent
sent_below M end d x h = go (first d.waiting) h
  where
    go : (o : Option Message) → find (key_of x) (sent_at M end d o) ≡ Some x → x.number < ((event_at M end d o).place x.sender).sent
    go None e = absurd (none-some x e)
    go (Some m) e = let f = sent_from M end d m x e in
        subst (λ p. x.number < p.sent) (sym (cond-true (eqb x.sender m.receiver) (place_after M (d.place m.receiver) m) (d.place x.sender) (eq-eqb x.sender m.receiver f.sender))) f.most

module _ (M : Meaning) (end : ℕ) (load : List Start) (os : List Order) where
  -- event i sends x: afterwards its number is below the count
  pub number_below : (i n : ℕ) (x : Message) → i < n → find (key_of x) (sent_at M end (alone M end load os i) (first (alone M end load os i).waiting)) ≡ Some x → x.number < ((alone M end load os n).place x.sender).sent
  unfolding alone
  number_below i zero x l h = absurd (let z : ⊥ = omega arith in z)
  number_below i (suc n) x l h =
      subst (λ c. x.number < c) (sym (at_sent (suc n) os (event M end (alone M end load os n)) x.sender))
      (⊎_elim (λ e. subst (λ j. x.number < ((event M end (alone M end load os j)).place x.sender).sent) e (sent_below M end (alone M end load os i) x h))
      (λ ne. let a = number_below i n x (let z : i < n = omega (arith, ne) in z) h in let b = event_sent M end (alone M end load os n) x.sender in let z : x.number < ((event M end (alone M end load os n)).place x.sender).sent = omega (arith, a, b) in z) (cases_eq i n))

  -- what event i ran stands in the journal
  pub ran_in : (P : Message → Type 0) (i n : ℕ) (m : Message) → i < n → first (alone M end load os i).waiting ≡ Some m → AllByRecursion P (alone M end load os n).journal → P m
  unfolding alone
  ran_in P i zero m l h a = absurd (let z : ⊥ = omega arith in z)
  ran_in P i (suc n) m l h a = go (cases_eq i n) (first (alone M end load os n).waiting) refl (subst (AllByRecursion P) (at_journal (suc n) os (event M end (alone M end load os n))) a) (ran_in P i n m)
    where
      parts : (xs : List Message) (y : Message) → AllByRecursion P (xs ++ y ∷ []) → AllByRecursion P xs × P y
      parts [] y b = (tt, b.0)
      parts (x ∷ xs) y b = let r = parts xs y b.1 in ((b.0, r.0), r.1)

      go : (i ≡ n) ⊎ (i ≡ n → ⊥) → (o : Option Message) → first (alone M end load os n).waiting ≡ o → AllByRecursion P (event M end (alone M end load os n)).journal → (i < n → first (alone M end load os i).waiting ≡ Some m → AllByRecursion P (alone M end load os n).journal → P m) → P m
      go (inl e) o f b ih =
          let g : first (alone M end load os n).waiting ≡ Some m = ap (λ j. first (alone M end load os j).waiting) (sym e) ∙ h in
          (parts (alone M end load os n).journal m (subst (λ q. AllByRecursion P (event_at M end (alone M end load os n) q).journal) g b)).1
      go (inr ne) None f b ih = ih (omega (arith, ne)) h (subst (λ q. AllByRecursion P (event_at M end (alone M end load os n) q).journal) f b)
      go (inr ne) (Some y) f b ih = ih (omega (arith, ne)) h (parts (alone M end load os n).journal y (subst (λ q. AllByRecursion P (event_at M end (alone M end load os n) q).journal) f b)).0
