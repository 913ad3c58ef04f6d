-- What waits after an event.
use Rattle.std.proofs.Common.{◌≡◌, ℕ, suc, ◌+◌, ◌<◌, ◌≤◌, true, false, cond, leb, ◌⊎◌, List, [], ◌∷◌, length, Some, None, sym, refl, ap, ◌∙◌, subst, inl, inr, arith}
use Rattle.std.specs.List.{AllByRecursion}
use Rattle.std.proofs.ByRecursion.{All-weaker, all_kept_by}
use Rattle.std.proofs.lemmas.Bool.{cases_Bool}
use Rattle.event.specs.declared.Key.{Key}
use Rattle.event.specs.declared.Message.{Message}
use Rattle.event.specs.Keys.{key_of, same}
use Rattle.event.specs.Lists.{insert, insert_all, first, rest}
use Rattle.event.proofs.Insertion.{all_insert, rising_back}
use Rattle.event.proofs.Orders.{same_true}
use Rattle.model.specs.declared.Sent.{Sent}
use Rattle.model.specs.Meaning.{Meaning, listed}
use Rattle.day.specs.Day.{Day, stamp, stamped, within, posted_by, reaction, event_at}
use Rattle.day.specs.Tidy.{Tidy}
use Rattle.day.proofs.Events.{all_rest}
use Rattle.day.proofs.Numbers.{Between, stamped_sequence, sequence_between, length_stamped}
use Rattle.account.specs.Finds.{find, either}
use Rattle.std.proofs.lemmas.Option.{none-some}
use Rattle.account.proofs.Finding.{find_none, find_insert, find_rest}

pub all_first : (P : Message → Type 0) (xs : List Message) (m : Message) → AllByRecursion P xs → first xs ≡ Some m → P m
all_first P [] m h e = absurd (none-some m e)
all_first P (x ∷ xs) m h e = let g : x ≡ m = cc in subst P g h.0

-- what s sends is numbered from n on
pub stamped_from : (t s n : ℕ) (l : List Sent) → AllByRecursion (Between s n (n + length l)) (stamped t s n l)
stamped_from t s n l =
    subst (λ (k : ℕ). AllByRecursion (Between s n (n + k)) (stamped t s n l)) (length_stamped t s n l) (sequence_between s n (stamped t s n l) (stamped_sequence t s n l))

-- all of s in xs are numbered below n
abbrev pub Under : ℕ → ℕ → List Message → Type 0
Under s n xs = AllByRecursion (λ m. m.sender ≡ s → m.number < n) xs

under_more : (s n : ℕ) (xs : List Message) → Under s n xs → Under s (suc n) xs
under_more s n xs h = All-weaker (λ m. m.sender ≡ s → m.number < n) (λ m. m.sender ≡ s → m.number < suc n) (λ m u f. let a = u f in omega arith) xs h

pub fresh : (s n : ℕ) (x : Message) (xs : List Message) → x.sender ≡ s → n ≤ x.number → Under s n xs → find (key_of x) xs ≡ None
fresh s n x xs e l h =
    find_none (key_of x) xs
    (All-weaker (λ m. m.sender ≡ s → m.number < n) (λ m. key_of m ≡ key_of x → ⊥)
    (λ m u k. let a = u (ap (λ (j : Key). j.sender) k ∙ e) in let b : m.number ≡ x.number = ap (λ (j : Key). j.number) k in let z : ⊥ = omega arith in z) xs h)

-- the key of x is that of none numbered above
above_none : (s n : ℕ) (x : Message) (end t : ℕ) (l : List Sent) → x.number < n → find (key_of x) (within end (stamped t s n l)) ≡ None
above_none s n x end t l h =
    find_none (key_of x) (within end (stamped t s n l))
    (all_kept_by (λ m. leb m.time end) (λ m. key_of m ≡ key_of x → ⊥) (stamped t s n l)
    (All-weaker (Between s n (n + length l)) (λ m. key_of m ≡ key_of x → ⊥)
    (λ m u k. let a = u.least in let b : m.number ≡ x.number = ap (λ (j : Key). j.number) k in let z : ⊥ = omega arith in z) (stamped t s n l) (stamped_from t s n l)))

-- what is found when fresh messages have gone in
pub find_inserted : (k : Key) (end t s n : ℕ) (l : List Sent) (xs : List Message) → Under s n xs
    → find k (insert_all key_of (within end (stamped t s n l)) xs) ≡ either (find k (within end (stamped t s n l))) (find k xs)
find_inserted k end t s n [] xs h = refl
find_inserted k end t s n (x ∷ l) xs h = go (cases_Bool (leb (stamp t s n x).time end)) (find_inserted k end t s (suc n) l)
  where
    m : Message
    m = stamp t s n x

    ms : List Message
    ms = within end (stamped t s (suc n) l)

    go : (leb m.time end ≡ true) ⊎ (leb m.time end ≡ false)
        → ((ys : List Message) → Under s (suc n) ys → find k (insert_all key_of ms ys) ≡ either (find k ms) (find k ys))
        → find k (insert_all key_of (cond (leb m.time end) (m ∷ ms) ms) xs) ≡ either (find k (cond (leb m.time end) (m ∷ ms) ms)) (find k xs)
    go (inl b) ih =
        simp b
        (ih (insert key_of m xs) (all_insert key_of (λ y. y.sender ≡ s → y.number < suc n) m xs (λ _. let z : n < suc n = omega arith in z) (under_more s n xs h))
        ∙ ap (either (find k ms)) (find_insert k m xs (fresh s n m xs refl (let z : n ≤ n = omega arith in z) h)) ∙ last (cases_Bool (same k (key_of m))))
      where
        last : (same k (key_of m) ≡ true) ⊎ (same k (key_of m) ≡ false) → either (find k ms) (cond (same k (key_of m)) (Some m) (find k xs)) ≡ either (cond (same k (key_of m)) (Some m) (find k ms)) (find k xs)
        last (inl e) =
            let z : find k ms ≡ None = ap (λ j. find j ms) (same_true k (key_of m) e) ∙ above_none s (suc n) m end t l (let y : n < suc n = omega arith in y) in
            simp (e, z)
        last (inr e) = simp e
    go (inr b) ih = simp b (ih xs (under_more s n xs h))

module _ (M : Meaning) (end : ℕ) (d : Day) (t : Tidy M d) (m : Message) (e : first d.waiting ≡ Some m) where
  pub inside : m.receiver < M.places
  inside = all_first (λ x. x.receiver < M.places) d.waiting m t.received e

  pub under : Under m.receiver (d.place m.receiver).sent (rest d.waiting)
  under =
      all_rest (λ x. x.sender ≡ m.receiver → x.number < (d.place m.receiver).sent) d.waiting
      (All-weaker (λ x. x.sender < M.places → x.number < (d.place x.sender).sent) (λ x. x.sender ≡ m.receiver → x.number < (d.place m.receiver).sent)
      (λ x u f. subst (λ q. x.number < (d.place q).sent) f (u (subst (λ q. q < M.places) (sym f) inside))) d.waiting t.numbered)

  -- what was sent, and what waited before without the message that ran
  pub find_event : (k : Key) → find k (event_at M end d (Some m)).waiting ≡ either (find k (posted_by M end (d.place m.receiver) m)) (cond (same k (key_of m)) None (find k d.waiting))
  find_event k =
      find_inserted k end m.time m.receiver (d.place m.receiver).sent (listed (reaction M (d.place m.receiver) m).sends) (rest d.waiting) under
      ∙ ap (either (find k (posted_by M end (d.place m.receiver) m))) (find_rest k d.waiting m (rising_back key_of d.journal d.waiting t.rising) e)
