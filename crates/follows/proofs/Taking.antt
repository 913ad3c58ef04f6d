-- The messages with the smallest key: which they are, and who has them.
use Rattle.std.proofs.Common.{◌≡◌, ℕ, ◌<◌, Bool, true, false, not, ◌⊎◌, List, [], ◌∷◌, filter, Some, None, Option, sym, refl, ap, ◌∙◌, subst, inl, inr, arith}
use Rattle.std.specs.List.{AllByRecursion}
use Rattle.std.proofs.ByRecursion.{All-weaker, all_kept_by, kept_by_passes, All-map}
use Rattle.std.proofs.lemmas.Bool.{cases_Bool, cond-true, cond-false}
use Rattle.std.proofs.lemmas.Option.{none-some}
use Rattle.event.specs.declared.Key.{Key}
use Rattle.event.specs.declared.Message.{Message}
use Rattle.event.specs.Keys.{key_of, before, same}
use Rattle.event.specs.Lists.{first, rest, Rising, Sorted}
use Rattle.event.proofs.Insertion.{rising_back}
use Rattle.event.proofs.Orders.{never, apart, same_true, same_from}
use Rattle.group.specs.Groups.{has}
use Rattle.calendar.specs.declared.Held.{Held}
use Rattle.calendar.specs.Calls.{key_of_held, waiting}
use Rattle.calendar.specs.Laws.{message_of, messages_of}
use Rattle.model.specs.Meaning.{Meaning, Law}
use Rattle.day.proofs.Tidy.{first_rest}
use Rattle.account.specs.Account.{Account, least, runs}
use Rattle.account.specs.Finds.{find}
use Rattle.account.specs.Sound.{Sound}
use Rattle.account.proofs.Bounds.{least_runs}
use Rattle.account.proofs.Events.{all_first}
use Rattle.account.proofs.Finding.{find_rest}
use Rattle.account.proofs.Step.{Ran, least_none, least_first, who, runs_live, ran_from}
use Rattle.follows.specs.Follows.{HeldFollow}
use Rattle.follows.specs.Steps.{head_key, with_key, without_key}
use Rattle.follows.proofs.Below.{any_at}
use Rattle.follows.proofs.Held.{messages_here}

-- a test of messages may be made before a variant's are told, or after
messages_filter : (p : Message → Bool) (v : ℕ) (xs : List Held) → messages_of v (filter (λ h. p h.message) xs) ≡ filter p (messages_of v xs)
messages_filter p v [] = refl
messages_filter p v (x ∷ xs) = go (cases_Bool (p x.message)) (cases_Bool (has x.group v)) (messages_filter p v xs)
  where
    Goal : List Held → Type 0
    Goal ys = messages_of v (filter (λ h. p h.message) ys) ≡ filter p (messages_of v ys)

    go : (p x.message ≡ true) ⊎ (p x.message ≡ false) → (has x.group v ≡ true) ⊎ (has x.group v ≡ false) → Goal xs → Goal (x ∷ xs)
    go (inl a) (inl b) ih = simp (a, b) (ap (λ l. x.message ∷ l) ih)
    go (inl a) (inr b) ih = simp (a, b) ih
    go (inr a) (inl b) ih = simp (a, b) ih
    go (inr a) (inr b) ih = simp (a, b) ih

pub all_messages : (P : Message → Type 0) (v : ℕ) (xs : List Held) → AllByRecursion (λ h. P h.message) xs → AllByRecursion P (messages_of v xs)
all_messages P v xs a = All-map P message_of (waiting v xs) (all_kept_by (λ x. has x.group v) (λ h. P h.message) xs a)

abbrev is : Key → Message → Bool
is k m = same k (key_of m)

abbrev is_not : Key → Message → Bool
is_not k m = not (same k (key_of m))

-- where the key is not found, none has it
unfound : (k : Key) (ms : List Message) → find k ms ≡ None → (filter (is k) ms ≡ []) × (filter (is_not k) ms ≡ ms)
unfound k [] e = (refl, refl)
unfound k (m ∷ ms) e = go (cases_Bool (same k (key_of m))) (unfound k ms)
  where
    go : (same k (key_of m) ≡ true) ⊎ (same k (key_of m) ≡ false) → (find k ms ≡ None → (filter (is k) ms ≡ []) × (filter (is_not k) ms ≡ ms)) → (filter (is k) (m ∷ ms) ≡ []) × (filter (is_not k) (m ∷ ms) ≡ m ∷ ms)
    go (inl t) ih = absurd (none-some m (sym e ∙ cond-true (same k (key_of m)) (Some m) (find k ms) t))
    go (inr t) ih = let r = ih (sym (cond-false (same k (key_of m)) (Some m) (find k ms) t) ∙ e) in (simp t r.0, simp t (ap (λ l. m ∷ l) r.1))

-- where the first has the key, it alone has
first_has : (k : Key) (ms : List Message) (m : Message) → Rising key_of ms → first ms ≡ Some m → key_of m ≡ k → (filter (is k) ms ≡ m ∷ []) × (filter (is_not k) ms ≡ rest ms)
first_has k ms m h e q = subst (λ (l : List Message). (filter (is k) l ≡ m ∷ []) × (filter (is_not k) l ≡ rest l)) (sym (first_rest ms m e)) (simp t (ap (λ l. m ∷ l) u.0), simp t u.1)
  where
    t : same k (key_of m) ≡ true
    t = same_from k (key_of m) (sym q)

    u : (filter (is k) (rest ms) ≡ []) × (filter (is_not k) (rest ms) ≡ rest ms)
    u = unfound k (rest ms) (find_rest k ms m h e ∙ cond-true (same k (key_of m)) None (find k ms) t)

-- the first that v has is not before the first of all
first_not_before : (v : ℕ) (x : Held) (xs : List Held) → Sorted key_of_held (x ∷ xs) → (m : Message) → first (messages_of v (x ∷ xs)) ≡ Some m → before (key_of m) (key_of_held x) ≡ false
first_not_before v x xs s m e =
    all_first (λ y. before (key_of y) (key_of_held x) ≡ false) (messages_of v (x ∷ xs)) m (all_messages (λ y. before (key_of y) (key_of_held x) ≡ false) v (x ∷ xs) (never (key_of_held x), s.0)) e

module _ (M : Meaning) (A : Account) (s : Sound M A) where
  pub small : (u : ℕ) → A.live u ≡ true → u < 16
  small u l = let a = s.given u l in let b = s.few in omega arith

  abbrev pub Holds : List Held → Type 0
  Holds held = HeldFollow A.live held (λ v. (A.day v).waiting) A.marked

  -- the smallest key that waits is that of the first held message
  pub least_head : (held : List Held) → Holds held → least A 16 ≡ head_key held
  least_head [] f = go (least A 16) refl
    where
      go : (o : Option Key) → least A 16 ≡ o → least A 16 ≡ None
      go None e = e
      go (Some k) e =
          let r = any_at (runs A k) 16 (least_runs A 16 k e) in
          let m = ran_from A k r.0 r.2 in
          absurd (none-some m.0 (ap first (f.own r.0 (runs_live A k r.0 r.2)) ∙ m.1.head))
  least_head (x ∷ xs) f = go (least A 16) refl
    where
      u : ℕ
      u = f.fit.0.filled.0

      l : A.live u ≡ true
      l = f.fit.0.within u f.fit.0.filled.1

      first_u : first (A.day u).waiting ≡ Some x.message
      first_u = ap first (sym (f.own u l)) ∙ ap first (messages_here u x xs f.fit.0.filled.1)

      go : (o : Option Key) → least A 16 ≡ o → least A 16 ≡ Some (key_of_held x)
      go None e = absurd (none-some x.message (sym (least_none A 16 e u (small u l) l) ∙ first_u))
      go (Some k) e =
          let r = any_at (runs A k) 16 (least_runs A 16 k e) in
          let m = ran_from A k r.0 r.2 in
          let a : before k (key_of_held x) ≡ false = subst (λ j. before j (key_of_held x) ≡ false) m.1.key (first_not_before r.0 x xs f.sorted m.0 (ap first (f.own r.0 (runs_live A k r.0 r.2)) ∙ m.1.head)) in
          let b : before (key_of_held x) k ≡ false = least_first A 16 k e u (small u l) l x.message first_u in
          e ∙ ap Some (apart k (key_of_held x) a b)

  module _ (law : Law M) (k : Key) (least_is : least A 16 ≡ Some k) where
    -- what v takes: its message with the key k, or nothing
    pub data Takes (held : List Held) (v : ℕ) : Type 0 where
      takes : (m : Message) → Ran A k v m → messages_of v (with_key k held) ≡ m ∷ [] → messages_of v (without_key k held) ≡ rest (A.day v).waiting → Takes held v
      idle : runs A k v ≡ false → messages_of v (with_key k held) ≡ [] → messages_of v (without_key k held) ≡ (A.day v).waiting → Takes held v

    pub who_takes : (held : List Held) → Holds held → (v : ℕ) → A.live v ≡ true → Takes held v
    who_takes held f v l = go (who M law A s k least_is v l)
      where
        with : messages_of v (with_key k held) ≡ filter (is k) (A.day v).waiting
        with = messages_filter (is k) v held ∙ ap (filter (is k)) (f.own v l)

        without : messages_of v (without_key k held) ≡ filter (is_not k) (A.day v).waiting
        without = messages_filter (is_not k) v held ∙ ap (filter (is_not k)) (f.own v l)

        go : ((m : Message) × Ran A k v m) ⊎ ((runs A k v ≡ false) × (find k (A.day v).waiting ≡ None)) → Takes held v
        go (inl r) = let e = first_has k (A.day v).waiting r.0 (rising_back key_of (A.day v).journal (A.day v).waiting (s.tidy v l).rising) r.1.head r.1.key in takes r.0 r.1 (with ∙ e.0) (without ∙ e.1)
        go (inr r) = let e = unfound k (A.day v).waiting r.1 in idle r.0 (with ∙ e.0) (without ∙ e.1)

-- those taken have the key
pub taken_key : (k : Key) (held : List Held) → AllByRecursion (λ h. key_of_held h ≡ k) (with_key k held)
taken_key k held = All-weaker (λ h. same k (key_of_held h) ≡ true) (λ h. key_of_held h ≡ k) (λ h e. sym (same_true k (key_of_held h) e)) (with_key k held) (kept_by_passes (λ h. same k (key_of_held h)) held)
