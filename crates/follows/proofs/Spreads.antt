-- A child joins every group that has its parent.
use Rattle.std.proofs.Common.{◌≡◌, ℕ, ◌<◌, Bool, true, false, cond, not, ◌&&◌, ◌||◌, eqb, ltb, ◌⊎◌, List, [], ◌∷◌, map, Some, sym, refl, ap, ◌∙◌, subst, inl, inr, ⊎_elim}
use Rattle.std.specs.List.{AllByRecursion, slice_get}
use Rattle.std.proofs.ByRecursion.{All-weaker}
use Rattle.std.proofs.lemmas.Bool.{cond_both, cond-true, cond-false, cases_eq, eq-eqb, ne_eqb, false_from_ne_true, both_ways, and_parts, or_cases, or_left, or_right, lt-ltb}
use Rattle.event.specs.declared.Key.{Key}
use Rattle.event.specs.declared.Message.{Message}
use Rattle.event.specs.Keys.{key_of}
use Rattle.group.specs.Groups.{has}
use Rattle.calendar.specs.declared.Held.{Held}
use Rattle.calendar.specs.Calls.{waiting, joins, spread}
use Rattle.calendar.specs.Laws.{message_of}
use Rattle.calendar.proofs.Variants.{has_joins, joins_message, spread_laws}
use Rattle.account.specs.Account.{origin}
use Rattle.follows.specs.Follows.{Fit, HeldFollow, EntriesFollow}
use Rattle.follows.proofs.Entries.{entry_at, from_map}
use Rattle.follows.proofs.Held.{Grouped, all_both}

module _ (v c : ℕ) (small : c < 16) where
  -- the group has u now if it had the one that u stood for
  pub joins_origin : (x : Held) → has x.group c ≡ false → (u : ℕ) → has (joins v c x).group u ≡ has x.group (origin v c u)
  joins_origin x out u = has_joins v c u x ∙ go (cases_eq u c)
    where
      go : (u ≡ c) ⊎ (u ≡ c → ⊥) → ((has x.group v && (ltb c 16 && eqb u c)) || has x.group u) ≡ has x.group (origin v c u)
      go (inl e) = let a = eq-eqb u c e in let b : has x.group u ≡ false = ap (has x.group) e ∙ out in let d = lt-ltb c 16 small in simp (a, b, d) (last (has x.group v))
        where
          last : (b : Bool) → ((b && true) || false) ≡ b
          last true = refl
          last false = refl
      go (inr n) = let a = ne_eqb u c n in let d = lt-ltb c 16 small in simp (a, d) (last (has x.group v) (has x.group u))
        where
          last : (a b : Bool) → ((a && false) || b) ≡ b
          last true b = refl
          last false b = refl

  Clear : Held → Type 0
  Clear x = has x.group c ≡ false

  -- what u has now is what the one that u stood for had
  pub waiting_spread : (xs : List Held) → AllByRecursion (λ x. has x.group c ≡ false) xs → (u : ℕ) → waiting u (spread v c xs) ≡ map (joins v c) (waiting (origin v c u) xs)
  waiting_spread [] a u = refl
  waiting_spread (x ∷ xs) a u =
      ap (λ b. cond b (joins v c x ∷ waiting u (spread v c xs)) (waiting u (spread v c xs))) (joins_origin x a.0 u)
      ∙ ap (λ l. cond (has x.group (origin v c u)) (joins v c x ∷ l) l) (waiting_spread xs a.1 u)
      ∙ cond_both (has x.group (origin v c u)) (x ∷ waiting (origin v c u) xs) (waiting (origin v c u) xs)
      (λ l. cond (has x.group (origin v c u)) (joins v c x ∷ map (joins v c) (waiting (origin v c u) xs)) (map (joins v c) (waiting (origin v c u) xs)) ≡ map (joins v c) l)
      (λ t. cond-true _ _ _ t) (λ t. cond-false _ _ _ t)

  messages_joins : (xs : List Held) → map message_of (map (joins v c) xs) ≡ map message_of xs
  messages_joins [] = refl
  messages_joins (x ∷ xs) = ap (λ m. m ∷ map message_of (map (joins v c) xs)) (joins_message v c x) ∙ ap (λ l. x.message ∷ l) (messages_joins xs)

  all_spread : (P Q : Held → Type 0) (xs : List Held) → ((x : Held) → P x → Q (joins v c x)) → AllByRecursion P xs → AllByRecursion Q (spread v c xs)
  all_spread P Q [] f a = tt
  all_spread P Q (x ∷ xs) f a = (f x a.0, all_spread P Q xs f a.1)

  -- where c has nothing yet
  module _ (live : ℕ → Bool) (out : live c ≡ false) (on : (u : ℕ) → (eqb u c || live u) ≡ true → live (origin v c u) ≡ true) where
    clear : (x : Held) → Fit live x → has x.group c ≡ false
    clear x f = false_from_ne_true _ (λ t. both_ways (live c) out (f.within c t))

    fit_joins : (x : Held) → Fit live x → Fit (λ u. eqb u c || live u) (joins v c x)
    fit_joins x f = record {
      filled = (f.filled.0, has_joins v c f.filled.0 x ∙ or_right _ (has x.group f.filled.0) f.filled.1);
      within = λ u t. ⊎_elim (λ (e : (has x.group v && (ltb c 16 && eqb u c)) ≡ true). or_left (eqb u c) (live u) (and_parts (ltb c 16) (eqb u c) (and_parts (has x.group v) _ e).1).1)
          (λ (e : has x.group u ≡ true). or_right (eqb u c) (live u) (f.within u e)) (or_cases _ (has x.group u) (sym (has_joins v c u x) ∙ t));
    }

    pub held_spread : (held : List Held) (waits : ℕ → List Message) (marked : ℕ → ℕ → Key → Bool) → HeldFollow live held waits marked
        → HeldFollow (λ u. eqb u c || live u) (spread v c held) (λ u. waits (origin v c u)) (λ u w j. marked (origin v c u) (origin v c w) j)
    held_spread held waits marked f = record {
      sorted = (spread_laws v c held).sorted f.sorted;
      fit = all_spread (Fit live) (Fit (λ u. eqb u c || live u)) held fit_joins f.fit;
      own = λ u l. ap (map message_of) (waiting_spread held (All-weaker (Fit live) (λ x. has x.group c ≡ false) clear held f.fit) u) ∙ messages_joins (waiting (origin v c u) held) ∙ f.own (origin v c u) (on u l);
      grouped = all_spread (λ x. Fit live x × Grouped live marked x) (Grouped (λ u. eqb u c || live u) (λ u w j. marked (origin v c u) (origin v c w) j)) held
          (λ x g u w e l. joins_origin x (clear x g.0) w ∙ g.1 (origin v c u) (origin v c w) (sym (joins_origin x (clear x g.0) u) ∙ e) (on w l)
          ∙ ap (λ m. not (marked (origin v c u) (origin v c w) (key_of m))) (sym (joins_message v c x))) (all_both _ _ held f.fit f.grouped);
    }

    pub entries_spread : (entries : List Held) (journal : ℕ → List Message) (joint : ℕ → ℕ → ℕ → Bool) → EntriesFollow live entries journal joint
        → EntriesFollow (λ u. eqb u c || live u) (spread v c entries) (λ u. journal (origin v c u)) (λ u w i. joint (origin v c u) (origin v c w) i)
    entries_spread entries journal joint f = record {
      fit = all_spread (Fit live) (Fit (λ u. eqb u c || live u)) entries fit_joins f.fit;
      written = λ u l. ap (map message_of) (waiting_spread entries all_clear u) ∙ messages_joins (waiting (origin v c u) entries) ∙ f.written (origin v c u) (on u l);
      jointly = λ u w i e l k h.
          let r = from_map (joins v c) (waiting (origin v c u) entries) i e (subst (λ (xs : List Held). slice_get xs i ≡ Some e) (waiting_spread entries all_clear u) h) in
          let d = entry_at (Fit live) (origin v c u) i entries r.0 f.fit r.1 in
          ap (λ x. has x.group w) (sym r.2) ∙ joins_origin r.0 (clear r.0 d.0) w ∙ f.jointly (origin v c u) (origin v c w) i r.0 (on u l) (on w k) r.1;
    }
      where
        all_clear : AllByRecursion (λ x. has x.group c ≡ false) entries
        all_clear = All-weaker (Fit live) (λ x. has x.group c ≡ false) clear entries f.fit
