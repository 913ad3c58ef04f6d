-- The start of a step: all messages with the smallest key are taken, and none has run.
use Rattle.std.proofs.Common.{◌≡◌, ℕ, ◌+◌, ◌*◌, ◌<◌, ◌≤◌, true, false, cond, not, ◌&&◌, ◌||◌, eqb, ◌⊎◌, List, ◌++◌, map, length, Some, None, sym, refl, ap, ◌∙◌, subst, inl, inr, ⊎_elim, arith}
use Rattle.std.specs.List.{AllByRecursion, slice_get}
use Rattle.std.proofs.ByRecursion.{All-weaker, All-append, all_kept_by}
use Rattle.std.proofs.lemmas.Bool.{cases_Bool, cond-true, cond-false, eq-eqb, ne_eqb, and_from, and_left, and_right, or_from}
use Rattle.std.proofs.lemmas.List.{append-nil, length-map, map-append}
use Rattle.std.proofs.lemmas.List.Elements.{filter-append}
use Rattle.std.proofs.lemmas.List.Filters.{length-filter_both}
use Rattle.std.proofs.lemmas.Option.{none-some, slice_get_within}
use Rattle.event.specs.declared.Key.{Key}
use Rattle.event.specs.declared.Message.{Message}
use Rattle.event.specs.Keys.{same}
use Rattle.event.specs.Lists.{rest}
use Rattle.group.specs.Groups.{has}
use Rattle.calendar.specs.declared.Held.{Held}
use Rattle.calendar.specs.Calls.{key_of_held, waiting}
use Rattle.calendar.specs.Laws.{message_of, messages_of}
use Rattle.calendar.proofs.Variants.{kept_sorted}
use Rattle.model.specs.Meaning.{Meaning, Law}
use Rattle.account.specs.Account.{Account, any_below, sum_below, least, runs, sends, fed_step_at}
use Rattle.account.specs.Finds.{find}
use Rattle.account.specs.Groups.{held, taken}
use Rattle.account.specs.Sound.{Sound}
use Rattle.account.proofs.Step.{Ran, who, day_ran, day_idle}
use Rattle.follows.specs.View.{View}
use Rattle.follows.specs.Follows.{Follows, Fit, HeldFollow, EntriesFollow}
use Rattle.follows.specs.Steps.{with_key, without_key, took_all}
use Rattle.follows.proofs.Mid.{Mid, done, waiting_mid, marked_mid}
use Rattle.follows.proofs.Cells.{cells_like}
use Rattle.follows.proofs.Counting.{held_count, taken_count}
use Rattle.follows.proofs.Entries.{entry_at, entry_append}
use Rattle.follows.proofs.Held.{Grouped, all_both}
use Rattle.follows.proofs.Taking.{Takes, takes, idle, who_takes, taken_key}

pub messages_append : (v : ℕ) (xs ys : List Held) → messages_of v (xs ++ ys) ≡ messages_of v xs ++ messages_of v ys
messages_append v xs ys = ap (map message_of) (filter-append (λ x. has x.group v) xs ys) ∙ map-append message_of (waiting v xs) (waiting v ys)

pub length_messages : (v : ℕ) (xs : List Held) → length (messages_of v xs) ≡ length (waiting v xs)
length_messages v xs = length-map (waiting v xs) message_of

-- none has run yet
done_none : (A : Account) (k : Key) (u : ℕ) → done A k 0 u ≡ false
unfolding any_below
done_none A k u = and_right (runs A k u) _ refl

module _ (M : Meaning) (law : Law M) (A : Account) (s : Sound M A) (k : Key) (least_is : least A 16 ≡ Some k) (V : View) (f : Follows M V A) where
  abbrev A' : Account
  A' = fed_step_at M A (Some k)

  abbrev heads : List Held
  heads = with_key k V.held

  who_has : (u : ℕ) → A.live u ≡ true → Takes M A s law k least_is V.held u
  who_has u l = who_takes M A s law k least_is V.held f.messages u l

  unmarked : (u w : ℕ) (j : Key) → marked_mid M A k 0 u w j ≡ A.marked u w j
  unmarked u w j = cond-false ((done A k 0 u && sends M A k u j) || (done A k 0 w && sends M A k w j)) _ _ (or_from _ _ (and_left (done A k 0 u) _ (done_none A k u)) (and_left (done A k 0 w) _ (done_none A k w)))

  waits : (u : ℕ) → Takes M A s law k least_is V.held u → messages_of u (without_key k V.held) ≡ cond (runs A k u) (rest (A.day u).waiting) (A.day u).waiting
  waits u (takes m r a b) = b ∙ sym (cond-true (runs A k u) _ _ r.ran)
  waits u (idle r a b) = b ∙ sym (cond-false (runs A k u) _ _ r)

  messages_start : HeldFollow A.live (without_key k V.held) (waiting_mid M A k 0) (marked_mid M A k 0)
  messages_start = record {
    sorted = kept_sorted _ V.held f.messages.sorted;
    fit = all_kept_by _ (Fit A.live) V.held f.messages.fit;
    own = λ u l. waits u (who_has u l) ∙ sym (cond-false (done A k 0 u) _ _ (done_none A k u));
    grouped = All-weaker (Grouped A.live A.marked) (Grouped A.live (marked_mid M A k 0)) (λ h g u w e l. g u w e l ∙ ap not (sym (unmarked u w (key_of_held h)))) (without_key k V.held)
        (all_kept_by _ (Grouped A.live A.marked) V.held f.messages.grouped);
  }

  fits : AllByRecursion (Fit A.live) heads
  fits = all_kept_by _ (Fit A.live) V.held f.messages.fit

  written : (u : ℕ) → Takes M A s law k least_is V.held u → (A.day u).journal ++ messages_of u heads ≡ (A'.day u).journal
  written u (takes m r a b) = ap (λ l. (A.day u).journal ++ l) a ∙ sym (ap (λ d. d.journal) (day_ran M law A s k least_is u m r))
  written u (idle r a b) = ap (λ l. (A.day u).journal ++ l) a ∙ append-nil (A.day u).journal ∙ sym (ap (λ d. d.journal) (day_idle M law A s k least_is u r))

  lengths : (u : ℕ) → A.live u ≡ true → length (waiting u V.entries) ≡ length (A.day u).journal
  lengths u l = sym (length_messages u V.entries) ∙ ap length (f.journals.written u l)

  -- where the key is not marked for one that runs it, the other runs it
  other_runs : (u w : ℕ) (m : Message) → A.live u ≡ true → A.live w ≡ true → Ran A k u m → A.marked u w k ≡ false → runs A k w ≡ true
  other_runs u w m l lw r c = go (who M law A s k least_is w lw)
    where
      go : ((m : Message) × Ran A k w m) ⊎ ((runs A k w ≡ false) × (find k (A.day w).waiting ≡ None)) → runs A k w ≡ true
      go (inl x) = x.1.ran
      go (inr x) = absurd (none-some m (sym x.1 ∙ sym (s.wait_same u w k l lw c) ∙ r.found))

  both : (u w : ℕ) (m : Message) → A.live u ≡ true → A.live w ≡ true → Ran A k u m → not (A.marked u w k) ≡ (runs A k w && not (A.marked u w k))
  both u w m l lw r =
      ⊎_elim (λ (c : A.marked u w k ≡ true). simp c (sym (and_right (runs A k w) false refl))) (λ (c : A.marked u w k ≡ false). let d = other_runs u w m l lw r c in simp (c, d)) (cases_Bool (A.marked u w k))

  joint : (u w i : ℕ) (e : Held) → A.live u ≡ true → A.live w ≡ true → Takes M A s law k least_is V.held u
      → ((slice_get (waiting u V.entries) i ≡ Some e) × (i < length (waiting u V.entries))) ⊎ ((j : ℕ) × (i ≡ length (waiting u V.entries) + j) × (slice_get (waiting u heads) j ≡ Some e)) → has e.group w ≡ A'.joint u w i
  joint u w i e l m t (inl h) =
      let n : (i ≡ length (A.day u).journal → ⊥) = λ d. let a = h.1 in let b = lengths u l in let z : ⊥ = omega arith in z in
      f.journals.jointly u w i e l m h.0 ∙ sym (cond-false (runs A k u && eqb i (length (A.day u).journal)) _ _ (and_right (runs A k u) _ (ne_eqb i (length (A.day u).journal) n)))
  joint u w i e l m (idle r a b) (inr h) =
      let c = slice_get_within (waiting u heads) h.0 e h.2 in let d = ap length a in let g = length_messages u heads in
      absurd (let z : ⊥ = omega arith in z)
  joint u w i e l m (takes x r a b) (inr h) =
      let g = entry_at (λ y. (key_of_held y ≡ k) × Grouped A.live A.marked y) u h.0 heads e (all_both _ _ heads (taken_key k V.held) (all_kept_by _ (Grouped A.live A.marked) V.held f.messages.grouped)) h.2 in
      let at : i ≡ length (A.day u).journal = (let c = slice_get_within (waiting u heads) h.0 e h.2 in let d = ap length a in let n = length_messages u heads in let b = lengths u l in let q = h.1 in omega arith) in
      g.0.1 u w g.1 m ∙ ap (λ j. not (A.marked u w j)) g.0.0 ∙ both u w x l m r
      ∙ sym (cond-true (runs A k u && eqb i (length (A.day u).journal)) _ _ (and_from (runs A k u) _ r.ran (eq-eqb i (length (A.day u).journal) at)))

  pub journals_start : EntriesFollow A.live (V.entries ++ with_key k V.held) (λ v. (A'.day v).journal) A'.joint
  journals_start = record {
    fit = All-append (Fit A.live) V.entries heads f.journals.fit fits;
    written = λ u l. messages_append u V.entries heads ∙ ap (λ js. js ++ messages_of u heads) (f.journals.written u l) ∙ written u (who_has u l);
    jointly = λ u w i e l m h. joint u w i e l m (who_has u l) (entry_append u i V.entries heads e h);
  }

  few_start : length (without_key k V.held) + taken A k ≤ held A + 2 * 0
  few_start =
      let a = taken_count M A s law k least_is V.held f.messages in let b = held_count M A s V.held f.messages in
      let c = length-filter_both (λ (h : Held). same k (key_of_held h)) (λ (h : Held). not (same k (key_of_held h))) (λ h. refl) V.held in
      omega (arith, a, b, c)

  pub mid_start : Mid M A k 0 (took_all V k)
  unfolding sum_below
  mid_start = record {
    same_loaded = f.same_loaded;
    same_end = f.same_end;
    same_live = f.same_live;
    same_undecided = f.same_undecided;
    same_made = f.same_made;
    cells = cells_like M.places A.live V.cell V.content _ _ f.cells _ _
        (λ u p l h. sym (cond-false (done A k 0 u) _ _ (done_none A k u)))
        (λ u w p l m h. sym (cond-false (done A k 0 u || done A k 0 w) _ _ (or_from _ _ (done_none A k u) (done_none A k w))));
    messages = messages_start;
    journals = journals_start;
    same_executions = f.same_executions ∙ (let z : A.executions ≡ A.executions + 0 = omega arith in z);
    few_puts = subst (λ n. V.puts ≤ length A.load + 2 * n) (sym f.same_executions) f.few_puts;
    few_held = few_start;
  }
