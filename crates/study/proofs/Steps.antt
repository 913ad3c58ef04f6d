-- A step is denied as the account's is, and leaves what it is to leave.
use Rattle.std.proofs.Common.{◌≡◌, ℕ, zero, suc, ◌+◌, ◌*◌, ◌≤◌, Bool, true, false, ltb, eqb, not, ◌&&◌, ◌||◌, List, [], ◌∷◌, ◌++◌, map, length, take, drop, Some, None, Option, sym, refl, ap, ◌∙◌, subst, append-nil, arith}
use Rattle.std.proofs.lemmas.Bool.Decides.{nat_tests}
use Rattle.std.proofs.lemmas.List.{take_all, length-take}
use Rattle.std.proofs.lemmas.Bool.{cond_both}
use Rattle.std.specs.List.{filter}
use Rattle.event.specs.Keys.{same}
use Rattle.account.proofs.Leaders.{sum_none}
use Rattle.std.proofs.lemmas.Option.{none-some, same_Some}
use Rattle.event.proofs.Orders.{same_from}
use Rattle.event.specs.declared.Key.{Key}
use Rattle.event.specs.Lists.{first, Sorted}
use Rattle.calendar.specs.declared.Held.{Held}
use Rattle.calendar.specs.Calls.{key_of_held, leading, waiting}
use Rattle.model.specs.Meaning.{Meaning, Law}
use Rattle.account.specs.Account.{Account, step}
use Rattle.account.specs.Refusals.{by_study, first_met}
use Rattle.copies.specs.Sharing.{groups, shares, shares_stepped}
use Rattle.follows.specs.View.{View}
use Rattle.follows.specs.Steps.{group_of, with_key, without_key, head_key, leads_in, leaders, leaders_at, took_all, turns, stepped, stepped_at, shares_after}
use Rattle.follows.specs.Refusing.{refusal_of, step_cases, unloaded}
use Rattle.follows.specs.Accounted.{Accounted}
use Rattle.follows.proofs.Ready.{heads_few, leaders_stay, turns_ready}
use Rattle.follows.proofs.Fronts.{leading_with_key, take_heads, drop_heads}
use Rattle.group.specs.declared.Group.{Group}
use Rattle.group.specs.Groups.{has}
use Rattle.copies.specs.Executions.{executions as counted, leads_message}
use Rattle.study.specs.Turns.{Led, TurnsReady, fault_by, receiver_of, step_fault}
use Rattle.std.proofs.Common.{Ok, Result}
use Rattle.std.specs.Result.{IsErr, result_err}
use Rattle.calendar.specs.Contents.{Contents, holding}
use Rattle.day.specs.declared.place.Place.{Place}
use Rattle.account.specs.Answers.{ran}
use Rattle.copies.specs.Cells.{cell_of}
use Rattle.follows.specs.Follows.{Alike}
use Rattle.study.specs.declared.Study.{Study}
use Rattle.study.specs.declared.register.Register.{Register}
use Rattle.study.specs.declared.fault.StudyFault.{StudyFault}
use Rattle.study.specs.Promises.{view_from, view_of, Answers, Keeps, SameParts, Serves}
use Rattle.study.proofs.Promises.{told_by, denial, told_answers, told_err, told_accepted, keeps_err, keeps_accepted}

-- the first of the refusals that are met
four : (l a b c : Bool) → first_met (by_study 2 (not l) ∷ by_study 7 a ∷ by_study 14 b ∷ by_study 15 c ∷ []) ≡ told_by (fault_by l a b c)
four false a b c = refl
four true true b c = refl
four true false true c = refl
four true false false true = refl
four true false false false = refl

none_held : (xs : List Held) → head_key xs ≡ None → xs ≡ []
none_held [] e = refl
none_held (x ∷ xs) e = absurd (none-some (key_of_held x) (sym e))

receiver_first : (k : Key) (xs : List Held) → head_key xs ≡ Some k → receiver_of (leading xs) ≡ k.receiver
receiver_first k [] e = absurd (none-some k e)
receiver_first k (x ∷ xs) e = simp (same_from (key_of_held x) (key_of_held x) refl) (ap (λ j. j.receiver) (same_Some (key_of_held x) k e))

few_pass : {X : Type 0} (p : X → Bool) (xs : List X) → length (filter p xs) ≤ length xs
few_pass p [] = omega arith
few_pass p (x ∷ xs) = cond_both (p x) (x ∷ filter p xs) (filter p xs) (λ l. length l ≤ suc (length xs)) (λ _. let a = few_pass p xs in omega arith) (λ _. let a = few_pass p xs in omega arith)

few_lead : (xs : List Held) → length (leading xs) ≤ length xs
few_lead [] = omega arith
few_lead (x ∷ xs) = few_pass (λ y. same (key_of_held x) (key_of_held y)) (x ∷ xs)

-- no more heads than messages
pub heads_held : (xs heads : List Held) → heads ≡ take 16 (leading xs) → length heads ≤ length xs
heads_held xs heads e = let a = ap length e in let b = length-take 16 (leading xs) in let d = few_lead xs in omega (arith, a, b, d)

-- where nothing is taken, who shares stays
none_apart : (cell : ℕ → ℕ → ℕ) (p x y : ℕ) → shares_stepped cell [] 0 p x y ≡ shares cell p x y
none_apart cell p x y = stays (shares cell p x y) (not (eqb p 0))
  where
    stays : (b c : Bool) → (b && (c || true)) ≡ b
    stays true true = refl
    stays true false = refl
    stays false c = refl

-- no turn has anything to run
turns_idle : (M : Meaning) (V : View) (n : ℕ) → turns M [] V n ≡ V
unfolding turns
turns_idle M V zero = refl
turns_idle M V (suc n) = turns_idle M V n

-- what is left once the messages are taken
abbrev pub taken_view : View → List Held → View
taken_view V heads = record V { held = drop (length heads) V.held; entries = V.entries ++ take (length heads) V.held }

module _ (M : Meaning) (law : Law M) (capacity : ℕ) (V : View) (A : Account) (a : Accounted M capacity V A) (heads : List Held) (executions : ℕ)
    (h : heads ≡ take 16 (leading V.held)) (e : executions ≡ counted V.cell heads) where
  heads_some : (k : Key) → head_key V.held ≡ Some k → heads ≡ with_key k V.held
  heads_some k q =
      let w = leading_with_key k V.held q in
      let few = heads_few M capacity law V A a k q in
      h ∙ ap (take 16) (sym w) ∙ take_all 16 (with_key k V.held) few

  heads_none : head_key V.held ≡ None → heads ≡ []
  heads_none q = h ∙ ap (λ xs. take 16 (leading xs)) (none_held V.held q)

  worked_some : (k : Key) → head_key V.held ≡ Some k → executions ≡ leaders V k
  worked_some k q = e ∙ ap (counted V.cell) (heads_some k q)

  worked_none : head_key V.held ≡ None → executions ≡ 0
  worked_none q = e ∙ ap (counted V.cell) (heads_none q) ∙ sum_none 16

  -- what it tells
  pub step_executions : executions ≡ leaders_at V (head_key V.held)
  step_executions = go (head_key V.held) refl
    where
      go : (o : Option Key) → head_key V.held ≡ o → executions ≡ leaders_at V o
      go None q = worked_none q
      go (Some k) q = worked_some k q

  -- what it is denied for
  pub step_same : refusal_of M capacity V step ≡ told_by (step_fault M capacity V heads executions)
  step_same = go (head_key V.held) refl
    where
      go : (o : Option Key) → head_key V.held ≡ o → first_met (unloaded V ∷ step_cases M capacity V o) ≡ told_by (step_fault M capacity V heads executions)
      go None q =
          let n : ltb (capacity + length heads) (length V.held + 2 * executions) ≡ false = let x = ap length (none_held V.held q) in let y = worked_none q in grind (arith, nat_tests) in
          let l : length V.entries + length heads ≡ length V.entries = let x = ap length (heads_none q) in omega (arith, x) in
          four V.loaded false (ltb 2048 (length V.entries)) (ltb 128 (groups M.places V.live (shares V.cell)))
          ∙ (λ i. told_by (fault_by V.loaded (sym n i) (ltb 2048 (sym l i)) (ltb 128 (groups M.places V.live (λ p x y. sym (none_apart V.cell p x y) i)))))
          ∙ (λ i. told_by (fault_by V.loaded (ltb (capacity + length heads) (length V.held + 2 * executions)) (ltb 2048 (length V.entries + length heads)) (ltb 128 (groups M.places V.live (shares_stepped V.cell (map group_of (sym (heads_none q) i)) (receiver_of (sym (heads_none q) i)))))))
      go (Some k) q =
          let r : receiver_of heads ≡ k.receiver = ap receiver_of (heads_some k q ∙ leading_with_key k V.held q) ∙ receiver_first k V.held q in
          four V.loaded (ltb (capacity + length (with_key k V.held)) (length V.held + 2 * leaders V k)) (ltb 2048 (length V.entries + length (with_key k V.held))) (ltb 128 (groups M.places V.live (shares_after V k)))
          ∙ (λ i. told_by (fault_by V.loaded (ltb (capacity + length (sym (heads_some k q) i)) (length V.held + 2 * sym (worked_some k q) i)) (ltb 2048 (length V.entries + length (sym (heads_some k q) i)))
          (ltb 128 (groups M.places V.live (shares_stepped V.cell (map group_of (sym (heads_some k q) i)) (sym r i))))))

  taken_some : Sorted key_of_held V.held → (k : Key) → head_key V.held ≡ Some k → (taken_view V heads) ≡ took_all V k
  taken_some s k q = λ i. record V { held = held i; entries = V.entries ++ entries i }
    where
      held : drop (length heads) V.held ≡ without_key k V.held
      held = ap (λ xs. drop (length xs) V.held) (heads_some k q) ∙ drop_heads k V.held s q

      entries : take (length heads) V.held ≡ with_key k V.held
      entries = ap (λ xs. take (length xs) V.held) (heads_some k q) ∙ take_heads k V.held s q

  -- every turn can run
  pub step_ready : capacity ≤ 4096 → refusal_of M capacity V step ≡ None → TurnsReady M capacity heads (taken_view V heads)
  step_ready most accepted = go (head_key V.held) refl
    where
      go : (o : Option Key) → head_key V.held ≡ o → TurnsReady M capacity heads (taken_view V heads)
      go None q = λ v l x f lead. absurd (none-some x (sym (ap (λ xs. first (waiting v xs)) (heads_none q)) ∙ f))
      go (Some k) q = subst (λ (xs : List Held). TurnsReady M capacity xs (taken_view V heads)) (sym (heads_some k q))
          (subst (λ (W : View). TurnsReady M capacity (with_key k V.held) W) (sym (taken_some a.follows.messages.sorted k q))
          (λ v l x f lead. turns_ready M capacity law most V A a accepted k v x q l f lead))

  -- and who leads now leads at its turn
  pub step_led : refusal_of M capacity V step ≡ None → (who : Group) → ((v : ℕ) → has who v ≡ leads_message V.cell v (first (waiting v heads))) → Led M heads (taken_view V heads) who
  step_led accepted who members = go (head_key V.held) refl
    where
      go : (o : Option Key) → head_key V.held ≡ o → Led M heads (taken_view V heads) who
      go None q = λ v. members v ∙ (λ i. leads_message V.cell v (first (waiting v (heads_none q i)))) ∙ (λ i. leads_in (turns M heads (taken_view V heads) v) v (first (waiting v (sym (heads_none q) i))))
      go (Some k) q = λ v.
          members v ∙ (λ i. leads_in V v (first (waiting v (heads_some k q i)))) ∙ sym (leaders_stay M capacity law V A a accepted k v q)
          ∙ (λ i. leads_in (turns M (sym (heads_some k q) i) (sym (taken_some a.follows.messages.sorted k q) i) v) v (first (waiting v (sym (heads_some k q) i))))

  -- and then all that the step leaves is left
  pub step_left : turns M heads (taken_view V heads) 16 ≡ stepped M V
  step_left = go (head_key V.held) refl
    where
      go : (o : Option Key) → head_key V.held ≡ o → turns M heads (taken_view V heads) 16 ≡ stepped_at M V o
      go None q = (λ i. turns M (heads_none q i) (record V { held = drop (length (heads_none q i)) V.held; entries = V.entries ++ take (length (heads_none q i)) V.held }) 16) ∙ turns_idle M (record V { entries = V.entries ++ [] }) 16 ∙ (λ i. record V { entries = append-nil V.entries i })
      go (Some k) q = (λ i. turns M (heads_some k q i) (taken_some a.follows.messages.sorted k q i) 16)

pub alike_same : (places : ℕ) (V W : View) → V ≡ W → Alike places V W
alike_same places V W e =
    subst (λ (X : View). Alike places V X) e
    (record { loaded = refl; end = refl; held = refl; entries = refl; live = λ v. refl; undecided = λ v. refl; made = refl; executions = refl; puts = refl; cell = λ v p l w. refl; content = λ v p l w. refl })

-- what a step promises, by the messages found and the executions counted
module _ {C M : Type 0} (contents : C → Contents) (meaning : M → Meaning) (law : (m : M) → Law (meaning m)) (s : Study C M) (heads : List Held) (executions : ℕ)
    (h : heads ≡ take 16 (leading (contents s.calendar).held)) (e : executions ≡ counted (cell_of s.copies) heads) where
  abbrev pub step_fault_of : Option StudyFault
  step_fault_of = step_fault (meaning s.model) (contents s.calendar).room (view_of contents s) heads executions

  why : (A : Account) → Serves contents meaning s A → (o : Option StudyFault) → step_fault_of ≡ o → denial contents meaning law s step ≡ told_by o
  why A a o q = step_same (meaning s.model) (law s.model) _ (view_of contents s) A a heads executions h e ∙ ap told_by q

  pub step_refused : (r : Result ℕ StudyFault) → IsErr r → step_fault_of ≡ result_err r → Answers contents meaning s step ran r × Keeps contents meaning s step s
  step_refused r i q = (
    λ A a. told_answers contents meaning law s step ran r (told_err contents meaning law s step ran r i (why A a _ q)) A a,
    λ A a. keeps_err contents meaning law s step r i (why A a _ q) A a,
  )

  pub step_answers : step_fault_of ≡ None → Answers contents meaning s step ran (Ok executions)
  step_answers q A a =
      told_answers contents meaning law s step ran (Ok executions)
      (told_accepted contents meaning law s step ran executions (why A a None q) (ap ran (step_executions (meaning s.model) (law s.model) _ (view_of contents s) A a heads executions h e))) A a

  pub step_keeps : (t : Study C M) (who : Group) → ((v : ℕ) → has who v ≡ leads_message (cell_of s.copies) v (first (waiting v heads))) → (contents s.calendar).room ≤ 4096 → step_fault_of ≡ None → SameParts contents s t
      → (TurnsReady (meaning s.model) (contents s.calendar).room heads (taken_view (view_of contents s) heads) → Led (meaning s.model) heads (taken_view (view_of contents s) heads) who → view_of contents t ≡ turns (meaning s.model) heads (taken_view (view_of contents s) heads) 16) → Keeps contents meaning s step t
  step_keeps t who members most q parts turned A a =
      let M = meaning s.model in
      let V = view_of contents s in
      let ready = step_ready M (law s.model) _ V A a heads executions h e most (why A a None q) in
      let led = step_led M (law s.model) _ V A a heads executions h e (why A a None q) who members in
      keeps_accepted contents meaning law s step t (why A a None q) parts (λ B b. alike_same M.places (stepped M V) (view_of contents t) (sym (turned ready led ∙ step_left M (law s.model) _ V A a heads executions h e))) A a

-- what is held once the messages are taken
pub view_taken : (old new : Contents) (register : Register) (cell : ℕ → ℕ → ℕ) (content : ℕ → Place) (entries entries' heads : List Held) (n : ℕ) → n ≡ length heads → new ≡ holding (drop n old.held) old → entries' ≡ entries ++ take n old.held
    → view_from new register cell content entries' ≡ taken_view (view_from old register cell content entries) heads
view_taken old new register cell content entries entries' heads n l k j = λ i.
    view_from ((k ∙ ap (λ m. holding (drop m old.held) old) l) i) register cell content ((j ∙ ap (λ m. entries ++ take m old.held) l) i)
