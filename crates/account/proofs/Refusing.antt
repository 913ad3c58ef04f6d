-- The first case that is met is the smallest.
use Rattle.std.proofs.Common.{◌≡◌, ℕ, suc, ◌≤◌, Bool, true, false, cond, ltb, leb, ◌⊎◌, ◌<◌, ◌&&◌, ◌||◌, List, [], ◌∷◌, Some, None, Option, refl, inl, inr, ⊎_elim, sym, arith}
use Rattle.std.specs.Prelude.{MatchOption}
use Rattle.std.specs.List.{AllByRecursion}
use Rattle.std.proofs.lemmas.Bool.{both_ways, cond_both}
use Rattle.std.proofs.lemmas.Bool.Decides.{nat_tests}
use Rattle.event.specs.declared.Start.{Start}
use Rattle.refusal.specs.declared.Layer.TheVariants as layer
use Rattle.refusal.specs.declared.Refusal.{Refusal}
use Rattle.model.specs.Meaning.{Meaning}
use Rattle.account.specs.Account.{Account, Call, load, branch, decide, waive, step, retire, reading, events_of, entry_of, place_of, next_of, sharing, group_of, totals}
use Rattle.account.specs.Refusals.{Case, already_loaded, late_end, lost_start, late_start, full_start, cases, start_cases, first_met, sooner, NoneMet, Smallest}
use Rattle.std.proofs.lemmas.Option.{none-some}
use Rattle.account.specs.Claims.{SmallestGiven}

-- no case stands before an earlier one
abbrev Ascending : List Case → Type 0
Ascending [] = Unit {0}
Ascending (c ∷ cs) = AllByRecursion (λ d. sooner d.refusal c.refusal ≡ false) cs × Ascending cs

-- what holds of all holds of those that are met
when_met : (P : Case → Type 0) (cs : List Case) → AllByRecursion P cs → AllByRecursion (λ c. c.met ≡ true → P c) cs
when_met P [] h = tt
when_met P (c ∷ cs) h = (λ _. h.0, when_met P cs h.1)

first_smallest : (cs : List Case) → Ascending cs → MatchOption (first_met cs) (NoneMet cs) (λ r. Smallest r cs)
first_smallest [] a = tt
first_smallest (c ∷ cs) a =
    cond_both c.met (Some c.refusal) (first_met cs) (λ o. MatchOption o (NoneMet (c ∷ cs)) (λ r. Smallest r (c ∷ cs)))
    (λ e. record { met = inl (refl, e); least = (λ _. grind (arith, nat_tests), when_met (λ d. sooner d.refusal c.refusal ≡ false) cs a.0) })
    (λ e. past e (first_met cs) (first_smallest cs a.1))
  where
    past : c.met ≡ false → (o : Option _) → MatchOption o (NoneMet cs) (λ r. Smallest r cs) → MatchOption o (NoneMet (c ∷ cs)) (λ r. Smallest r (c ∷ cs))
    past e None h = (e, h)
    past e (Some r) h = record { met = inr h.met; least = (λ m. absurd (both_ways c.met e m), h.least) }

-- where the first is none, none is met
pub none_met : (cs : List Case) → first_met cs ≡ None → NoneMet cs
none_met [] e = tt
none_met (c ∷ cs) e = go c.met refl e (none_met cs)
  where
    go : (b : Bool) → c.met ≡ b → cond b (Some c.refusal) (first_met cs) ≡ None → (first_met cs ≡ None → NoneMet cs) → NoneMet (c ∷ cs)
    go true m h rest = absurd (none-some c.refusal (sym h))
    go false m h rest = (m, rest h)

-- the cases of all starting messages from position j on stand behind q: it has an earlier position, or no later one and a number below theirs
behind_starts : (M : Meaning) (capacity end : ℕ) (q : Refusal) (j : ℕ) (l : List Start) → (q.position < j) ⊎ ((q.position ≤ j) × (q.number < 5)) → AllByRecursion (λ d. sooner d.refusal q ≡ false) (start_cases M capacity end j l)
behind_starts M capacity end q j [] h = tt
behind_starts M capacity end q j (s ∷ l) h = (at (lost_start M j s).refusal (omega arith) refl, (at (late_start end j s).refusal (omega arith) refl, (at (full_start capacity j).refusal (omega arith) refl, behind_starts M capacity end q (suc j) l next)))
  where
    at : (r : Refusal) → 5 ≤ r.number → r.position ≡ j → sooner r q ≡ false
    at r n e = go h
      where
        go : (q.position < j) ⊎ ((q.position ≤ j) × (q.number < 5)) → sooner r q ≡ false
        go (inl a) = grind (arith, nat_tests)
        go (inr a) = let b = a.0 in let d = a.1 in grind (arith, nat_tests)

    next : (q.position < suc j) ⊎ ((q.position ≤ suc j) × (q.number < 5))
    next = inl (⊎_elim (λ a. omega arith) (λ a. let b = a.0 in omega arith) h)

ascending_starts : (M : Meaning) (capacity end i : ℕ) (l : List Start) → Ascending (start_cases M capacity end i l)
ascending_starts M capacity end i [] = tt
ascending_starts M capacity end i (s ∷ l) = ((same 5 6 (omega arith), (same 5 7 (omega arith), rest 5)), ((same 6 7 (omega arith), rest 6), (rest 7, ascending_starts M capacity end (suc i) l)))
  where
    same : (m n : ℕ) → m ≤ n → (ltb i i || (leb i i && ltb n m)) ≡ false
    same m n h = grind (arith, nat_tests)

    rest : (n : ℕ) → AllByRecursion (λ d. sooner d.refusal (record { number = n; layer = layer.Study; position = i }) ≡ false) (start_cases M capacity end (suc i) l)
    rest n = behind_starts M capacity end (record { number = n; layer = layer.Study; position = i }) (suc i) l (inl (omega arith))

ascending : (M : Meaning) (capacity : ℕ) (A : Account) (c : Call) → Ascending (cases M capacity A c)
ascending M capacity A (load l end) =
    ((refl, behind_starts M capacity end (already_loaded A).refusal 0 l (inr (omega arith, omega arith))), (behind_starts M capacity end (late_end end).refusal 0 l (inr (omega arith, omega arith)), ascending_starts M capacity end 0 l))
ascending M capacity A (branch v) = ((refl, (refl, (refl, tt))), ((refl, (refl, tt)), ((refl, tt), (tt, tt))))
ascending M capacity A (decide v place value) = ((refl, (refl, (refl, tt))), ((refl, (refl, tt)), ((refl, tt), (tt, tt))))
ascending M capacity A (waive v) = ((refl, tt), (tt, tt))
ascending M capacity A step = ((refl, (refl, (refl, tt))), ((refl, (refl, tt)), ((refl, tt), (tt, tt))))
ascending M capacity A (retire v) = ((refl, (refl, (refl, tt))), ((refl, (refl, tt)), ((refl, tt), (tt, tt))))
ascending M capacity A (reading (events_of v)) = ((refl, tt), (tt, tt))
ascending M capacity A (reading (entry_of v i)) = ((refl, (refl, tt)), ((refl, tt), (tt, tt)))
ascending M capacity A (reading (place_of v p)) = ((refl, (refl, tt)), ((refl, tt), (tt, tt)))
ascending M capacity A (reading (next_of v)) = ((refl, tt), (tt, tt))
ascending M capacity A (reading (sharing v w p)) = ((refl, (refl, tt)), ((refl, tt), (tt, tt)))
ascending M capacity A (reading (group_of v p)) = ((refl, (refl, tt)), ((refl, tt), (tt, tt)))
ascending M capacity A (reading totals) = (tt, tt)

pub smallest_given : SmallestGiven
smallest_given M capacity A c = first_smallest (cases M capacity A c) (ascending M capacity A c)
