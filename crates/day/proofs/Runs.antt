-- Events one after the other, and a closure that is told of each.
use Rattle.std.proofs.Common.{◌≡◌, ℕ, zero, suc, ◌≤◌, List, [], ◌∷◌, ◌++◌, true, is_ok, Some, Ok, Err, MatchResult, Result, sym, ap, ◌∙◌, subst, ⊎_elim, arith}
use Rattle.std.specs.Borrow.{Bor}
use Rattle.std.specs.List.{FoldsTo}
use Rattle.std.proofs.lemmas.Bool.{cases_lt, true≢false}
use Rattle.std.proofs.lemmas.Fn.{FoldsTo-push}
use Rattle.event.specs.declared.Start.{Start}
use Rattle.event.specs.Lists.{first}
use Rattle.model.specs.Meaning.{Meaning, Law}
use Rattle.day.specs.declared.fault.Stop.{Stop}
use Rattle.day.specs.declared.fault.Stop.TheVariants.{Untold}
use Rattle.day.specs.declared.lone.LoneDay.{LoneDay}
use Rattle.day.specs.declared.place.Ran.{Ran}
use Rattle.day.specs.Alone.{Alone, Order}
use Rattle.day.specs.Answers.{event_answer}
use Rattle.day.specs.Day.{Day, event}
use Rattle.day.specs.Held.{day_of}
use Rattle.day.specs.Runs.{Later, Outcome, Tells, Told, events, next_ran, rans}
use Rattle.day.specs.Tidy.{Tidy}
use Rattle.day.proofs.Alone.{alone_event}
use Rattle.day.proofs.Tidy.{tidy_event}

pub alone_later : (M : Meaning) (end : ℕ) (d e : Day) → Later M end d e → (starts : List Start) (orders : List Order) → Alone M end starts orders d → Alone M end starts orders e
alone_later M end d e l starts orders a = subst (Alone M end starts orders) (sym l.day) (go l.count)
  where
    go : (n : ℕ) → Alone M end starts orders (events M end n d)
    go zero = a
    go (suc n) = alone_event M end starts orders (events M end n d) (go n)

pub tidy_later : (M : Meaning) → Law M → (end : ℕ) (d e : Day) → Later M end d e → Tidy M d → Tidy M e
tidy_later M law end d e l t = subst (Tidy M) (sym l.day) (go l.count)
  where
    go : (n : ℕ) → Tidy M (events M end n d)
    go zero = t
    go (suc n) = tidy_event M law end (events M end n d) (go n)

next_told : (M : Meaning) (capacity : ℕ) (d : Day) (r : Ran) → event_answer M capacity d ≡ Ok (Some r) → next_ran M d (first d.waiting) ≡ r ∷ []
next_told M capacity d r e = grind arith

-- one event more, after those that led to the day d were told
module _ {X F E : Type 0} (step : F → Bor X → Bor Ran → Result (Unit {0}) E → F → Type 0) (M : Meaning) (old : LoneDay X) (tell : F) (d : Day) (f : F) (t : Told step M old tell d f) (ran : Ran) (next : event_answer M old.waiting.capacity d ≡ Ok (Some ran)) (e : Day) (day : e ≡ event M old.waiting.end d) where
  abbrev end : ℕ
  end = old.waiting.end

  abbrev was : Day
  was = day_of M old

  here : event_answer M old.waiting.capacity (events M end t.count was) ≡ Ok (Some ran)
  here = subst (λ (x : Day). event_answer M old.waiting.capacity x ≡ Ok (Some ran)) t.day next

  more : e ≡ events M end (suc t.count) was
  more = day ∙ ap (event M end) t.day

  pub later_more : Later M end was e
  later_more = record { count = suc t.count; day = more }

  -- it is told
  pub told_more : (a : Bor X) (b : Bor Ran) → (a.now ≡ old.model) × (b.now ≡ ran) → (r : Result (Unit {0}) E) (g : F) → is_ok r ≡ true → step f a b r g → Told step M old tell e g
  told_more a b shows (Ok _) g ok call = record {
    count = suc t.count;
    day = more;
    room = λ n l. ⊎_elim (t.room n) (λ (past : t.count ≤ n). let last : n ≡ t.count = omega arith in grind (arith, here)) (cases_lt n t.count);
    calls = subst (λ (rs : List Ran). FoldsTo Calls tell (rans M end t.count was ++ rs) g) (sym (next_told M old.waiting.capacity (events M end t.count was) ran here))
        (FoldsTo-push Calls tell (rans M end t.count was) f ran g t.calls (record { first = a; second = b; shows = shows; called = call }));
  }
    where
      Calls : F → Ran → F → Type 0
      Calls g r h = Tells (λ x y. step g x y (Ok tt) h) old.model r
  told_more a b shows (Err _) g ok call = absurd (true≢false (sym ok))

  -- telling of it fails
  pub told_failing : (a : Bor X) (b : Bor Ran) → (a.now ≡ old.model) × (b.now ≡ ran) → (r : Result (Unit {0}) E) (g : F) (o : Result (Unit {0}) (Stop E)) → MatchResult r (λ _. ⊥) (λ error. o ≡ Err (Untold error))
      → step f a b r g → Outcome step M old tell o e
  told_failing a b shows (Ok _) g o gives call = absurd gives
  told_failing a b shows (Err error) g o gives call =
      subst (λ (q : Result (Unit {0}) (Stop E)). Outcome step M old tell q e) (sym gives)
      (record { before = d; asked = f; told = t; ran = ran; next = next; day = day; last = g; failed = record { first = a; second = b; shows = shows; called = call } })
