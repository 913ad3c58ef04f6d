-- The smallest key of one more variant.
use Rattle.std.proofs.Common.{◌≡◌, ℕ, ◌+◌, ◌<◌, Bool, true, false, if◌then◌else◌, List, Option, None, Some, MatchOption, Ok, refl, inl, inr, arith}
use borrow.Author.Count.{below_more}
use Rattle.account.specs.Account.{reading, next_of}
use Rattle.account.specs.Answers.{waits}
use Rattle.collection.specs.Rules.{meaning_of}
use Rattle.collection.specs.declared.Collection.{Collection}
use Rattle.event.specs.Keys.{before, key_of}
use Rattle.event.specs.declared.Key.{Key}
use Rattle.event.specs.declared.Message.{Message}
use Rattle.event.proofs.Orders.{chain, never}
use Rattle.heap_calendar.specs.Laws.{contents_of}
use Rattle.heap_calendar.specs.declared.store.HeapCalendar.{HeapCalendar}
use Rattle.study.specs.Promises.{Tells}
use Rattle.study.specs.declared.Study.{Study}
use Rattle.dispatch.specs.declared.course.Variant.{Variant}
use Rattle.dispatch.specs.Courses.{IsLeast, NoneBefore, NothingWaits, WaitsFor, number_at}
use Rattle.dispatch.specs.Leasts.{least_of}

-- v is told to wait for this, or for nothing
abbrev pub Next : Study HeapCalendar Collection → ℕ → Option Message → Type 0
Next s v o = Tells contents_of (λ m. meaning_of m.farms m.tankers) s (reading (next_of v)) waits (Ok o)

-- what does not come before k does not come before a key before k
not_earlier : (a j k : Key) (b : Bool) → before a j ≡ b → before j k ≡ true → before a k ≡ false → before a j ≡ false
not_earlier a j k false e low late = e
not_earlier a j k true e low late =
    let sooner : before a k ≡ true = chain a j k e low in
    absurd cc

earlier_too : (s : Study HeapCalendar Collection) (k j : Key) (v : ℕ) → before j k ≡ true → NoneBefore s k v → NoneBefore s j v
earlier_too s k j v low (inl none) = inl none
earlier_too s k j v low (inr found) = inr (found.0, found.1, not_earlier found.0 j k (before found.0 j) refl low found.2)

module _ (s : Study HeapCalendar Collection) (xs : List Variant) (i : ℕ) where
  first_one : (m : Message) → NothingWaits s xs i → Next s (number_at xs i) (Some m) → IsLeast s xs (i + 1) (key_of m)
  first_one m none told =
      let wait : WaitsFor s (number_at xs i) (key_of m) = record { message = m; next = told; key = refl } in
      record {
        index = i;
        within = omega arith;
        waiting = wait;
        least = below_more (λ q. NoneBefore s (key_of m) (number_at xs q)) i (λ q low. inl (none q low)) (inr (key_of m, wait, never (key_of m)));
      }

  kept : (k : Key) → IsLeast s xs i k → NoneBefore s k (number_at xs i) → IsLeast s xs (i + 1) k
  kept k least here = record {
    index = least.index;
    within = let low : least.index < i = least.within in omega arith;
    waiting = least.waiting;
    least = below_more (λ q. NoneBefore s k (number_at xs q)) i least.least here;
  }

  replaced : (k : Key) (m : Message) → before (key_of m) k ≡ true → IsLeast s xs i k → Next s (number_at xs i) (Some m) → IsLeast s xs (i + 1) (key_of m)
  replaced k m low least told =
      let wait : WaitsFor s (number_at xs i) (key_of m) = record { message = m; next = told; key = refl } in
      record {
        index = i;
        within = omega arith;
        waiting = wait;
        least = below_more (λ q. NoneBefore s (key_of m) (number_at xs q)) i (λ q below. earlier_too s k (key_of m) (number_at xs q) low (least.least q below)) (inr (key_of m, wait, never (key_of m)));
      }

  chosen : (k : Key) (m : Message) (b : Bool) → before (key_of m) k ≡ b → IsLeast s xs i k → Next s (number_at xs i) (Some m) → IsLeast s xs (i + 1) (if b then key_of m else k)
  chosen k m true low least told = replaced k m low least told
  chosen k m false late least told = kept k least (inr (key_of m, record { message = m; next = told; key = refl }, late))

  -- one more variant is looked at
  pub one_more : (least : Option Key) (next : Option Message) → MatchOption least (NothingWaits s xs i) (IsLeast s xs i) → Next s (number_at xs i) next → MatchOption (least_of least next) (NothingWaits s xs (i + 1)) (IsLeast s xs (i + 1))
  one_more None None none told = below_more (λ q. Next s (number_at xs q) None) i none told
  one_more None (Some m) none told = first_one m none told
  one_more (Some k) None least told = kept k least (inl told)
  one_more (Some k) (Some m) least told = chosen k m (before (key_of m) k) refl least told
