-- What is left in the span of the first is earlier than all other spans.
use Rattle.std.proofs.Common.{◌≡◌, ◌≢◌, ◌+◌, refl, subst, Bool, ℕ, ◌<◌, ◌≤◌, ◌/◌, ◌%◌, true, false, cond, List, [], ◌∷◌, Some, filter, sym, ap, ◌∙◌, ⊎_elim, arith}
use Rattle.std.specs.List.{AllByRecursion}
use Rattle.std.proofs.ByRecursion.{All-weaker, all_kept_by}
use Rattle.std.proofs.lemmas.Bool.{cases_Bool, cases_eq, cases_lt, both_ways, eq-eqb, ne_eqb}
use Rattle.std.proofs.lemmas.Option.{none-some}
use Rattle.event.proofs.Orders.{sooner}
use Rattle.event.specs.Lists.{first as head}
use Rattle.slot.specs.Rank.{ranked, Rising}
use Rattle.slot.specs.declared.Slot.{Slot}
use Rattle.slot.specs.Slots.{earlier, key_of_slot}
use Rattle.slot.specs.Laws.{strictly, not_before, before_ahead, ahead_earlier}
use Rattle.slot.proofs.Picks.{all_at, at_zero}
use Rattle.slot.proofs.Ranks.{ranked_rising}
use Rattle.bucket_calendar.specs.Buckets.{bucket_of, of_bucket, row_of}
use Rattle.bucket_calendar.proofs.Links.{rising_kept}

abbrev pub time_of : Slot → ℕ
time_of s = s.held.message.time

-- what does not come before x is no earlier
no_earlier : (x y : Slot) → earlier y x ≡ false → time_of x ≤ time_of y
no_earlier x y e = ⊎_elim (λ (h : time_of y < time_of x). absurd (both_ways _ (not_before y x e) (sooner (key_of_slot y) (key_of_slot x) h))) (λ h. h) (cases_lt (time_of y) (time_of x))

by_time : (x y : Slot) → time_of x < time_of y → earlier x y ≡ true
by_time x y h = ahead_earlier x y (before_ahead x y (sooner (key_of_slot x) (key_of_slot y) h))

abbrev pub span_of : Slot → ℕ
span_of s = time_of s / 64

-- where all spans are t or later, the first of t's bucket is the first of all if it is of the span t
same_span : (t : ℕ) (s : Slot) (r : List Slot) → Rising earlier r → AllByRecursion (λ y. t ≤ span_of y) r → head (filter (of_bucket (t % 64)) r) ≡ Some s → span_of s ≡ t → head r ≡ Some s
same_span t s [] w a e d = absurd (none-some s e)
same_span t s (m ∷ r) w a e d = ⊎_elim
    (λ (f : bucket_of m ≡ t % 64). sym (ap (λ b. head (cond b (m ∷ filter (of_bucket (t % 64)) r) (filter (of_bucket (t % 64)) r))) (eq-eqb (bucket_of m) (t % 64) f)) ∙ e)
    (λ (f : bucket_of m ≡ t % 64 → ⊥).
    let g : head (filter (of_bucket (t % 64)) r) ≡ Some s = sym (ap (λ b. head (cond b (m ∷ filter (of_bucket (t % 64)) r) (filter (of_bucket (t % 64)) r))) (ne_eqb (bucket_of m) (t % 64) f)) ∙ e in
    let k : earlier s m ≡ false = all_at (λ y. earlier y m ≡ false) (filter (of_bucket (t % 64)) r) 0 s (all_kept_by (of_bucket (t % 64)) (λ y. earlier y m ≡ false) r w.0) (at_zero (filter (of_bucket (t % 64)) r) ∙ g) in
    let n : span_of m ≢ t = λ z. f (ap (λ i. i % 64) z) in
    let l : time_of s < time_of m = omega (arith, a.0, n, d) in
    absurd (both_ways (earlier s m) k (by_time s m l))) (cases_eq (bucket_of m) (t % 64))

-- what is so of those that pass is so of all that pass
unkept : (p : Slot → Bool) (P : Slot → Type 0) (l : List Slot) → AllByRecursion P (filter p l) → AllByRecursion (λ y. p y ≡ true → P y) l
unkept p P [] h = tt
unkept p P (x ∷ l) h = ⊎_elim
    (λ (e : p x ≡ true). let k : AllByRecursion P (x ∷ filter p l) = subst (λ b. AllByRecursion P (cond b (x ∷ filter p l) (filter p l))) e h in ((λ _. k.0), unkept p P l k.1))
    (λ (e : p x ≡ false). let k : AllByRecursion P (filter p l) = subst (λ b. AllByRecursion P (cond b (x ∷ filter p l) (filter p l))) e h in ((λ f. absurd (both_ways (p x) e f)), unkept p P l k)) (cases_Bool (p x))

-- and all are later where it is not
later_spans : (t : ℕ) (r : List Slot) → Rising earlier r → AllByRecursion (λ y. t ≤ span_of y) r → ((s : Slot) → head (filter (of_bucket (t % 64)) r) ≡ Some s → span_of s ≢ t) → AllByRecursion (λ y. t + 1 ≤ span_of y) r
later_spans t r w a n = both r a (unkept (of_bucket (t % 64)) (λ y. t + 1 ≤ span_of y) r (in_row (filter (of_bucket (t % 64)) r) (rising_kept (of_bucket (t % 64)) r w) (all_kept_by (of_bucket (t % 64)) (λ y. t ≤ span_of y) r a) n))
  where
    in_row : (l : List Slot) → Rising earlier l → AllByRecursion (λ y. t ≤ span_of y) l → ((s : Slot) → head l ≡ Some s → span_of s ≢ t) → AllByRecursion (λ y. t + 1 ≤ span_of y) l
    in_row [] h k m = tt
    in_row (s ∷ l) h k m =
        let d : span_of s ≢ t = m s refl in
        ((let z : t + 1 ≤ span_of s = omega (arith, d, k.0) in z), All-weaker (λ y. earlier y s ≡ false) (λ y. t + 1 ≤ span_of y) (λ y e. let z = no_earlier s y e in omega (arith, d, k.0, z)) l h.0)

    both : (l : List Slot) → AllByRecursion (λ y. t ≤ span_of y) l → AllByRecursion (λ y. of_bucket (t % 64) y ≡ true → t + 1 ≤ span_of y) l → AllByRecursion (λ y. t + 1 ≤ span_of y) l
    both [] h k = tt
    both (y ∷ l) h k = (
      ⊎_elim
          (λ (e : span_of y ≡ t). k.0 (eq-eqb (bucket_of y) (t % 64) (ap (λ i. i % 64) e)))
          (λ (e : span_of y ≡ t → ⊥). omega (arith, e, h.0)) (cases_eq (span_of y) t),
      both l h.1 k.1,
    )

-- after x, whose span is the first
pub spans_after : (x : Slot) (r : List Slot) → AllByRecursion (λ y. earlier y x ≡ false) r → AllByRecursion (λ y. span_of x ≤ span_of y) r
spans_after x r a = All-weaker (λ y. earlier y x ≡ false) (λ y. span_of x ≤ span_of y) (λ y e. let z = no_earlier x y e in omega (arith, z)) r a

-- as chains tell it
pub span_first : (t : ℕ) (xs : List Slot) (s : Slot) → AllByRecursion (λ y. t ≤ span_of y) (ranked earlier xs) → head (row_of (t % 64) xs) ≡ Some s → span_of s ≡ t → Some s ≡ head (ranked earlier xs)
span_first t xs s a e f = sym (same_span t s (ranked earlier xs) (ranked_rising earlier strictly xs) a e f)

pub span_later : (t : ℕ) (xs : List Slot) → AllByRecursion (λ y. t ≤ span_of y) (ranked earlier xs) → ((s : Slot) → head (row_of (t % 64) xs) ≡ Some s → span_of s ≢ t) → AllByRecursion (λ y. t + 1 ≤ span_of y) (ranked earlier xs)
span_later t xs a n = later_spans t (ranked earlier xs) (ranked_rising earlier strictly xs) a n
