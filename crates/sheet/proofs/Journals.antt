-- Two lists that are the same up to a position, and then differ or end.
use Rattle.std.proofs.Common.{◌≡◌, ◌≢◌, ℕ, ◌<◌, ◌≤◌, List, length, None, unwrap_or, ⊎_elim, sym, ap, ◌∙◌, arith}
use Rattle.std.specs.List.{slice_get}
use Rattle.std.proofs.lemmas.Bool.{cases_lt}
use Rattle.std.proofs.lemmas.List.{same_lists}
use Rattle.std.proofs.lemmas.Option.{none-some, slice_get_cases, slice_get_past, unwrap_or-slice_get}

module _ {X : Type 0} where
  -- where nothing stands, the list has ended
  pub past_end : (xs : List X) (i : ℕ) → slice_get xs i ≡ None → length xs ≤ i
  past_end xs i e = ⊎_elim (λ found. absurd (none-some found.0 (sym e ∙ found.2))) (λ past. past.0) (slice_get_cases xs i).1

  -- the second is no shorter than they are the same
  long_enough : (xs ys : List X) (n : ℕ) → n ≤ length xs → ((j : ℕ) → j < n → slice_get xs j ≡ slice_get ys j) → n ≤ length ys
  long_enough xs ys n within same = ⊎_elim
      (λ (short : length ys < n).
      let e : slice_get xs (length ys) ≡ None = same (length ys) short ∙ slice_get_past ys (length ys) (omega arith) in
      let long : length xs ≤ length ys = past_end xs (length ys) e in
      absurd (omega arith))
      (λ (long : n ≤ length ys). long) (cases_lt (length ys) n)

  -- neither goes on: they are equal
  pub all_same : (xs ys : List X) (n : ℕ) → n ≤ length xs → ((j : ℕ) → j < n → slice_get xs j ≡ slice_get ys j) → length xs ≤ n → length ys ≤ n → xs ≡ ys
  all_same xs ys n within same ended over =
      let long : n ≤ length ys = long_enough xs ys n within same in
      same_lists xs ys (omega arith) (λ k d (low : k < length xs). sym (unwrap_or-slice_get xs k d) ∙ ap (λ o. unwrap_or o d) (same k (omega arith)) ∙ unwrap_or-slice_get ys k d)

  -- the first has ended and the second goes on: they differ there
  pub unlike : (xs ys : List X) (n : ℕ) → n ≤ length xs → ((j : ℕ) → j < n → slice_get xs j ≡ slice_get ys j) → (n < length xs → slice_get xs n ≢ slice_get ys n) → (length xs ≤ n → n < length ys) → slice_get xs n ≢ slice_get ys n
  unlike xs ys n within same there longer e = ⊎_elim
      (λ (low : n < length xs). there low e)
      (λ (ended : length xs ≤ n).
      let past : length ys ≤ n = past_end ys n (sym e ∙ slice_get_past xs n ended) in
      let goes : n < length ys = longer ended in
      absurd (omega arith))
      (cases_lt n (length xs))
