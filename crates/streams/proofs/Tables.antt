-- A rule of a table, carried from one test over the whole table to each of its entries.
use Rattle.std.proofs.Common.{◌≡◌, ℕ, zero, suc, ◌+◌, ◌<◌, Bool, true, ◌&&◌, eqb, List, [], ◌∷◌, length, get_or, sym, ◌∙◌, subst, add-zero, add-suc, suc-add, zero-add, arith}
use Rattle.std.proofs.lemmas.Bool.{and_parts, eqb-true}

module _ (rule : ℕ → ℕ) where
  -- the entries are what the rule gives at i and the numbers after it
  abbrev pub follows : ℕ → List ℕ → Bool
  follows i [] = true
  follows i (x ∷ xs) = eqb x (rule i) && follows (suc i) xs

  from : (i : ℕ) (xs : List ℕ) → follows i xs ≡ true → (k : ℕ) → k < length xs → get_or xs k 0 ≡ rule (i + k)
  from i [] t k h = absurd (omega arith)
  from i (x ∷ xs) t zero h = subst (λ n. x ≡ rule n) (sym (add-zero i)) (eqb-true x (rule i) (and_parts _ _ t).0)
  from i (x ∷ xs) t (suc k) h =
      subst (λ n. get_or xs k 0 ≡ rule n) (suc-add i k ∙ sym (add-suc i k)) (from (suc i) xs (and_parts _ _ t).1 k (omega arith))

  pub entry : (xs : List ℕ) → follows 0 xs ≡ true → (k : ℕ) → k < length xs → get_or xs k 0 ≡ rule k
  entry xs t k h = subst (λ n. get_or xs k 0 ≡ rule n) (zero-add k) (from 0 xs t k h)
