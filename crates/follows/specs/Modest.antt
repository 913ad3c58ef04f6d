-- How many events an account can have come to: a journal has at most 2,048, and no variant counts more since its load or branch.
use Rattle.std.specs.Prelude.{◌≡◌, ℕ, ◌≤◌, true, length}
use Rattle.account.specs.Account.{Account}

pub record Modest (A : Account) : Type 0 where
  pub aged : (v : ℕ) → A.live v ≡ true → A.since v ≤ length (A.day v).journal
  -- retired ones too
  pub recent : (v : ℕ) → A.since v ≤ 2048

-- what the account has of events and starting messages
pub record Few (capacity : ℕ) (A : Account) : Type 0 where
  pub modest : Modest A
  pub starts : length A.load ≤ capacity
