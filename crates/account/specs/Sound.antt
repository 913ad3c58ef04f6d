-- What holds of every account.
use Rattle.std.specs.Prelude.{◌≡◌, ℕ, ◌<◌, ◌≤◌, true, false, map, Some}
use Rattle.event.specs.declared.Message.{Message}
use Rattle.event.specs.declared.Key.{Key}
use Rattle.account.specs.Finds.{find}
use Rattle.model.specs.Meaning.{Meaning}
use Rattle.day.specs.Alone.{Alone}
use Rattle.day.specs.Tidy.{Tidy}
use Rattle.account.specs.Orders.{plain}
use Rattle.account.specs.Account.{Account, sum_below}

-- not reached and not marked are what variants share
pub record Sound (M : Meaning) (A : Account) : Type 0 where
  -- live variants have numbers that were given out, below sixteen
  pub given : (v : ℕ) → A.live v ≡ true → v < A.made
  pub few : A.made ≤ 16
  pub permitted : (v : ℕ) → A.undecided v ≡ true → A.live v ≡ true
  pub reached_self : (v p : ℕ) → A.reached v v p ≡ false
  pub marked_self : (v : ℕ) (k : Key) → A.marked v v k ≡ false
  pub reached_sym : (v w p : ℕ) → A.reached v w p ≡ A.reached w v p
  pub marked_sym : (v w : ℕ) (k : Key) → A.marked v w k ≡ A.marked w v k
  pub reached_through : (u v w p : ℕ) → A.live u ≡ true → A.live v ≡ true → A.live w ≡ true
      → A.reached u v p ≡ false → A.reached v w p ≡ false → A.reached u w p ≡ false
  -- among those that wait for the key: by `wait_same`, if one of the three waits then all do
  pub marked_through : (u v w : ℕ) (k : Key) (m : Message) → A.live u ≡ true → A.live v ≡ true → A.live w ≡ true
      → find k (A.day u).waiting ≡ Some m → A.marked u v k ≡ false → A.marked v w k ≡ false → A.marked u w k ≡ false
  pub place_same : (v w p : ℕ) → A.live v ≡ true → A.live w ≡ true → A.reached v w p ≡ false → (A.day v).place p ≡ (A.day w).place p
  -- an unmarked key waits in both, with one message, or in neither
  pub wait_same : (v w : ℕ) (k : Key) → A.live v ≡ true → A.live w ≡ true → A.marked v w k ≡ false → find k (A.day v).waiting ≡ find k (A.day w).waiting
  pub tidy : (v : ℕ) → A.live v ≡ true → Tidy M (A.day v)

-- each live variant's day is the day run alone under its orders
abbrev pub Faithful : Meaning → Account → Type 0
Faithful M A = (v : ℕ) → A.live v ≡ true → Alone M A.end A.load (map plain (A.orders v)) (A.day v)

-- one copy works for several variants, so executions are no more than their events together
abbrev pub Bounded : Account → Type 0
Bounded A = A.executions ≤ sum_below A.since A.made
