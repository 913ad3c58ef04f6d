-- A study in the middle of a step: all messages with the key k are taken, and the groups led by variants below n have run.
use Rattle.std.specs.Prelude.{◌≡◌, ℕ, ◌+◌, ◌*◌, ◌<◌, ◌≤◌, Bool, true, if◌then◌else◌, not, ◌&&◌, ◌||◌, List, length, Some}
use Rattle.event.specs.declared.Key.{Key}
use Rattle.event.specs.declared.Message.{Message}
use Rattle.event.specs.Lists.{rest}
use Rattle.group.specs.Groups.{has}
use Rattle.model.specs.Meaning.{Meaning}
use Rattle.day.specs.declared.place.Place.{Place}
use Rattle.account.specs.Account.{Account, ind, any_below, sum_below, runs, sends, reached_by, leads_run, fed_step_at}
use Rattle.account.specs.Groups.{held, taken}
use Rattle.follows.specs.View.{View}
use Rattle.follows.specs.Follows.{CellsFollow, HeldFollow, EntriesFollow}

-- u has had its event: it runs k, and one below n shares the receiver with it after the step
abbrev pub done : Account → Key → ℕ → ℕ → Bool
done A k n u = runs A k u && any_below (λ v. A.live v && not (reached_by A k u v k.receiver)) n

abbrev pub place_mid : Meaning → Account → Key → ℕ → ℕ → ℕ → Place
place_mid M A k n u p = if done A k n u then ((fed_step_at M A (Some k)).day u).place p else (A.day u).place p

abbrev pub reached_mid : Account → Key → ℕ → ℕ → ℕ → ℕ → Bool
reached_mid A k n u w p = if done A k n u || done A k n w then reached_by A k u w p else A.reached u w p

abbrev pub waiting_mid : Meaning → Account → Key → ℕ → ℕ → List Message
waiting_mid M A k n u = if done A k n u then ((fed_step_at M A (Some k)).day u).waiting else if runs A k u then rest (A.day u).waiting else (A.day u).waiting

abbrev pub marked_mid : Meaning → Account → Key → ℕ → ℕ → ℕ → Key → Bool
marked_mid M A k n u w j = if (done A k n u && sends M A k u j) || (done A k n w && sends M A k w j) then reached_by A k u w k.receiver else A.marked u w j

pub record Mid (M : Meaning) (A : Account) (k : Key) (n : ℕ) (V : View) : Type 0 where
  pub same_loaded : V.loaded ≡ A.loaded
  pub same_end : V.end ≡ A.end
  pub same_live : (v : ℕ) → has V.live v ≡ A.live v
  pub same_undecided : (v : ℕ) → has V.undecided v ≡ A.undecided v
  pub same_made : V.made ≡ A.made
  pub cells : CellsFollow M.places A.live V.cell V.content (place_mid M A k n) (reached_mid A k n)
  pub messages : HeldFollow A.live V.held (waiting_mid M A k n) (marked_mid M A k n)
  pub journals : EntriesFollow A.live V.entries (λ v. ((fed_step_at M A (Some k)).day v).journal) (fed_step_at M A (Some k)).joint
  pub same_executions : V.executions ≡ A.executions + sum_below (λ v. ind (leads_run A k v)) n
  pub few_puts : V.puts ≤ length A.load + 2 * V.executions
  -- each group that has run has put two at most
  pub few_held : length V.held + taken A k ≤ held A + 2 * sum_below (λ v. ind (leads_run A k v)) n

-- those that share the receiver with v after the step
abbrev pub group_after : Account → Key → ℕ → ℕ → Bool
group_after A k v w = A.live w && not (reached_by A k v w k.receiver)

-- the cell t serves none but the group at the place r
pub record Spare (places : ℕ) (live : ℕ → Bool) (cell : ℕ → ℕ → ℕ) (group : ℕ → Bool) (r t : ℕ) : Type 0 where
  pub inside : t < 128
  pub apart : (u q : ℕ) → live u ≡ true → q < places → cell u q ≡ t → (q ≡ r) × (group u ≡ true)
