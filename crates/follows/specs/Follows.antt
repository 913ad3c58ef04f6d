-- What it is for a study to follow an account.
use Rattle.std.specs.Prelude.{◌≡◌, ℕ, ◌+◌, ◌*◌, ◌<◌, ◌≤◌, Bool, true, not, List, length, Some}
use Rattle.std.specs.List.{AllByRecursion, slice_get}
use Rattle.event.specs.declared.Key.{Key}
use Rattle.event.specs.declared.Message.{Message}
use Rattle.event.specs.Lists.{Sorted}
use Rattle.group.specs.Groups.{has}
use Rattle.calendar.specs.declared.Held.{Held}
use Rattle.calendar.specs.Calls.{key_of_held, waiting}
use Rattle.calendar.specs.Laws.{messages_of}
use Rattle.model.specs.Meaning.{Meaning}
use Rattle.day.specs.declared.place.Place.{Place}
use Rattle.account.specs.Account.{Account}
use Rattle.copies.specs.Sharing.{shares}
use Rattle.follows.specs.View.{View}

-- cells that hold, for each live variant, what it has at each place; one cell for those that the place is not reached for
pub record CellsFollow (places : ℕ) (live : ℕ → Bool) (cell : ℕ → ℕ → ℕ) (content : ℕ → Place) (place : ℕ → ℕ → Place) (reached : ℕ → ℕ → ℕ → Bool) : Type 0 where
  pub holds : (v p : ℕ) → live v ≡ true → p < places → content (cell v p) ≡ place v p
  -- of 128 cells
  pub inside : (v p : ℕ) → live v ≡ true → p < places → cell v p < 128
  pub one_place : (v w p q : ℕ) → live v ≡ true → live w ≡ true → p < places → q < places → cell v p ≡ cell w q → p ≡ q
  pub shared : (v w p : ℕ) → live v ≡ true → live w ≡ true → p < places → shares cell p v w ≡ not (reached v w p)

-- a group has some live variants, and no other
pub record Fit (live : ℕ → Bool) (h : Held) : Type 0 where
  pub filled : (v : ℕ) × (has h.group v ≡ true)
  pub within : (v : ℕ) → has h.group v ≡ true → live v ≡ true

-- held messages that are, for each live variant, those that wait; one group for those that the key is not marked for
pub record HeldFollow (live : ℕ → Bool) (held : List Held) (waits : ℕ → List Message) (marked : ℕ → ℕ → Key → Bool) : Type 0 where
  pub sorted : Sorted key_of_held held
  pub fit : AllByRecursion (Fit live) held
  pub own : (v : ℕ) → live v ≡ true → messages_of v held ≡ waits v
  pub grouped : AllByRecursion (λ h. (v w : ℕ) → has h.group v ≡ true → live w ≡ true → has h.group w ≡ not (marked v w (key_of_held h))) held

-- entries that are, for each live variant, its journal; one entry for those that share it
pub record EntriesFollow (live : ℕ → Bool) (entries : List Held) (journal : ℕ → List Message) (joint : ℕ → ℕ → ℕ → Bool) : Type 0 where
  pub fit : AllByRecursion (Fit live) entries
  pub written : (v : ℕ) → live v ≡ true → messages_of v entries ≡ journal v
  pub jointly : (v w i : ℕ) (e : Held) → live v ≡ true → live w ≡ true → slice_get (waiting v entries) i ≡ Some e → has e.group w ≡ joint v w i

-- the values of the study are those of the account, and each put is a starting message or one of two that an execution sends
pub record Follows (M : Meaning) (V : View) (A : Account) : Type 0 where
  pub same_loaded : V.loaded ≡ A.loaded
  pub same_end : V.end ≡ A.end
  pub same_live : (v : ℕ) → has V.live v ≡ A.live v
  pub same_undecided : (v : ℕ) → has V.undecided v ≡ A.undecided v
  pub same_made : V.made ≡ A.made
  pub cells : CellsFollow M.places A.live V.cell V.content (λ v p. (A.day v).place p) A.reached
  pub messages : HeldFollow A.live V.held (λ v. (A.day v).waiting) A.marked
  pub journals : EntriesFollow A.live V.entries (λ v. (A.day v).journal) A.joint
  pub same_executions : V.executions ≡ A.executions
  pub few_puts : V.puts ≤ length A.load + 2 * A.executions

-- two views that differ at most in what variants that are not live have, and in what is at no place
pub record Alike (places : ℕ) (V W : View) : Type 0 where
  pub loaded : V.loaded ≡ W.loaded
  pub end : V.end ≡ W.end
  pub held : V.held ≡ W.held
  pub entries : V.entries ≡ W.entries
  pub live : (v : ℕ) → has V.live v ≡ has W.live v
  pub undecided : (v : ℕ) → has V.undecided v ≡ has W.undecided v
  pub made : V.made ≡ W.made
  pub executions : V.executions ≡ W.executions
  pub puts : V.puts ≡ W.puts
  pub cell : (v p : ℕ) → has W.live v ≡ true → p < places → V.cell v p ≡ W.cell v p
  pub content : (v p : ℕ) → has W.live v ≡ true → p < places → V.content (V.cell v p) ≡ W.content (W.cell v p)
