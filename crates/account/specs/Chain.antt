-- Which places a chain of messages touches, for two variants: a relation between two days run alone.
use Rattle.std.specs.Prelude.{◌≡◌, ℕ, ◌<◌, ◌≤◌, Bool, true, false, not, ◌⊎◌, List, [], ◌∷◌, length, Some}
use Rattle.event.specs.declared.Message.{Message}
use Rattle.event.specs.declared.Start.{Start}
use Rattle.event.specs.declared.Key.{Key}
use Rattle.event.specs.Keys.{key_of, before}
use Rattle.event.specs.Lists.{first}
use Rattle.account.specs.Finds.{find}
use Rattle.model.specs.Meaning.{Meaning}
use Rattle.account.specs.Orders.{Given, alone_under}
use Rattle.account.specs.Account.{Account, sent_at}

-- a variant's day, told by its orders and by how many events it has run
pub record Run : Type 0 where
  pub orders : List Given
  pub events : ℕ

abbrev pub In : Given → List Given → Type 0
In o [] = ⊥
In o (x ∷ xs) = (o ≡ x) ⊎ In o xs

-- event i of the day runs m
pub record Runs (M : Meaning) (end : ℕ) (load : List Start) (r : Run) (i : ℕ) (m : Message) : Type 0 where
  pub early : i < r.events
  pub head : first (alone_under M end load r.orders i).waiting ≡ Some m

-- event i of the day sends m
abbrev pub Sends : Meaning → ℕ → List Start → Run → ℕ → Message → Type 0
Sends M end load r i m = find (key_of m) (sent_at M end (alone_under M end load r.orders i) (first (alone_under M end load r.orders i).waiting)) ≡ Some m

-- when a place was touched: by an order, set when its variant had run n events; or by the message with the key k
pub data Moment : Type 0 where
  set : Bool → ℕ → Moment
  ran : Key → Moment

-- the event with the key k is run at that moment or later
abbrev pub Since : Meaning → ℕ → List Start → (Bool → Run) → Moment → Key → Type 0
Since M end load r (set x n) k = (i : ℕ) × (m : Message) × Runs M end load (r x) i m × (key_of m ≡ k) × (n ≤ i)
Since M end load r (ran j) k = before k j ≡ false

-- a chain begins at an order that only one of the two has, and goes on by a message that a touched place sends, since it was touched, and that is run
pub data Touched (M : Meaning) (end : ℕ) (load : List Start) (r : Bool → Run) : Moment → ℕ → Type 0 where
  by_order : (x : Bool) (o : Given) → In o (r x).orders → (In o (r (not x)).orders → ⊥) → Touched M end load r (set x o.position) o.place
  by_message : {t : Moment} (x : Bool) (i j : ℕ) (m₀ m : Message) → Touched M end load r t m₀.receiver → Runs M end load (r x) i m₀ → Since M end load r t (key_of m₀)
      → Sends M end load (r x) i m → Runs M end load (r x) j m → Touched M end load r (ran (key_of m)) m.receiver

-- m was sent in the day x from a touched place
pub record Carried (M : Meaning) (end : ℕ) (load : List Start) (r : Bool → Run) (x : Bool) (m : Message) : Type 0 where
  pub i : ℕ
  pub m₀ : Message
  pub t : Moment
  pub touched : Touched M end load r t m₀.receiver
  pub runs : Runs M end load (r x) i m₀
  pub since : Since M end load r t (key_of m₀)
  pub sends : Sends M end load (r x) i m

abbrev pub pair : ℕ → ℕ → Bool → ℕ
pair v w true = v
pair v w false = w

abbrev pub run_of : Account → ℕ → Run
run_of A v = record { orders = A.orders v; events = length (A.day v).journal }

-- the days of v and of w
abbrev pub sides : Account → ℕ → ℕ → Bool → Run
sides A v w x = run_of A (pair v w x)

-- a chain tells what is reached, what is marked and which entries are shared
pub record ChainReaches (M : Meaning) (A : Account) : Type 0 where
  -- a place is reached for two live variants exactly if a chain touches it
  pub to : (v w p : ℕ) → A.live v ≡ true → A.live w ≡ true → A.reached v w p ≡ true → (t : Moment) × Touched M A.end A.load (sides A v w) t p
  pub back : (v w p : ℕ) (t : Moment) → A.live v ≡ true → A.live w ≡ true → Touched M A.end A.load (sides A v w) t p → A.reached v w p ≡ true
  -- a message that waits in v is marked for v and w exactly if a touched place sent it
  pub marked_to : (v w : ℕ) (k : Key) (m : Message) → A.live v ≡ true → A.live w ≡ true → find k (A.day v).waiting ≡ Some m → A.marked v w k ≡ true → Carried M A.end A.load (sides A v w) true m
  pub marked_back : (v w : ℕ) (k : Key) (m : Message) → A.live v ≡ true → A.live w ≡ true → find k (A.day v).waiting ≡ Some m → Carried M A.end A.load (sides A v w) true m → A.marked v w k ≡ true
  -- entry i of v's journal is w's too exactly if both ran it and no touched place sent it
  pub joint_to : (v w i : ℕ) → A.live v ≡ true → A.live w ≡ true → i < length (A.day v).journal → A.joint v w i ≡ true
      → (j : ℕ) × (m : Message) × Runs M A.end A.load (run_of A v) i m × Runs M A.end A.load (run_of A w) j m × (Carried M A.end A.load (sides A v w) true m → ⊥)
  pub joint_back : (v w i j : ℕ) (m : Message) → A.live v ≡ true → A.live w ≡ true → Runs M A.end A.load (run_of A v) i m → Runs M A.end A.load (run_of A w) j m
      → (Carried M A.end A.load (sides A v w) true m → ⊥) → A.joint v w i ≡ true
