-- The pair account: a day run alone for each variant, and what tells any two of them apart.
use Rattle.std.specs.Prelude.{◌≡◌, ℕ, zero, suc, ◌+◌, ◌<◌, Bool, true, false, if◌then◌else◌, not, ◌&&◌, ◌||◌, List, [], ◌∷◌, ◌++◌, length, Some, None, Option, ◌==◌}
use Rattle.std.specs.List.{AllByRecursion}
use Rattle.event.specs.declared.Message.{Message}
use Rattle.event.specs.declared.Start.{Start}
use Rattle.event.specs.declared.Key.{Key}
use Rattle.event.specs.Keys.{key_of, before, same}
use Rattle.event.specs.Lists.{first}
use Rattle.account.specs.Finds.{find, some}
use Rattle.model.specs.Meaning.{Meaning}
use Rattle.day.specs.Day.{Day, event, ordered, starting, posted_by}
use Rattle.account.specs.Orders.{Given}

pub record Account : Type 0 where
  -- the register: the starting list and the end of day, and how many variants were made
  pub loaded : Bool
  pub load : List Start
  pub end : ℕ
  pub made : ℕ
  pub live : ℕ → Bool
  -- live, with a permit that is not spent yet
  pub undecided : ℕ → Bool
  -- of each variant its day, its orders and its parent's
  pub day : ℕ → Day
  pub orders : ℕ → List Given
  -- the events since load or branch
  pub since : ℕ → ℕ
  -- of two variants the places that a chain from an order of only one of them has reached, and the messages that such a place has sent
  pub reached : ℕ → ℕ → ℕ → Bool
  pub marked : ℕ → ℕ → Key → Bool
  -- whether entry i of the first one's journal is the second one's too
  pub joint : ℕ → ℕ → ℕ → Bool
  pub executions : ℕ

abbrev pub ind : Bool → ℕ
ind b = if b then 1 else 0

unfoldable pub any_below : (ℕ → Bool) → ℕ → Bool
any_below f zero = false
any_below f (suc n) = f n || any_below f n

unfoldable pub sum_below : (ℕ → ℕ) → ℕ → ℕ
sum_below f zero = 0
sum_below f (suc n) = sum_below f n + f n

-- before the first call
abbrev pub empty : Meaning → Account
empty M = record {
  loaded = false;
  load = [];
  end = 0;
  made = 0;
  live = λ v. false;
  undecided = λ v. false;
  day = λ v. starting M [];
  orders = λ v. [];
  since = λ v. 0;
  reached = λ v w p. false;
  marked = λ v w k. false;
  joint = λ v w i. true;
  executions = 0;
}

-- load gives variant 0
abbrev pub fed_load : Meaning → Account → List Start → ℕ → Account
fed_load M A load end = record {
  loaded = true;
  load = load;
  end = end;
  made = 1;
  live = λ v. (v == 0);
  undecided = λ v. false;
  day = λ v. starting M load;
  orders = λ v. [];
  since = λ v. 0;
  reached = λ v w p. false;
  marked = λ v w k. false;
  joint = λ v w i. true;
  executions = 0;
}

-- whom x stood for before c was made of v
abbrev pub origin : ℕ → ℕ → ℕ → ℕ
origin v c x = if x == c then v else x

-- the child is its parent's equal in all, and undecided
abbrev pub fed_branch : Account → ℕ → Account
fed_branch A v = record {
  loaded = A.loaded;
  load = A.load;
  end = A.end;
  made = suc A.made;
  live = λ x. (x == A.made) || A.live x;
  undecided = λ x. (x == A.made) || A.undecided x;
  day = λ x. A.day (origin v A.made x);
  orders = λ x. A.orders (origin v A.made x);
  since = λ x. if x == A.made then 0 else A.since x;
  reached = λ x y p. A.reached (origin v A.made x) (origin v A.made y) p;
  marked = λ x y k. A.marked (origin v A.made x) (origin v A.made y) k;
  joint = λ x y i. A.joint (origin v A.made x) (origin v A.made y) i;
  executions = A.executions;
}

-- the order is set, and its place is reached for this variant with each other one
abbrev pub fed_decide : Account → ℕ → ℕ → ℕ → Account
fed_decide A v place value = record {
  loaded = A.loaded;
  load = A.load;
  end = A.end;
  made = A.made;
  live = A.live;
  undecided = λ x. A.undecided x && not (x == v);
  day = λ x. if x == v then ordered (A.day v) place value else A.day x;
  orders = λ x. if x == v then A.orders v ++ record { by = v; position = length (A.day v).journal; place = place; value = value } ∷ [] else A.orders x;
  since = A.since;
  reached = λ x y p. A.reached x y p || (p == place && (not (x == y) && (x == v || y == v)));
  marked = A.marked;
  joint = A.joint;
  executions = A.executions;
}

-- the permit is spent on none
abbrev pub fed_waive : Account → ℕ → Account
fed_waive A v = record {
  loaded = A.loaded;
  load = A.load;
  end = A.end;
  made = A.made;
  live = A.live;
  undecided = λ x. A.undecided x && not (x == v);
  day = A.day;
  orders = A.orders;
  since = A.since;
  reached = A.reached;
  marked = A.marked;
  joint = A.joint;
  executions = A.executions;
}

-- the variant is live no more
abbrev pub fed_retire : Account → ℕ → Account
fed_retire A v = record {
  loaded = A.loaded;
  load = A.load;
  end = A.end;
  made = A.made;
  live = λ x. A.live x && not (x == v);
  undecided = A.undecided;
  day = A.day;
  orders = A.orders;
  since = A.since;
  reached = A.reached;
  marked = A.marked;
  joint = A.joint;
  executions = A.executions;
}

-- the earlier of two keys
abbrev pub earlier : Option Message → Option Key → Option Key
earlier None o = o
earlier (Some m) None = Some (key_of m)
earlier (Some m) (Some k) = if before k (key_of m) then Some k else Some (key_of m)

-- the smallest key that waits in a live variant below n
unfoldable pub least : Account → ℕ → Option Key
least A zero = None
least A (suc n) = if A.live n then earlier (first (A.day n).waiting) (least A n) else least A n

abbrev pub is_key : Key → Option Message → Bool
is_key k None = false
is_key k (Some m) = same k (key_of m)

-- v runs the message with the key k
unfoldable pub runs : Account → Key → ℕ → Bool
runs A k v = A.live v && is_key k (first (A.day v).waiting)

abbrev pub sent_at : Meaning → ℕ → Day → Option Message → List Message
sent_at M end d None = []
sent_at M end d (Some m) = posted_by M end (d.place m.receiver) m

-- v's event sends a message with the key j, which waits
unfoldable pub sends : Meaning → Account → Key → ℕ → Key → Bool
sends M A k v j = runs A k v && some (find j (sent_at M A.end (A.day v) (first (A.day v).waiting)))

-- where one of the two ran a marked message, its receiver is reached
abbrev pub reached_by : Account → Key → ℕ → ℕ → ℕ → Bool
reached_by A k v w p = A.reached v w p || (p == k.receiver && ((runs A k v || runs A k w) && A.marked v w k))

-- v ran, and no smaller live variant shares the receiver
abbrev pub leads_run : Account → Key → ℕ → Bool
leads_run A k v = runs A k v && not (any_below (λ w. A.live w && not (reached_by A k v w k.receiver)) v)

-- each variant that has the key k first runs it; what a reached place sends is marked; an entry is joint if both ran it unmarked
abbrev pub fed_step_at : Meaning → Account → Option Key → Account
fed_step_at M A None = A
fed_step_at M A (Some k) = record {
  loaded = A.loaded;
  load = A.load;
  end = A.end;
  made = A.made;
  live = A.live;
  undecided = A.undecided;
  day = λ v. if runs A k v then event M A.end (A.day v) else A.day v;
  orders = A.orders;
  since = λ v. A.since v + ind (runs A k v);
  reached = reached_by A k;
  marked = λ v w j. if sends M A k v j || sends M A k w j then reached_by A k v w k.receiver else A.marked v w j;
  joint = λ v w i. if runs A k v && i == length (A.day v).journal then runs A k w && not (A.marked v w k) else A.joint v w i;
  executions = A.executions + sum_below (λ v. ind (leads_run A k v)) 16;
}

abbrev pub fed_step : Meaning → Account → Account
fed_step M A = fed_step_at M A (least A 16)

-- the readings, which change nothing; of variants, places and entries
pub data Reading : Type 0 where
  events_of : ℕ → Reading
  entry_of : ℕ → ℕ → Reading
  place_of : ℕ → ℕ → Reading
  next_of : ℕ → Reading
  -- whether two variants share a place
  sharing : ℕ → ℕ → ℕ → Reading
  -- how many variants stand in a variant's group of a place
  group_of : ℕ → ℕ → Reading
  totals : Reading

-- the calls of a study; a permit goes by the number of its variant
pub data Call : Type 0 where
  -- the starting list and the end of day
  load : List Start → ℕ → Call
  branch : ℕ → Call
  -- the permit's variant, a place and the order's value
  decide : ℕ → ℕ → ℕ → Call
  waive : ℕ → Call
  step : Call
  retire : ℕ → Call
  reading : Reading → Call

-- the account after an accepted call
abbrev pub fed : Meaning → Account → Call → Account
fed M A (load l end) = fed_load M A l end
fed M A (branch v) = fed_branch A v
fed M A (decide v place value) = fed_decide A v place value
fed M A (waive v) = fed_waive A v
fed M A step = fed_step M A
fed M A (retire v) = fed_retire A v
fed M A (reading r) = A

-- and after a call that was denied or not; a denied one leaves all as it was
abbrev pub told : Meaning → Account → Call → Bool → Account
told M A c denied = if denied then A else fed M A c

-- what an accepted call has been seen to meet (the rest of the refusals are of no concern here)
abbrev pub Accepted : Meaning → Account → Call → Type 0
Accepted M A (load l end) = (A.loaded ≡ false) × AllByRecursion (λ s. s.receiver < M.places) l
Accepted M A (branch v) = (A.live v ≡ true) × (A.made < 16)
Accepted M A (decide v place value) = (A.live v ≡ true) × (A.undecided v ≡ true)
Accepted M A (waive v) = A.undecided v ≡ true
Accepted M A step = A.loaded ≡ true
Accepted M A (retire v) = (A.live v ≡ true) × (A.undecided v ≡ false)
Accepted M A (reading r) = A.loaded ≡ true

-- an account that some calls lead to, with those that were accepted
pub data After (M : Meaning) : Account → Type 0 where
  begun : After M (empty M)
  one_more : {A : Account} → (c : Call) → After M A → Accepted M A c → After M (fed M A c)
