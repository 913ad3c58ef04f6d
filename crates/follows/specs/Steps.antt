-- What a step makes of what a study holds: the messages with the smallest key are taken, and each group that has one runs it once.
use Rattle.std.specs.Prelude.{ℕ, zero, suc, ◌+◌, Bool, false, if◌then◌else◌, not, List, [], ◌∷◌, ◌++◌, map, filter, length, Some, None, Option}
use Rattle.event.specs.declared.Key.{Key}
use Rattle.event.specs.declared.Message.{Message}
use Rattle.event.specs.Keys.{same}
use Rattle.event.specs.Lists.{first}
use Rattle.group.specs.declared.Group.{Group}
use Rattle.calendar.specs.declared.Held.{Held}
use Rattle.calendar.specs.Calls.{key_of_held, waiting}
use Rattle.model.specs.Meaning.{Meaning}
use Rattle.day.specs.Day.{posted_by, place_after}
use Rattle.account.specs.Account.{ind, sum_below}
use Rattle.copies.specs.Sharing.{leads_at, move_cell, move_content, sharers, shares_stepped, target}
use Rattle.follows.specs.View.{View, put_all}

-- those with the key k
abbrev pub with_key : Key → List Held → List Held
with_key k held = filter (λ h. same k (key_of_held h)) held

-- and those with another
abbrev pub without_key : Key → List Held → List Held
without_key k held = filter (λ h. not (same k (key_of_held h))) held

-- the key of the first, the smallest that waits
abbrev pub head_key : List Held → Option Key
head_key [] = None
head_key (x ∷ xs) = Some (key_of_held x)

-- all with the key k are taken, an entry each
abbrev pub took_all : View → Key → View
took_all V k = record V { held = without_key k V.held; entries = V.entries ++ with_key k V.held }

-- the group runs m once, on what the cell c holds, and goes over to the cell t
abbrev pub ran_on : Meaning → View → Message → Group → ℕ → ℕ → View
ran_on M V m group c t = record V {
  held = put_all group (posted_by M V.end (V.content c) m) V.held;
  cell = move_cell V.cell group m.receiver t;
  content = move_content V.content t (place_after M (V.content c) m);
  executions = suc V.executions;
  puts = V.puts + length (posted_by M V.end (V.content c) m);
}

-- those that wait for h and have v's cell at its receiver
abbrev pub group_in : View → Held → ℕ → Group
group_in V h v = sharers V.cell h.group h.message.receiver v

-- where others have the cell too, the group goes over to a free one
abbrev pub ran_group : Meaning → View → Held → ℕ → View
ran_group M V h v = ran_on M V h.message (group_in V h v) (V.cell v h.message.receiver) (target M.places V.cell V.live (group_in V h v) h.message.receiver v)

-- v is the smallest of its group
abbrev pub leads_in : View → ℕ → Option Held → Bool
leads_in V v None = false
leads_in V v (Some h) = leads_at V.cell h.group h.message.receiver v

-- the turn of v: where it leads, its group runs
abbrev pub turn_of : Meaning → View → ℕ → Option Held → View
turn_of M V v None = V
turn_of M V v (Some h) = if leads_in V v (Some h) then ran_group M V h v else V

-- the turns of the variants below n, each with its message of those that were taken
unfoldable pub turns : Meaning → List Held → View → ℕ → View
turns M heads V zero = V
turns M heads V (suc n) = turn_of M (turns M heads V n) n (first (waiting n heads))

abbrev pub stepped_at : Meaning → View → Option Key → View
stepped_at M V None = V
stepped_at M V (Some k) = turns M (with_key k V.held) (took_all V k) 16

abbrev pub stepped : Meaning → View → View
stepped M V = stepped_at M V (head_key V.held)

abbrev pub group_of : Held → Group
group_of h = h.group

-- who shares a place after the step of the key k, with nothing changed yet
abbrev pub shares_after : View → Key → ℕ → ℕ → ℕ → Bool
shares_after V k p x y = shares_stepped V.cell (map group_of (with_key k V.held)) k.receiver p x y

-- the executions to come in the step of the key k, with nothing changed yet
abbrev pub leaders : View → Key → ℕ
leaders V k = sum_below (λ v. ind (leads_in V v (first (waiting v (with_key k V.held))))) 16

abbrev pub leaders_at : View → Option Key → ℕ
leaders_at V None = 0
leaders_at V (Some k) = leaders V k
