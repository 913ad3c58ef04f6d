-- Which cell each variant has at each place, who shares one, and what a change of a cell makes of all this.
use Rattle.std.specs.Prelude.{ℕ, Bool, true, if◌then◌else◌, not, ◌&&◌, ◌||◌, ◌==◌, List, [], ◌∷◌, Option, unwrap_or}
use Rattle.std.specs.List.{find, range_with_len}
use Rattle.group.specs.Groups.{has, gathered}
use Rattle.group.specs.declared.Group.{Group}
use Rattle.day.specs.declared.place.Place.{Place}
use Rattle.account.specs.Account.{ind, any_below, sum_below, origin}
use Rattle.account.specs.Groups.{leads}

-- the group goes over to the cell t at the place
abbrev pub move_cell : (ℕ → ℕ → ℕ) → Group → ℕ → ℕ → ℕ → ℕ → ℕ
move_cell cell group place t v p = if has group v && p == place then t else cell v p

-- the cell t holds x from now on
abbrev pub move_content : (ℕ → Place) → ℕ → Place → ℕ → Place
move_content content t x c = if c == t then x else content c

-- the child has its parent's cells
abbrev pub copy_cells : (ℕ → ℕ → ℕ) → ℕ → ℕ → ℕ → ℕ → ℕ
copy_cells cell parent child v p = cell (origin parent child v) p

-- v and w have one cell at the place
abbrev pub shares : (ℕ → ℕ → ℕ) → ℕ → ℕ → ℕ → Bool
shares cell place v w = cell v place == cell w place

-- those among a group that have v's cell at the place
abbrev pub sharers : (ℕ → ℕ → ℕ) → Group → ℕ → ℕ → Group
sharers cell among place v = gathered (λ w. has among w && shares cell place w v) 16

-- v is the smallest of them
abbrev pub leads_at : (ℕ → ℕ → ℕ) → Group → ℕ → ℕ → Bool
leads_at cell among place v = not (any_below (has (sharers cell among place v)) v)

-- a live variant outside the group has v's cell at the place
abbrev pub crowded : (ℕ → ℕ → ℕ) → Group → Group → ℕ → ℕ → Bool
crowded cell live group place v = any_below (λ u. has live u && (shares cell place u v && not (has group u))) 16

-- the cell c serves some live variant at some place
abbrev pub used : ℕ → (ℕ → ℕ → ℕ) → Group → ℕ → Bool
used places cell live c = any_below (λ p. any_below (λ v. has live v && cell v p == c) 16) places

-- the first of 128 cells that serves nobody
abbrev pub free : ℕ → (ℕ → ℕ → ℕ) → Group → Option ℕ
free places cell live = find (λ c. not (used places cell live c)) (range_with_len 0 128)

-- where the group is to write: v's cell, if nobody else has it; else a free one
abbrev pub target : ℕ → (ℕ → ℕ → ℕ) → Group → Group → ℕ → ℕ → ℕ
target places cell live group place v = if crowded cell live group place v then unwrap_or (free places cell live) (cell v place) else cell v place

-- how many groups the live variants form, over all places, by who shares a place
abbrev pub groups : ℕ → Group → (ℕ → ℕ → ℕ → Bool) → ℕ
groups places live share = sum_below (λ p. sum_below (λ v. ind (leads (has live) (share p) v)) 16) places

-- who shares a place once v is given an order at another, with nothing changed yet
abbrev pub shares_decided : (ℕ → ℕ → ℕ) → ℕ → ℕ → ℕ → ℕ → ℕ → Bool
shares_decided cell v place p x y = shares cell p x y && not (p == place && (not (x == y) && (x == v || y == v)))

-- each of the groups has both or neither
abbrev pub together : List Group → ℕ → ℕ → Bool
together [] x y = true
together (g ∷ gs) x y = (if has g x then has g y else not (has g y)) && together gs x y

-- who shares a place once these groups have run at the receiver, with nothing changed yet
abbrev pub shares_stepped : (ℕ → ℕ → ℕ) → List Group → ℕ → ℕ → ℕ → ℕ → Bool
shares_stepped cell heads receiver p x y = shares cell p x y && (not (p == receiver) || together heads x y)
