-- Rows of cells: one row of 16 for each place, one cell for each variant, and beside each cell the group of all that have it there.
use Rattle.std.specs.Prelude.{◌≡◌, ℕ, ◌+◌, ◌*◌, Bool, ◌&&◌, ◌||◌, ◌==◌, List, nat_le, nat_lt, not, slice_index_or, if◌then◌else◌}
use Rattle.account.specs.Account.{ind, sum_below}
use Rattle.group.specs.declared.Group.{Group}
use Rattle.group.specs.Groups.{count, has, none}

-- the cell of v at p; a variant above 15 and a place above 31 have the cell 0
abbrev pub cell_at : List ℕ → ℕ → ℕ → ℕ
cell_at rows v p = if nat_lt v 16 && nat_lt p 32 then slice_index_or rows (p * 16 + v) 0 else 0

-- the group beside the cell of v at p
abbrev pub group_at : List Group → ℕ → ℕ → Group
group_at sharing v p = slice_index_or sharing (p * 16 + v) none

-- it has all that have this cell at p
abbrev pub Shared : List ℕ → List Group → ℕ → ℕ → Type 0
Shared rows sharing v p = (w : ℕ) → has (group_at sharing v p) w ≡ (nat_lt w 16 && cell_at rows w p == cell_at rows v p)

-- the group of variant 0 at p has all sixteen; past the last place all have one cell
abbrev pub is_whole_at : List Group → ℕ → Bool
is_whole_at sharing p = nat_le 32 p || count (has (group_at sharing 0 p)) 16 == 16

-- how many places are not whole
abbrev pub parted_places : List Group → ℕ
parted_places sharing = sum_below (λ p. ind (not (is_whole_at sharing p))) 32
