-- Cells and what they hold as a study begins.
use Rattle.std.specs.Prelude.{ℕ, ◌&&◌, if◌then◌else◌, nat_lt}
use Rattle.model.specs.Meaning.{Meaning}
use Rattle.day.specs.declared.place.Place.{Place}
use Rattle.day.specs.Blank.{blank_place}
use Rattle.day.specs.Day.{starting_place}

-- every variant has the cell p at the place p
abbrev pub starting_cell : ℕ → ℕ → ℕ
starting_cell v p = if nat_lt v 16 && nat_lt p 32 then p else 0

-- each of 128 cells holds what the place of its number begins with
abbrev pub starting_content : Meaning → ℕ → Place
starting_content M c = if nat_lt c 128 then starting_place M c else blank_place
