-- The cells of the copies, and what they hold.
use Rattle.std.specs.Prelude.{ℕ, [], ◌∷◌, slice_index_or}
use Rattle.day.specs.declared.place.Place.{Place}
use Rattle.day.specs.Blank.{blank_place}
use Rattle.copies.specs.declared.store.Copies.{Copies}
use Rattle.copies.specs.Names.{cell_in}

-- the cell of v at p
abbrev pub cell_of : Copies → ℕ → ℕ → ℕ
cell_of copies = cell_in copies.names

-- what the cell c holds; a cell past the 128 is blank
abbrev pub content_of : Copies → ℕ → Place
content_of copies c = slice_index_or copies.cells.items c blank_place

-- a place before its study begins
abbrev pub zero_place : Place
zero_place = record { words = 0 ∷ 0 ∷ 0 ∷ 0 ∷ 0 ∷ 0 ∷ 0 ∷ 0 ∷ []; order = 0; sent = 0 }
