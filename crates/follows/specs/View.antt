-- What a study holds, as plain values, and what its calls make of it; a step has a file of its own.
use Rattle.std.specs.Prelude.{ℕ, suc, Bool, true, false, List, [], map, length}
use Rattle.event.specs.declared.Message.{Message}
use Rattle.event.specs.declared.Start.{Start}
use Rattle.event.specs.Lists.{insert_all}
use Rattle.event.specs.Starts.{numbered}
use Rattle.group.specs.declared.Group.{Group}
use Rattle.group.specs.Groups.{none, only, with, without}
use Rattle.calendar.specs.declared.Held.{Held}
use Rattle.calendar.specs.Calls.{key_of_held, spread, erase}
use Rattle.model.specs.Meaning.{Meaning}
use Rattle.day.specs.declared.place.Place.{Place}
use Rattle.day.specs.Day.{ordered_place, starting_place}
use Rattle.copies.specs.Sharing.{copy_cells, move_cell, move_content, target}

pub record View : Type 0 where
  pub loaded : Bool
  pub end : ℕ
  -- what waits, in the calendar
  pub held : List Held
  -- of a variant and a place
  pub cell : ℕ → ℕ → ℕ
  -- of a cell
  pub content : ℕ → Place
  -- what has run, oldest first, and for which live variants it stands in their journals
  pub entries : List Held
  pub live : Group
  -- live, with a permit that is not spent yet
  pub undecided : Group
  pub made : ℕ
  pub executions : ℕ
  -- accepted by the calendar since the load
  pub puts : ℕ

-- a message that the variants of a group wait for
abbrev pub held_for : Group → Message → Held
held_for group m = record { message = m; group = group }

-- each in turn is put, for the group
abbrev pub put_all : Group → List Message → List Held → List Held
put_all group ms held = insert_all key_of_held (map (held_for group) ms) held

-- before the first call; what the cells hold is of no matter
abbrev pub blank_view : (ℕ → ℕ → ℕ) → (ℕ → Place) → View
blank_view cell content = record {
  loaded = false;
  end = 0;
  held = [];
  cell = cell;
  content = content;
  entries = [];
  live = none;
  undecided = none;
  made = 0;
  executions = 0;
  puts = 0;
}

-- load gives variant 0, with the cell p for the place p
abbrev pub loaded_view : Meaning → List Start → ℕ → View
loaded_view M load end = record {
  loaded = true;
  end = end;
  held = put_all (only 0) (numbered 0 load) [];
  cell = λ v p. p;
  content = starting_place M;
  entries = [];
  live = only 0;
  undecided = none;
  made = 1;
  executions = 0;
  puts = length load;
}

-- the next variant joins every group that has v, and has v's cells
abbrev pub branched : View → ℕ → View
branched V v = record V {
  held = spread v V.made V.held;
  cell = copy_cells V.cell v V.made;
  entries = spread v V.made V.entries;
  live = with V.live V.made;
  undecided = with V.undecided V.made;
  made = suc V.made;
}

-- v goes over to the cell t at the place, which holds what v had there and the order
abbrev pub decided_on : View → ℕ → ℕ → ℕ → ℕ → View
decided_on V v place value t = record V {
  cell = move_cell V.cell (only v) place t;
  content = move_content V.content t (ordered_place (V.content (V.cell v place)) value);
  undecided = without V.undecided v;
}

-- where no other has v's cell it stays, else it goes over to a free one
abbrev pub decided : ℕ → View → ℕ → ℕ → ℕ → View
decided places V v place value = decided_on V v place value (target places V.cell V.live (only v) place v)

abbrev pub waived : View → ℕ → View
waived V v = record V { undecided = without V.undecided v }

-- v leaves every group, and what no variant has left is dropped
abbrev pub retired : View → ℕ → View
retired V v = record V {
  held = erase v V.held;
  entries = erase v V.entries;
  live = without V.live v;
}
