-- What a calendar is for its callers, and what a put and emptying make of it.
use Rattle.std.specs.Prelude.{ℕ, ◌+◌, ◌≤◌, Bool, ◌&&◌, List, [], length, nat_lt, if◌then◌else◌}
use Rattle.event.specs.Lists.{insert, Sorted}
use Rattle.calendar.specs.declared.Held.{Held}
use Rattle.calendar.specs.Calls.{key_of_held}

-- what is held, by key and then older put first; how many it can hold; the puts accepted since it was emptied
pub record Contents : Type 0 where
  pub held : List Held
  pub room : ℕ
  pub puts : ℕ

-- a put is accepted: there is room, and fewer than a million were accepted since the calendar was emptied
abbrev pub accepts : Contents → Bool
accepts s = nat_lt (length s.held) s.room && nat_lt s.puts 1000000

-- an accepted put goes behind those with its key, and one that is refused changes nothing
abbrev pub put_in : Held → Contents → Contents
put_in h s = if accepts s then record { held = insert key_of_held h s.held; room = s.room; puts = s.puts + 1 } else s

-- these messages, with the same room and as many puts
abbrev pub holding : List Held → Contents → Contents
holding xs s = record { held = xs; room = s.room; puts = s.puts }

-- none is held, and puts are counted anew
abbrev pub emptied : Contents → Contents
emptied s = record { held = []; room = s.room; puts = 0 }

-- what is so of every calendar
pub record Lawful (s : Contents) : Type 0 where
  pub roomy : 64 ≤ s.room
  pub bounded : s.room ≤ 4096
  pub fits : length s.held ≤ s.room
  pub few : s.puts ≤ 1000000
  pub sorted : Sorted key_of_held s.held
