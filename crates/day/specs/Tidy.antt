-- What holds of every day run alone.
use Rattle.std.specs.Prelude.{◌<◌, ◌++◌}
use Rattle.std.specs.List.{AllByRecursion}
use Rattle.event.specs.Keys.{key_of}
use Rattle.event.specs.Lists.{Rising}
use Rattle.model.specs.Meaning.{Meaning}
use Rattle.day.specs.Day.{Day}

pub record Tidy (M : Meaning) (d : Day) : Type 0 where
  -- the keys of the journal strictly ascend, and so do those of what waits, which all come after
  pub rising : Rising key_of (d.journal ++ d.waiting)
  -- a place has sent what waits from it
  pub numbered : AllByRecursion (λ m. m.sender < M.places → m.number < (d.place m.sender).sent) d.waiting
  -- what waits, waits at a place
  pub received : AllByRecursion (λ m. m.receiver < M.places) d.waiting
