-- Orders that know to which variant they were given.
use Rattle.std.specs.Prelude.{ℕ, List, map}
use Rattle.event.specs.declared.Start.{Start}
use Rattle.model.specs.Meaning.{Meaning}
use Rattle.day.specs.Day.{Day}
use Rattle.day.specs.Alone.{Order, alone}

-- two variants that are given the same value have two orders
pub record Given : Type 0 where
  pub by : ℕ
  pub position : ℕ
  pub place : ℕ
  pub value : ℕ

-- as a day run alone takes it
abbrev pub plain : Given → Order
plain g = record { position = g.position; place = g.place; value = g.value }

-- the day run alone under orders that were given
abbrev pub alone_under : Meaning → ℕ → List Start → List Given → ℕ → Day
alone_under M end starts given n = alone M end starts (map plain given) n
