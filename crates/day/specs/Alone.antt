-- The day run alone under a list of orders, and what any mixture of events and orders makes of a day.
use Rattle.std.specs.Prelude.{◌≡◌, ℕ, zero, suc, ◌≤◌, if◌then◌else◌, List, [], ◌∷◌, length, ◌==◌}
use Rattle.std.specs.List.{AllByRecursion}
use Rattle.event.specs.declared.Start.{Start}
use Rattle.model.specs.Meaning.{Meaning}
use Rattle.day.specs.Day.{Day, event, ordered, starting}

pub record Order : Type 0 where
  -- the events run when it was given
  pub position : ℕ
  pub place : ℕ
  pub value : ℕ

-- the orders of position n, oldest first
abbrev pub ordered_at : ℕ → List Order → Day → Day
ordered_at n [] d = d
ordered_at n (o ∷ os) d = ordered_at n os (if o.position == n then ordered d o.place o.value else d)

-- n events from the starting list on; once n have run, the orders of position n are set
unfoldable pub alone : Meaning → ℕ → List Start → List Order → ℕ → Day
alone M end starts orders zero = ordered_at 0 orders (starting M starts)
alone M end starts orders (suc n) = ordered_at (suc n) orders (event M end (alone M end starts orders n))

-- d is the day run alone from these starts under these orders, after as many events as it has run
pub record Alone (M : Meaning) (end : ℕ) (starts : List Start) (orders : List Order) (d : Day) : Type 0 where
  pub day : d ≡ alone M end starts orders (length d.journal)
  pub past : AllByRecursion (λ o. o.position ≤ length d.journal) orders

-- an order as it is given now
abbrev pub order_now : Day → ℕ → ℕ → Order
order_now d place value = record { position = length d.journal; place = place; value = value }

-- what can be done with a day
pub data Deed : Type 0 where
  run : Deed
  -- place and value
  give : ℕ → ℕ → Deed

-- the day after these deeds, oldest first
abbrev pub done : Meaning → ℕ → List Deed → Day → Day
done M end [] d = d
done M end (run ∷ deeds) d = done M end deeds (event M end d)
done M end (give place value ∷ deeds) d = done M end deeds (ordered d place value)

-- the orders among them
abbrev pub given : Meaning → ℕ → List Deed → Day → List Order
given M end [] d = []
given M end (run ∷ deeds) d = given M end deeds (event M end d)
given M end (give place value ∷ deeds) d = order_now d place value ∷ given M end deeds (ordered d place value)
