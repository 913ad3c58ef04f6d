-- What buckets are for their callers.
use Rattle.std.specs.Prelude.{ℕ, ◌≤◌, List, length, vec_len}
use Rattle.std.specs.Global.{Vec}
use Rattle.std.proofs.Common.{arith}
use Rattle.event.specs.Lists.{Sorted}
use Rattle.calendar.specs.declared.Held.{Held}
use Rattle.calendar.specs.Calls.{key_of_held}
use Rattle.slot.specs.declared.Slot.{Slot}
use Rattle.slot.specs.Slots.{in_order}
use Rattle.slot.proofs.Holds.{length_in_order}

-- the messages in order, at most 512, and the puts since it was emptied
pub record Line : Type 0 where
  pub held : List Held
  pub puts : ℕ
  pub fits : length held ≤ 512
  pub sorted : Sorted key_of_held held

-- a pool holds in order as many as it has
pub fits_in_order : (v : Vec Slot) → vec_len v ≤ 512 → length (in_order v.items) ≤ 512
fits_in_order v k = omega (arith, length_in_order v.items, v.ok.0)
