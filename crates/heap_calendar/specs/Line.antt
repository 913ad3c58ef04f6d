-- What a queue is for its callers.
use Rattle.std.specs.Prelude.{◌≡◌, ℕ, ◌≤◌, Bool, true, false, List, [], ◌∷◌, length, vec_items, vec_len}
use Rattle.std.specs.Global.{Vec}
use Rattle.std.proofs.Common.{refl, arith}
use Rattle.event.specs.Lists.{Sorted}
use Rattle.calendar.specs.declared.Held.{Held}
use Rattle.calendar.specs.Calls.{key_of_held}
use Rattle.slot.specs.declared.Slot.{Slot}
use Rattle.slot.specs.Slots.{in_order}
use Rattle.slot.proofs.Holds.{length_in_order}
use Rattle.std.proofs.lemmas.List.{length-map}
use Rattle.heap_calendar.specs.declared.entry.Entry.{Entry}
use Rattle.heap_calendar.specs.Entries.{slots, slot_of}
use Rattle.heap_calendar.specs.Totals.{standing}

-- the messages in order, at most 512, and the age of the next put
pub record Line : Type 0 where
  pub held : List Held
  pub next : ℕ
  pub fits : length held ≤ 512
  pub sorted : Sorted key_of_held held

pub no_more : {X : Type 0} (taken : Bool) (xs : List X) → length (standing taken xs) ≤ length xs
no_more true [] = omega arith
no_more true (x ∷ xs) = omega arith
no_more false xs = omega arith

-- as many are held in order as there are
pub held_within : (xs : List Slot) (n room : ℕ) → n ≡ length xs → n ≤ room → length (in_order xs) ≤ room
held_within xs n room e h = let l = length_in_order xs in omega arith

-- no more stand than there are
pub fits_in_order : (taken : Bool) (pool : List Slot) (v : Vec Entry) → vec_len v ≤ 512 → length (in_order (standing taken (slots pool (vec_items v)))) ≤ 512
fits_in_order taken pool v k =
    let xs = slots pool (vec_items v) in
    held_within (standing taken xs) _ 512 refl (omega (arith, no_more taken xs, length-map (vec_items v) (slot_of pool), v.ok.0))
