-- A starting list, one message after the other.
use Rattle.std.proofs.Common.{◌≡◌, ℕ, suc, ◌+◌, ◌<◌, ◌≤◌, List, [], ◌∷◌, length, get_or, Some, None, Option, sym, refl, subst, arith, slice_index_or}
use Rattle.std.specs.List.{AllByRecursion}
use Rattle.event.specs.declared.Message.{Message}
use Rattle.event.specs.declared.Start.{Start}
use Rattle.event.specs.Keys.{key_of, blank}
use Rattle.event.specs.Lists.{insert_all}
use Rattle.event.specs.Starts.{message_of, numbered}
use Rattle.event.proofs.Insertion.{all_insert_all}
use Rattle.model.specs.Meaning.{Meaning}
use Rattle.day.specs.declared.fault.DayFault.{DayFault}
use Rattle.day.specs.declared.place.Place.{Place}
use Rattle.day.specs.Blank.{blank_place}
use Rattle.day.specs.Day.{starting, starting_place}
use Rattle.day.specs.Held.{held_day}
use Rattle.day.proofs.Numbers.{numbered_all}
use Rattle.day.proofs.Places.{places_by_all}
use Rattle.day.specs.Faults.{or_else, start_fault_of, starts_fault, load_fault_of}

-- one that is not refused goes to a place, is not late, and finds room
pub record Fits (places capacity end i : ℕ) (s : Start) : Type 0 where
  pub place : s.receiver < places
  pub time : s.time ≤ end
  pub room : i < capacity

pub start_fits : (places capacity end i : ℕ) (s : Start) → start_fault_of places capacity end i s ≡ None → Fits places capacity end i s
start_fits places capacity end i s e = record { place = grind arith; time = grind arith; room = grind arith }

-- where none is refused
pub record Loads (places capacity end i : ℕ) (ss : List Start) : Type 0 where
  pub placed : AllByRecursion (λ s. s.receiver < places) ss
  pub timely : AllByRecursion (λ s. s.time ≤ end) ss
  pub few : i + length ss ≤ capacity

or_none : (o p : Option DayFault) → or_else o p ≡ None → (o ≡ None) × (p ≡ None)
or_none None p e = (refl, e)
or_none (Some f) p e = grind arith

pub starts_load : (places capacity end i : ℕ) (ss : List Start) → i ≤ capacity → starts_fault places capacity end i ss ≡ None → Loads places capacity end i ss
starts_load places capacity end i [] l e = record { placed = tt; timely = tt; few = omega arith }
starts_load places capacity end i (s ∷ ss) l e =
    let both = or_none (start_fault_of places capacity end i s) (starts_fault places capacity end (suc i) ss) e in
    let fits = start_fits places capacity end i s both.0 in
    let room = fits.room in
    let more = starts_load places capacity end (suc i) ss (omega arith) both.1 in
    let few = more.few in
    record { placed = (fits.place, more.placed); timely = (fits.time, more.timely); few = omega arith }

pub load_fits : (places capacity end : ℕ) (ss : List Start) → load_fault_of places capacity end ss ≡ None → (end ≤ 1000000) × Loads places capacity end 0 ss
load_fits places capacity end ss e = (grind arith, starts_load places capacity end 0 ss (omega arith) (grind arith))

-- what holds of each start holds of each place of the list that waits
pub starts_wait : (Q : Start → Type 0) (P : Message → Type 0) → ((n : ℕ) (s : Start) → Q s → P (message_of n s)) → P blank → (ss : List Start) (waiting : List Message)
    → waiting ≡ insert_all key_of (numbered 0 ss) [] → AllByRecursion Q ss → (i : ℕ) → P (get_or waiting i blank)
starts_wait Q P f z ss waiting e h =
    places_by_all P blank waiting z (subst (AllByRecursion P) (sym e) (all_insert_all key_of P (numbered 0 ss) [] (numbered_all Q P f 0 ss h) tt))

-- where each cell is as it begins, the starting list waits and nothing has run, the day that is held is the one that begins
pub held_starting : (M : Meaning) (cells : List Place) → ((p : ℕ) → p < 32 → slice_index_or cells p blank_place ≡ starting_place M p)
    → (starts : List Start) (waiting journal : List Message) → waiting ≡ insert_all key_of (numbered 0 starts) [] → journal ≡ [] → held_day M cells waiting journal ≡ starting M starts
held_starting M cells begun starts waiting journal w j = λ i. record { place = λ p. places p i; waiting = w i; journal = j i }
  where
    places : (p : ℕ) → (held_day M cells waiting journal).place p ≡ starting_place M p
    places p = grind (arith, begun p)
