-- One event or order, over the cells and lists of a lone day.
use Rattle.std.proofs.Common.{◌≡◌, ℕ, suc, ◌<◌, List, [], ◌∷◌, ◌++◌, length, if◌then◌else◌, ◌==◌, Some, slice_index_or, slice_set, ⊎_elim, arith, get_or-set_other, get_or-set_same}
use Rattle.std.specs.List.{AllByRecursion}
use Rattle.std.proofs.lemmas.Bool.{cases_eq}
use Rattle.event.specs.declared.Message.{Message}
use Rattle.event.specs.Keys.{key_of}
use Rattle.event.specs.Lists.{insert_all, rest}
use Rattle.model.specs.declared.Sent.{Sent}
use Rattle.model.specs.Meaning.{Meaning, Within}
use Rattle.day.specs.declared.place.Place.{Place}
use Rattle.day.specs.Blank.{blank_place}
use Rattle.day.specs.Day.{stamped, posted_by, place_after, event_at, ordered, ordered_place}
use Rattle.day.specs.Held.{held_day}

-- a place below 32 is its cell
pub held_place : (M : Meaning) (cells : List Place) (waiting journal : List Message) (p : ℕ) → p < 32 → (held_day M cells waiting journal).place p ≡ slice_index_or cells p blank_place
held_place M cells waiting journal p l = grind arith

-- where the cell r is set to x, the place r is x, and the others stay
pub held_set : (M : Meaning) (cells : List Place) (waiting journal : List Message) (r : ℕ) (x : Place) → r < 32 → length cells ≡ 32 → (p : ℕ)
    → (held_day M (slice_set cells r x) waiting journal).place p ≡ (if p == r then x else (held_day M cells waiting journal).place p)
held_set M cells waiting journal r x l e p =
    ⊎_elim (λ (h : p ≡ r). let same = get_or-set_same cells r x blank_place (omega arith) in grind (arith, same)) (λ (h : p ≡ r → ⊥). let other = get_or-set_other cells r p x blank_place h in grind (arith, other)) (cases_eq p r)

-- where the cell of its receiver runs m, what it sends in time waits, and m is in the journal, the day that is held is the one after the event of m
pub held_event : (M : Meaning) (end : ℕ) (cells : List Place) (waiting journal : List Message) (m : Message) → m.receiver < 32 → length cells ≡ 32
    → (cells' : List Place) (waiting' journal' : List Message) → cells' ≡ slice_set cells m.receiver (place_after M (slice_index_or cells m.receiver blank_place) m)
    → waiting' ≡ insert_all key_of (posted_by M end (slice_index_or cells m.receiver blank_place) m) (rest waiting) → journal' ≡ journal ++ m ∷ []
    → held_day M cells' waiting' journal' ≡ event_at M end (held_day M cells waiting journal) (Some m)
held_event M end cells waiting journal m at long cells' waiting' journal' c w j = λ i. record { place = λ p. places p i; waiting = waits i; journal = j i }
  where
    places : (p : ℕ) → (held_day M cells' waiting' journal').place p ≡ (event_at M end (held_day M cells waiting journal) (Some m)).place p
    places p = grind (arith, held_set M cells waiting journal m.receiver (place_after M (slice_index_or cells m.receiver blank_place) m) at long p)

    waits : waiting' ≡ (event_at M end (held_day M cells waiting journal) (Some m)).waiting
    waits = grind arith

-- where an order is set at a cell, the day that is held is the one after the order
pub held_order : (M : Meaning) (cells cells' : List Place) (waiting journal : List Message) (at value : ℕ) → at < 32 → length cells ≡ 32
    → cells' ≡ slice_set cells at (ordered_place (slice_index_or cells at blank_place) value) → held_day M cells' waiting journal ≡ ordered (held_day M cells waiting journal) at value
held_order M cells cells' waiting journal at value l long e = λ i. record { place = λ p. places p i; waiting = waiting; journal = journal }
  where
    places : (p : ℕ) → (held_day M cells' waiting journal).place p ≡ (ordered (held_day M cells waiting journal) at value).place p
    places p = grind (arith, held_set M cells waiting journal at (ordered_place (slice_index_or cells at blank_place) value) l long p)

-- what is stamped goes where it was sent
pub stamped_receivers : (n now sender from : ℕ) (ss : List Sent) → AllByRecursion (Within n) ss → AllByRecursion (λ m. m.receiver < n) (stamped now sender from ss)
stamped_receivers n now sender from [] h = tt
stamped_receivers n now sender from (s ∷ ss) h = (h.0.receiver, stamped_receivers n now sender (suc from) ss h.1)

pub all_rest : {X : Type 0} (P : X → Type 0) (xs : List X) → AllByRecursion P xs → AllByRecursion P (rest xs)
all_rest P [] h = tt
all_rest P (x ∷ xs) h = h.1
