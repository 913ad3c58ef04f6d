-- Held messages with their age, in order.
use Rattle.std.specs.Prelude.{ℕ, ◌<◌, Bool, true, ◌&&◌, ◌||◌, List, [], ◌∷◌, length, nat_lt}
use Rattle.std.specs.declared.cmp.Ordering.{Ordering}
use Rattle.std.specs.Ordering.{nat_cmp, on, then_cmp, flip_args}
use Rattle.std.specs.List.{AllWithin}
use Rattle.event.specs.declared.Key.{Key}
use Rattle.event.specs.Keys.{key_cmp, before, same, then}
use Rattle.calendar.specs.declared.Held.{Held}
use Rattle.calendar.specs.Calls.{key_of_held}
use Rattle.slot.specs.declared.Slot.{Slot}
use Rattle.slot.specs.declared.order.Rank.{Rank}
use Rattle.slot.specs.Rank.{ranked}

abbrev pub key_of_slot : Slot → Key
key_of_slot x = key_of_held x.held

-- by the keys, and where they are equal by what follows
abbrev pub by_key : Key → Key → Bool → Bool
by_key k l next = before k l || (same k l && next)

-- by kind, data and group: only to make the order total
abbrev pub last : Slot → Slot → Bool
last x y = then x.held.message.kind y.held.message.kind (then x.held.message.«data» y.held.message.«data» (nat_lt x.held.group.mask y.held.group.mask))

-- x comes before y: by key, then the older put
unfoldable pub earlier : Slot → Slot → Bool
earlier x y = by_key (key_of_slot x) (key_of_slot y) (then x.age y.age (last x y))

-- x comes before y, and key or age tells it
unfoldable pub ahead : Slot → Slot → Bool
ahead x y = by_key (key_of_slot x) (key_of_slot y) (nat_lt x.age y.age)

-- what the order goes by
abbrev pub rank_of : Slot → Rank
rank_of x = record { key = key_of_slot x; age = x.age; kind = x.held.message.kind; «data» = x.held.message.«data»; group = x.held.group }

-- as the parts compare, in their order
abbrev pub slot_cmp : Slot → Slot → Ordering
slot_cmp =
    then_cmp (on key_of_slot key_cmp)
    (then_cmp (on (λ x. x.age) nat_cmp)
    (then_cmp (on (λ x. x.held.message.kind) nat_cmp)
    (then_cmp (on (λ x. x.held.message.«data») nat_cmp) (on (λ x. x.held.group.mask) nat_cmp))))

-- what `cmp` answers: the earlier is the greater
abbrev pub turned : Slot → Slot → Ordering
turned = flip_args slot_cmp

abbrev pub bare : Slot → Held
bare x = x.held

abbrev pub bares : List Slot → List Held
bares [] = []
bares (x ∷ xs) = bare x ∷ bares xs

-- what the slots of an array hold, in order
abbrev pub in_order : List Slot → List Held
in_order xs = bares (ranked earlier xs)

-- each slot is older than the next put
abbrev pub Young : ℕ → List Slot → Type 0
Young n xs = AllWithin (λ x. x.age < n) xs 0 (length xs)

abbrev pub leads_all : Slot → List Slot → Bool
leads_all x [] = true
leads_all x (y ∷ ys) = ahead x y && leads_all x ys

-- each is ahead of all that follow
unfoldable pub steady : List Slot → Bool
steady [] = true
steady (x ∷ xs) = leads_all x xs && steady xs
