-- The kinds of message of a collection day.
use Rattle.std.specs.Prelude.{◌≡◌, ℕ, ◌<◌, Result, MatchResult}
use Rattle.collection.specs.declared.kind.Kind.{Kind}
use Rattle.collection.specs.declared.kind.Kind.TheVariants.{Milked, Ready, Free, Go, Pump, Loaded, Unload, Emptied}
use Rattle.collection.specs.declared.kind.UnknownKind.{UnknownKind}

-- milk is there, its litres the data
abbrev pub milked : ℕ
milked = 0

-- a farm waits for a tanker
abbrev pub ready : ℕ
ready = 1

-- a tanker waits for a farm
abbrev pub free : ℕ
free = 2

-- a tanker is sent to the farm in the data
abbrev pub go : ℕ
go = 3

-- a tanker stands at the farm
abbrev pub pump : ℕ
pump = 4

-- the tanker has its load, the data
abbrev pub loaded : ℕ
loaded = 5

-- a tanker stands at the bay with the load in the data
abbrev pub unload : ℕ
unload = 6

-- the tanker is empty again
abbrev pub emptied : ℕ
emptied = 7

abbrev pub number_of : Kind → ℕ
number_of Milked = milked
number_of Ready = ready
number_of Free = free
number_of Go = go
number_of Pump = pump
number_of Loaded = loaded
number_of Unload = unload
number_of Emptied = emptied

-- the kind with this number, or the number told back where it is above them all
abbrev pub Numbered : ℕ → Result Kind UnknownKind → Type 0
Numbered n r = MatchResult r (λ kind. number_of kind ≡ n) (λ e. (e.0 ≡ n) × (emptied < n))
