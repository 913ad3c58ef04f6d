-- The bay where tankers unload, one after the other.
use Rattle.std.specs.Prelude.{ℕ, ◌+◌, ◌-◌, ◌/◌, min, max}
use Rattle.collection.specs.Replies.{grown}

-- an unloading begins at the later of now and the end of the one before
abbrev pub bay_begin : ℕ → ℕ → ℕ
bay_begin time before = max time before

-- it takes 60 seconds and one more for every full 20 litres
abbrev pub bay_end : ℕ → ℕ → ℕ → ℕ
bay_end time before litres = grown (bay_begin time before) (60 + litres / 20)

-- the tanker hears at the end, but within 1 to 86,400 seconds
abbrev pub stay : ℕ → ℕ → ℕ
stay time end = max 1 (min (end - time) 86400)
