-- Whether a variant has a place of its own, and why.
use Rattle.std.specs.Prelude.{ℕ, Bool, ◌&&◌, List, find, Some, None, Option, ◌==◌}
use Rattle.std.specs.Option.{option_map_or}
use Rattle.sheet.specs.declared.standing.Cause.{Cause}
use Rattle.sheet.specs.declared.standing.Cause.TheVariants.{Plan}
use Rattle.sheet.specs.declared.standing.Parting.{Parting}
use Rattle.sheet.specs.declared.standing.Standing.{Standing}
use Rattle.sheet.specs.declared.standing.Standing.TheVariants.{TakenOver, Own}

-- from which variant the place is taken over, if from one
abbrev pub giver_of : Standing → Option ℕ
giver_of (TakenOver w) = Some w
giver_of (Own cause) = None

abbrev pub is_parting_of : ℕ → ℕ → Parting → Bool
is_parting_of variant place x = x.variant == variant && x.place == place

-- what has parted the place of the variant: the first of these partings that is of it, or else nothing
abbrev pub cause_in : List Parting → ℕ → ℕ → Cause
cause_in partings variant place = option_map_or (λ x. x.cause) (find (is_parting_of variant place) partings) Plan
