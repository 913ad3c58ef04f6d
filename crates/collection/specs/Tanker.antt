-- A tanker. Its words: 0 the stage (0 free, 1 on the way to a farm, 2 on the way back), 1 the farm of its trip.
use Rattle.std.specs.Prelude.{◌≡◌, ℕ, ◌<◌, Bool, if◌then◌else◌, ◌&&◌, Result, MatchResult, List, ◌==◌, slice_set}
use Rattle.model.specs.declared.Arrival.{Arrival}
use Rattle.collection.specs.declared.tanker.Stage.{Stage}
use Rattle.collection.specs.declared.tanker.Stage.TheVariants.{Idle, Out, Back}
use Rattle.collection.specs.declared.tanker.UnknownStage.{UnknownStage}
use Rattle.model.specs.Meaning.{Reaction}
use Rattle.collection.specs.Kinds.{free, go, pump, loaded, unload, emptied}
use Rattle.collection.specs.Places.{dairy, is_farm_place}
use Rattle.collection.specs.Replies.{word, message, sending, ignored}
use Rattle.collection.specs.Roads.{drive_of}

-- the number of each stage, as word 0 has it
abbrev pub stage_number : Stage → ℕ
stage_number Idle = 0
stage_number Out = 1
stage_number Back = 2

-- the stage with this number, or none where it is above them all
abbrev pub Staged : ℕ → Result Stage UnknownStage → Type 0
Staged n r = MatchResult r (λ stage. stage_number stage ≡ n) (λ _. 2 < n)

-- the tanker is at this stage, and a message of this kind from this sender reaches it
abbrev pub meets : List ℕ → Arrival → ℕ → ℕ → ℕ → Bool
meets ws a stage kind sender = word ws 0 == stage && (a.kind == kind && a.sender == sender)

-- what a tanker does with a message, by its stage and the kind together
abbrev pub tanker_reaction : ℕ → List ℕ → Arrival → Reaction
tanker_reaction f ws a =
    if meets ws a 0 go dairy && is_farm_place f a.«data» then sending (slice_set (slice_set ws 0 1) 1 a.«data») (message a.«data» (drive_of a.«data») pump 0)
    else if meets ws a 1 loaded (word ws 1) && is_farm_place f (word ws 1) then sending (slice_set ws 0 2) (message dairy (drive_of (word ws 1)) unload a.«data»)
    else if meets ws a 2 emptied dairy then sending (slice_set ws 0 0) (message dairy 1 free 0)
    else ignored ws a
