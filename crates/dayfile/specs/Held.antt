-- What the code holds and answers, in the words of the definitions.
use Rattle.std.specs.Prelude.{◌≡◌, Ok, Err, vec_items, Result}
use Rattle.dayfile.specs.declared.flaw.Flaw.{Flaw}
use Rattle.dayfile.specs.declared.flaw.FlawKind.TheVariants.{NoMemory}
use Rattle.dayfile.specs.declared.plan.Plan.{Plan}
use Rattle.dayfile.specs.Plans.{Sheet}

abbrev pub sheet_of : Plan → Sheet
sheet_of p = record { farms = p.farms; tankers = p.tankers; end = p.end; milkings = vec_items p.milkings; choices = vec_items p.choices }

-- an answer by what its plan says
abbrev pub answer : Result Plan Flaw → Result Sheet Flaw
answer (Ok p) = Ok (sheet_of p)
answer (Err f) = Err f

-- the reader ran out of memory, whatever the file says
abbrev pub Memory : Flaw → Type 0
Memory f = f.kind ≡ NoMemory

abbrev pub OutOfMemory : Result Plan Flaw → Type 0
OutOfMemory (Ok p) = ⊥
OutOfMemory (Err f) = Memory f
