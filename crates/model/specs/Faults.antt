-- The number, layer and position of each refusal of a model.
use Rattle.refusal.specs.declared.Refusal.{Refusal}
use Rattle.refusal.specs.declared.Layer.TheVariants as layer
use Rattle.model.specs.declared.ModelFault.{ModelFault}
use Rattle.model.specs.declared.ModelFault.TheVariants.{Limits}

abbrev pub refusal_of : ModelFault → Refusal
refusal_of Limits = record { number = 1; layer = layer.Model; position = 0 }
