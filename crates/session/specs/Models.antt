-- What a model of either kind means.
use Rattle.std.specs.Prelude.{Bool}
use Rattle.model.specs.Meaning.{Meaning, Law}
use Rattle.collection.specs.Places as collection_places
use Rattle.collection.specs.Rules as collection
use Rattle.collection.specs.Reactions as collection_laws
use Rattle.phold.specs.Rules as phold
use Rattle.phold.specs.Passing as phold_laws
use Rattle.script.specs.declared.command.ModelSize.{ModelSize}
use Rattle.script.specs.declared.command.ModelSize.TheVariants as size
use Rattle.session.specs.declared.any_model.AnyModel.{AnyModel}
use Rattle.session.specs.declared.any_model.AnyModel.TheVariants.{Collection, Phold}

-- its size is within the limits of its kind
abbrev pub allowed : ModelSize → Bool
allowed (size.Collection f t) = collection_places.allowed f t
allowed (size.Phold p seed r) = phold.allowed p seed r

-- what a model of this size means
abbrev pub meaning_for : ModelSize → Meaning
meaning_for (size.Collection f t) = collection.meaning_of f t
meaning_for (size.Phold p seed r) = phold.meaning_of p seed r

-- what the one of its kind means
abbrev pub meaning_of : AnyModel → Meaning
meaning_of (Collection m) = collection.meaning_of m.farms m.tankers
meaning_of (Phold m) = phold.meaning_of m.places m.seed m.replication

pub law_kept : (m : AnyModel) → Law (meaning_of m)
law_kept (Collection m) = collection_laws.law_kept m.farms m.tankers m.limits
law_kept (Phold m) = phold_laws.law_kept m.places m.seed m.replication m.limits.0 m.limits.1
