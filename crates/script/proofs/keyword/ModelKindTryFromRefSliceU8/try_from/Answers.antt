-- What is no text is none of the words.
use Rattle.std.proofs.Common.{rules}
use Rattle.script.proofs.Unknown.{unknown_model}
use Rattle.script.proofs.keyword.ModelKindTryFromRefSliceU8.try_from.Goals as goal

pub returns-in_err-text : goal.returns-in_err-text
returns-in_err-text c = search (rules, unknown_model)
