-- What is no text names no farm to try.
use Rattle.std.proofs.Common.{rules}
use Rattle.dayfile.proofs.Words.{unknown_preference}
use Rattle.dayfile.proofs.word.preference.Goals as goal

pub returns-in_err-text : goal.returns-in_err-text
returns-in_err-text c = search (rules, unknown_preference)
