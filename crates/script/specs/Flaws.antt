-- How a flaw of a line is told to people.
use Rattle.std.specs.Prelude.{ℕ, List, codes}
use Rattle.text.specs.Flaws as text
use Rattle.script.specs.declared.flaw.Flaw.{Flaw}
use Rattle.script.specs.declared.flaw.Flaw.TheVariants.{UnknownWord, Word}

-- each in plain words
abbrev pub wording : Flaw → List ℕ
wording UnknownWord = codes "a word is unknown"
wording (Word flaw) = text.wording flaw
