-- How a flaw of the words of a line is told to people.
use Rattle.std.specs.Prelude.{ℕ, List, codes}
use Rattle.text.specs.declared.flaw.WordFlaw.{WordFlaw}
use Rattle.text.specs.declared.flaw.WordFlaw.TheVariants.{TooFewWords, TooManyWords, NotANumber, OutOfRange}

-- each in plain words
abbrev pub wording : WordFlaw → List ℕ
wording TooFewWords = codes "a word is missing at the end"
wording TooManyWords = codes "there is a word too many"
wording NotANumber = codes "a number is wanted, of decimal digits only"
wording OutOfRange = codes "a number is too small or too large"
