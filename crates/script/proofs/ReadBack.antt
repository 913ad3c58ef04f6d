-- A command that is written out is read back.
use Rattle.std.proofs.Common.{◌≡◌, ℕ, List, Some, Ok, codes, decimal, Option, Result, refl, ap, ◌∙◌, arith}
use Rattle.std.specs.List.{AllByRecursion}
use Rattle.text.proofs.Written.{Word, words_said, word_decimal, number_decimal, word_by}
use Rattle.script.specs.declared.command.CalendarKind.TheVariants.{Heap, Buckets}
use Rattle.script.specs.declared.command.ModelSize.{ModelSize}
use Rattle.script.specs.declared.command.ModelSize.TheVariants.{Collection, Phold}
use Rattle.script.specs.declared.command.Command.{Command}
use Rattle.script.specs.declared.command.Command.TheVariants.{Calendar, Model, Start, Load, Step, Branch, Decide, Waive, Retire, Events, Entry, Journal, Place, Next, Shares, Group, Totals}
use Rattle.script.specs.declared.flaw.Flaw.{Flaw}
use Rattle.script.specs.Commands.{byte_of, long_of, command_of, command_in}
use Rattle.script.specs.Written.{model_words, command_words, written, Byte, Long, FitsModel, Fits}

-- a number that fits its field is a word, and is read
word8 : (n : ℕ) → Byte n → Word (decimal n)
word8 n h = word_decimal n (omega arith)

read8 : (n : ℕ) → Byte n → byte_of (decimal n) ≡ Ok n
read8 n h = number_decimal 0 255 n (omega arith) h (omega arith)

read32 : (n : ℕ) → Long n → long_of (decimal n) ≡ Ok n
read32 n h = number_decimal 0 4294967295 n (omega arith) h (omega arith)

words_model : (m : ModelSize) → FitsModel m → AllByRecursion Word (model_words m)
words_model (Collection f t) h = (word_by (codes "collection") refl refl, (word8 f h.0, (word8 t h.1, tt)))
words_model (Phold p s r) h = (word_by (codes "phold") refl refl, (word8 p h.0, (word_decimal s h.1, (word8 r h.2, tt))))

words_command : (c : Command) → Fits c → AllByRecursion Word (command_words c)
words_command (Calendar Heap) h = (word_by (codes "calendar") refl refl, (word_by (codes "heap") refl refl, tt))
words_command (Calendar Buckets) h = (word_by (codes "calendar") refl refl, (word_by (codes "buckets") refl refl, tt))
words_command (Model m) h = (word_by (codes "model") refl refl, words_model m h)
words_command (Start s) h = (word_by (codes "start") refl refl, (word_decimal s.time h.0, (word8 s.receiver h.1, (word8 s.kind h.2, (word_decimal s.«data» h.3, tt)))))
words_command (Load n) h = (word_by (codes "load") refl refl, (word_decimal n h, tt))
words_command (Step n) h = (word_by (codes "step") refl refl, (word_decimal n h, tt))
words_command (Branch v) h = (word_by (codes "branch") refl refl, (word8 v h, tt))
words_command (Decide v p n) h = (word_by (codes "decide") refl refl, (word8 v h.0, (word8 p h.1, (word_decimal n h.2, tt))))
words_command (Waive v) h = (word_by (codes "waive") refl refl, (word8 v h, tt))
words_command (Retire v) h = (word_by (codes "retire") refl refl, (word8 v h, tt))
words_command (Events v) h = (word_by (codes "events") refl refl, (word8 v h, tt))
words_command (Entry v i) h = (word_by (codes "entry") refl refl, (word8 v h.0, (word_decimal i h.1, tt)))
words_command (Journal v) h = (word_by (codes "journal") refl refl, (word8 v h, tt))
words_command (Place v p) h = (word_by (codes "place") refl refl, (word8 v h.0, (word8 p h.1, tt)))
words_command (Next v) h = (word_by (codes "next") refl refl, (word8 v h, tt))
words_command (Shares v w p) h = (word_by (codes "shares") refl refl, (word8 v h.0, (word8 w h.1, (word8 p h.2, tt))))
words_command (Group v p) h = (word_by (codes "group") refl refl, (word8 v h.0, (word8 p h.1, tt)))
words_command Totals h = (word_by (codes "totals") refl refl, tt)

-- the words of a command are read as the command
command_back : (c : Command) → Fits c → command_of (command_words c) ≡ Ok (Some c)
command_back (Calendar Heap) h = refl
command_back (Calendar Buckets) h = refl
command_back (Model (Collection f t)) h = let a = read8 f h.0 in let b = read8 t h.1 in simp (a, b)
command_back (Model (Phold p s r)) h = let a = read8 p h.0 in let b = read32 s h.1 in let c = read8 r h.2 in simp (a, b, c)
command_back (Start s) h =
    let time = read32 s.time h.0 in
    let place = read8 s.receiver h.1 in
    let kind = read8 s.kind h.2 in
    let datum = read32 s.«data» h.3 in
    simp (time, place, kind, datum)
command_back (Load n) h = let a = read32 n h in simp a
command_back (Step n) h = let a = read32 n h in simp a
command_back (Branch v) h = let a = read8 v h in simp a
command_back (Decide v p n) h = let a = read8 v h.0 in let b = read8 p h.1 in let c = read32 n h.2 in simp (a, b, c)
command_back (Waive v) h = let a = read8 v h in simp a
command_back (Retire v) h = let a = read8 v h in simp a
command_back (Events v) h = let a = read8 v h in simp a
command_back (Entry v i) h = let a = read8 v h.0 in let b = read32 i h.1 in simp (a, b)
command_back (Journal v) h = let a = read8 v h in simp a
command_back (Place v p) h = let a = read8 v h.0 in let b = read8 p h.1 in simp (a, b)
command_back (Next v) h = let a = read8 v h in simp a
command_back (Shares v w p) h = let a = read8 v h.0 in let b = read8 w h.1 in let c = read8 p h.2 in simp (a, b, c)
command_back (Group v p) h = let a = read8 v h.0 in let b = read8 p h.1 in simp (a, b)
command_back Totals h = refl

-- whatever answer a line that is so written gets
pub answered : (line : List ℕ) (r : Result (Option Command) Flaw) → r ≡ command_in line → (c : Command) → Fits c → line ≡ written c → r ≡ Ok (Some c)
unfolding written
answered line r e c h w = e ∙ ap command_in w ∙ ap command_of (words_said (command_words c) (words_command c h)) ∙ command_back c h
