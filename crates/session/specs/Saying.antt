-- What is said of an answer.
use Rattle.history.specs.declared.answer.Answer.{Answer}
use Rattle.history.specs.declared.answer.Answer.TheVariants.{Loaded, Ran, Branched, Decided, Waived, Retired, Events, Entry, Place, Next, Shares, Group, Totals, NoPermit, Refused}
use Rattle.script.specs.declared.answer.Answer as script
use Rattle.script.specs.declared.answer.Answer.TheVariants as line

abbrev pub line_for : Answer → script.Answer
line_for (Loaded v) = line.Loaded v
line_for (Ran n) = line.Ran n
line_for (Branched c) = line.Branched c
line_for (Decided v) = line.Decided v
line_for (Waived v) = line.Waived v
line_for (Retired v) = line.Retired v
line_for (Events n) = line.Events n
line_for (Entry m) = line.Entry m
line_for (Place p) = line.Place p
line_for (Next o) = line.Next o
line_for (Shares b) = line.Shares b
line_for (Group n) = line.Group n
line_for (Totals x n e) = line.Totals x n e
line_for (NoPermit v) = line.NoPermit v
line_for (Refused r) = line.Refused r
