-- What passes between a caller and a study.
use Rattle.std.specs.Prelude.{List, [], ◌∷◌, Some, Option}
use Rattle.history.specs.declared.answer.Answer.{Answer}
use Rattle.history.specs.declared.call.Call.{Call}

-- a caller in this state has given these calls, and was told these answers, the newest first, one after the other; then it is in that state
pub data Exchanged {K : Type 0} (gives : K → Option Call → K → Type 0) (hears : K → Call → Answer → K → Type 0) (start : K) : List Call → List Answer → K → Type 0 where
  begun : Exchanged gives hears start [] [] start
  one_more : {cs : List Call} {ds : List Answer} {k l m : K} (c : Call) (a : Answer) → Exchanged gives hears start cs ds k → gives k (Some c) l → hears l c a m → Exchanged gives hears start (c ∷ cs) (a ∷ ds) m
