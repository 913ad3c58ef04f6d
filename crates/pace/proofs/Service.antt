-- A call that keeps every account that is followed keeps one that is.
use Rattle.calendar.specs.Contents.{Contents}
use Rattle.model.specs.Meaning.{Meaning}
use Rattle.account.specs.Account.{Call}
use Rattle.account.specs.Answers.{after}
use Rattle.pace.specs.Paces.{InService}
use Rattle.study.specs.Promises.{Keeps}
use Rattle.study.specs.declared.Study.{Study}

pub goes_on : {C M : Type 0} (contents : C → Contents) (meaning : M → Meaning) (s t : Study C M) (call : Call) → Keeps contents meaning s call t → InService contents meaning s → InService contents meaning t
goes_on contents meaning s t call keeps i = record { account = after (meaning s.model) (contents s.calendar).room i.account call; serves = keeps i.account i.serves }
