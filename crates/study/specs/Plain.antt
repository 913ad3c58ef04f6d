-- A study that was loaded and never branched runs as the day run alone.
use Rattle.std.specs.Prelude.{◌≡◌, ℕ, ◌<◌, true, List, [], length}
use Rattle.event.specs.declared.Start.{Start}
use Rattle.calendar.specs.Contents.{Contents}
use Rattle.calendar.specs.Laws.{messages_of}
use Rattle.model.specs.Meaning.{Meaning}
use Rattle.day.specs.Alone.{alone}
use Rattle.account.specs.Account.{Account}
use Rattle.follows.specs.View.{View}
use Rattle.study.specs.declared.Study.{Study}
use Rattle.study.specs.Promises.{Serves, view_of}

-- what variant 0 has is the day run alone from this list to this end under no order, after as many events as its journal has
pub record RunsAlone (M : Meaning) (starts : List Start) (end : ℕ) (V : View) : Type 0 where
  pub journal : messages_of 0 V.entries ≡ (alone M end starts [] (length (messages_of 0 V.entries))).journal
  pub waiting : messages_of 0 V.held ≡ (alone M end starts [] (length (messages_of 0 V.entries))).waiting
  pub places : (p : ℕ) → p < M.places → V.content (V.cell 0 p) ≡ (alone M end starts [] (length (messages_of 0 V.entries))).place p

-- the account that the study follows has this load, and no order for variant 0
pub record NeverBranched {C M : Type 0} (contents : C → Contents) (meaning : M → Meaning) (starts : List Start) (end : ℕ) (s : Study C M) : Type 0 where
  pub account : Account
  pub served : Serves contents meaning s account
  pub load : account.load ≡ starts
  pub ended : account.end ≡ end
  pub live : account.live 0 ≡ true
  pub orders : account.orders 0 ≡ []
  -- and so
  pub alone : RunsAlone (meaning s.model) starts end (view_of contents s)
