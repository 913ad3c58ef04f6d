-- What each call answers, by what the study holds, and what any list of calls leaves.
use Rattle.std.specs.Prelude.{ℕ, if◌then◌else◌, is_some, List, [], ◌∷◌, length, slice_index_or}
use Rattle.event.specs.Keys.{blank}
use Rattle.event.specs.Lists.{first}
use Rattle.group.specs.Groups.{has, count}
use Rattle.calendar.specs.Calls.{waiting}
use Rattle.calendar.specs.Laws.{messages_of}
use Rattle.model.specs.Meaning.{Meaning}
use Rattle.account.specs.Account.{Call, load, branch, decide, waive, step, retire, reading, Reading, events_of, entry_of, place_of, next_of, sharing, group_of, totals}
use Rattle.account.specs.Answers.{Answer, variant, done, ran, number, message, waits, stands, shared, counted, unless_refused}
use Rattle.copies.specs.Sharing.{groups, shares, sharers}
use Rattle.follows.specs.View.{View, loaded_view, branched, decided, waived, retired}
use Rattle.follows.specs.Steps.{head_key, leaders_at, stepped}
use Rattle.follows.specs.Refusing.{refusal_of}

abbrev pub reads_of : Meaning → View → Reading → Answer
reads_of M V (events_of v) = number (length (waiting v V.entries))
reads_of M V (entry_of v i) = message (slice_index_or (messages_of v V.entries) i blank)
reads_of M V (place_of v p) = stands (V.content (V.cell v p))
reads_of M V (next_of v) = waits (first (messages_of v V.held))
reads_of M V (sharing v w p) = shared (shares V.cell p v w)
reads_of M V (group_of v p) = number (count (has (sharers V.cell V.live p v)) 16)
reads_of M V totals = counted V.executions (groups M.places V.live (shares V.cell)) (length V.entries)

-- what a call tells that is not denied
abbrev pub tells_of : Meaning → View → Call → Answer
tells_of M V (load l end) = variant 0
tells_of M V (branch v) = variant V.made
tells_of M V (decide v place value) = done
tells_of M V (waive v) = done
tells_of M V step = ran (leaders_at V (head_key V.held))
tells_of M V (retire v) = done
tells_of M V (reading r) = reads_of M V r

-- what a call answers, over a calendar of this capacity
abbrev pub answer_of : Meaning → ℕ → View → Call → Answer
answer_of M capacity V c = unless_refused (refusal_of M capacity V c) (tells_of M V c)

-- what an accepted call leaves
abbrev pub fed_view : Meaning → View → Call → View
fed_view M V (load l end) = loaded_view M l end
fed_view M V (branch v) = branched V v
fed_view M V (decide v place value) = decided M.places V v place value
fed_view M V (waive v) = waived V v
fed_view M V step = stepped M V
fed_view M V (retire v) = retired V v
fed_view M V (reading r) = V

-- and what any call leaves: a denied one changes nothing
abbrev pub after_of : Meaning → ℕ → View → Call → View
after_of M capacity V c = if is_some (refusal_of M capacity V c) then V else fed_view M V c

-- what these calls leave, the newest first
unfoldable pub views : Meaning → ℕ → View → List Call → View
views M capacity V [] = V
views M capacity V (c ∷ cs) = after_of M capacity (views M capacity V cs) c
