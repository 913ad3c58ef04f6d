-- When each call is denied, by what the study holds and counts.
use Rattle.std.specs.Prelude.{ℕ, ◌+◌, ◌*◌, false, not, ◌||◌, List, [], ◌∷◌, length, Some, None, Option, nat_le, nat_lt}
use Rattle.event.specs.declared.Key.{Key}
use Rattle.refusal.specs.declared.Refusal.{Refusal}
use Rattle.group.specs.Groups.{has, count}
use Rattle.calendar.specs.Calls.{waiting}
use Rattle.model.specs.Meaning.{Meaning}
use Rattle.account.specs.Account.{Call, load, branch, decide, waive, step, retire, reading, Reading, events_of, entry_of, place_of, next_of, sharing, group_of, totals}
use Rattle.account.specs.Refusals.{Case, by_study, late_end, no_place, many_entries, many_groups, start_cases, first_met}
use Rattle.copies.specs.Sharing.{groups, shares, shares_decided}
use Rattle.follows.specs.View.{View}
use Rattle.follows.specs.Steps.{with_key, head_key, leaders, shares_after}

abbrev pub unloaded : View → Case
unloaded V = by_study 2 (not V.loaded)

abbrev pub unknown : View → ℕ → Case
unknown V v = by_study 8 (not (has V.live v))

abbrev pub unpermitted : View → ℕ → Case
unpermitted V v = by_study 10 (not (has V.undecided v))

abbrev pub step_cases : Meaning → ℕ → View → Option Key → List Case
step_cases M capacity V None = by_study 7 false ∷ many_entries (length V.entries) ∷ many_groups (groups M.places V.live (shares V.cell)) ∷ []
step_cases M capacity V (Some k) =
    by_study 7 (nat_lt (capacity + length (with_key k V.held)) (length V.held + 2 * leaders V k)) ∷ many_entries (length V.entries + length (with_key k V.held)) ∷ many_groups (groups M.places V.live (shares_after V k)) ∷ []

abbrev pub reading_cases_of : Meaning → View → Reading → List Case
reading_cases_of M V (events_of v) = unknown V v ∷ []
reading_cases_of M V (entry_of v i) = unknown V v ∷ by_study 16 (nat_le (length (waiting v V.entries)) i) ∷ []
reading_cases_of M V (place_of v p) = unknown V v ∷ no_place M p ∷ []
reading_cases_of M V (next_of v) = unknown V v ∷ []
reading_cases_of M V (sharing v w p) = by_study 8 (not (has V.live v) || not (has V.live w)) ∷ no_place M p ∷ []
reading_cases_of M V (group_of v p) = unknown V v ∷ no_place M p ∷ []
reading_cases_of M V totals = []

-- in the sequence in which the account looks at them
abbrev pub cases_of : Meaning → ℕ → View → Call → List Case
cases_of M capacity V (load l end) = by_study 3 V.loaded ∷ late_end end ∷ start_cases M capacity end 0 l
cases_of M capacity V (branch v) = unloaded V ∷ unknown V v ∷ by_study 9 (has V.undecided v) ∷ by_study 12 (nat_le 16 V.made) ∷ []
cases_of M capacity V (decide v place value) = unloaded V ∷ unpermitted V v ∷ no_place M place ∷ many_groups (groups M.places V.live (shares_decided V.cell v place)) ∷ []
cases_of M capacity V (waive v) = unloaded V ∷ unpermitted V v ∷ []
cases_of M capacity V step = unloaded V ∷ step_cases M capacity V (head_key V.held)
cases_of M capacity V (retire v) = unloaded V ∷ unknown V v ∷ by_study 9 (has V.undecided v) ∷ by_study 13 (nat_le (count (has V.live) 16) 1) ∷ []
cases_of M capacity V (reading r) = unloaded V ∷ reading_cases_of M V r

abbrev pub refusal_of : Meaning → ℕ → View → Call → Option Refusal
refusal_of M capacity V c = first_met (cases_of M capacity V c)
