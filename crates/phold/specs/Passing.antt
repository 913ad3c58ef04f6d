-- Whatever is passed on goes to a place, within a day.
use Rattle.std.specs.Prelude.{ℕ, ◌+◌, ◌*◌, ◌%◌, ◌<◌, ◌≤◌, List, nat_lt}
use Rattle.std.proofs.Common.{mod-lt, arith, rules}
use Rattle.std.proofs.lemmas.Bool.{cond_both}
use Rattle.model.specs.declared.Arrival.{Arrival}
use Rattle.model.specs.Meaning.{Law, Reaction, Within, Lawful}
use Rattle.phold.specs.Rules.{first_draw, second_draw, passed_on, react_of, meaning_of}

passed_within : (p order : ℕ) (ws : List ℕ) (load : ℕ) → 1 ≤ p → Within p (passed_on p order ws load)
passed_within p order ws load h =
    let wide : 0 < 100 * (1 + order % 256) = omega arith in
    let drawn = mod-lt (second_draw ws) wide in
    record { receiver = mod-lt (first_draw ws) h; least = omega arith; most = omega arith }

pub react_lawful : (p place order : ℕ) (ws : List ℕ) (a : Arrival) → 1 ≤ p → Lawful p (react_of p place order ws a).sends
react_lawful p place order ws a h =
    cond_both (nat_lt place p) _ _ (λ (r : Reaction). Lawful p r.sends) (λ _. (passed_within p order ws a.«data» h, tt)) (λ _. tt)

-- the law of a model, with 1 to 32 places
pub law_kept : (p seed r : ℕ) → 1 ≤ p → p ≤ 32 → Law (meaning_of p seed r)
law_kept p seed r low high = record { least = low; most = high; begun = search rules; lawful = λ place order ws a. react_lawful p place order ws a low }
