-- A loop that changes each held message in place.
use Rattle.std.proofs.Common.{◌≡◌, ℕ, ◌+◌, ◌<◌, ◌≤◌, List, ◌++◌, map, length, get_or, set, take, drop, append-nil, refl, ap, ◌∙◌}
use Rattle.std.proofs.lemmas.List.{get_or_default, take_all, drop_all}
use Rattle.std.proofs.lemmas.List.Edits.{map_over_more}
use Rattle.std.proofs.lemmas.Bool.{cond_both}
use Rattle.event.specs.Keys.{blank}
use Rattle.group.specs.Groups.{has, none, with}
use Rattle.calendar.specs.declared.Held.{Held}
use Rattle.calendar.specs.Calls.{joins}

-- what stands past the end
abbrev pub blank_held : Held
blank_held = record { message = blank; group = none }

-- the front of xs is changed, and the rest is as it was
abbrev pub Changed : (Held → Held) → List Held → List Held → ℕ → Type 0
Changed f xs ys i = ys ≡ map f (take i xs) ++ drop i xs

pub changed_more : (f : Held → Held) (xs ys : List Held) (i : ℕ) → i < length xs → i < length ys → Changed f xs ys i → Changed f xs (set ys i (f (get_or ys i blank_held))) (i + 1)
changed_more f xs ys i h k e = map_over_more f xs ys i (get_or ys i blank_held) h e (get_or_default ys i blank_held (get_or ys i blank_held) k)

pub changed_all : (f : Held → Held) (xs ys : List Held) (i : ℕ) → length xs ≤ i → Changed f xs ys i → ys ≡ map f xs
changed_all f xs ys i h e = e ∙ ap (λ l. map f l ++ drop i xs) (take_all i xs h) ∙ ap (λ l. map f xs ++ l) (drop_all i xs h) ∙ append-nil (map f xs)

-- who joins changes the group alone
pub regrouped : (v c : ℕ) (h k : Held) → k ≡ joins v c h → record h { group = k.group } ≡ joins v c h
regrouped v c h k e =
    ap (λ (x : Held). record h { group = x.group }) e
    ∙ cond_both (has h.group v) (record { message = h.message; group = with h.group c }) h (λ (x : Held). record h { group = x.group } ≡ x) (λ _. refl) (λ _. refl)
