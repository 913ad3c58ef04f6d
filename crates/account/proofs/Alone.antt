-- Each live variant's day is the day run alone under its orders.
use Rattle.std.proofs.Common.{◌≡◌, ℕ, true, false, not, eqb, ◌⊎◌, List, [], ◌∷◌, ◌++◌, map, length, Some, None, Option, sym, refl, subst, inl, inr}
use Rattle.std.proofs.lemmas.List.{map-append}
use Rattle.std.proofs.lemmas.Bool.{cases_Bool, both_ways, cond_both, and_parts}
use Rattle.event.specs.declared.Key.{Key}
use Rattle.event.specs.declared.Start.{Start}
use Rattle.model.specs.Meaning.{Meaning}
use Rattle.day.specs.Alone.{Order, Alone}
use Rattle.day.specs.Day.{event, ordered}
use Rattle.day.proofs.Alone.{alone_starts, alone_event, alone_order}
use Rattle.account.specs.Account.{Account, empty, origin, least, runs, fed_load, fed_branch, fed_decide, fed_waive, fed_retire, fed_step_at, fed_step}
use Rattle.account.specs.Orders.{plain}
use Rattle.account.specs.Sound.{Faithful}
use Rattle.account.proofs.Calls.{live_origin}

pub empty_faithful : (M : Meaning) → Faithful M (empty M)
empty_faithful M v h = absurd (both_ways false refl h)

pub load_faithful : (M : Meaning) (A : Account) (starts : List Start) (end : ℕ) → Faithful M (fed_load M A starts end)
load_faithful M A starts end v h = alone_starts M end starts

pub branch_faithful : (M : Meaning) (A : Account) (v : ℕ) → Faithful M A → A.live v ≡ true → Faithful M (fed_branch A v)
branch_faithful M A v f l x h = f (origin v A.made x) (live_origin A v l x h)

pub waive_faithful : (M : Meaning) (A : Account) (v : ℕ) → Faithful M A → Faithful M (fed_waive A v)
waive_faithful M A v f = f

pub retire_faithful : (M : Meaning) (A : Account) (v : ℕ) → Faithful M A → Faithful M (fed_retire A v)
retire_faithful M A v f x h = f x (and_parts (A.live x) (not (eqb x v)) h).0

pub decide_faithful : (M : Meaning) (A : Account) (v place value : ℕ) → Faithful M A → A.live v ≡ true → Faithful M (fed_decide A v place value)
decide_faithful M A v place value f l x h = go (cases_Bool (eqb x v))
  where
    new : Alone M A.end A.load (map plain (A.orders v ++ record { by = v; position = length (A.day v).journal; place = place; value = value } ∷ [])) (ordered (A.day v) place value)
    new =
        subst (λ (os : List Order). Alone M A.end A.load os (ordered (A.day v) place value)) (sym (map-append plain (A.orders v) (record { by = v; position = length (A.day v).journal; place = place; value = value } ∷ [])))
        (alone_order M A.end A.load (map plain (A.orders v)) (A.day v) place value (f v l))

    go : (eqb x v ≡ true) ⊎ (eqb x v ≡ false) → Alone M A.end A.load (map plain ((fed_decide A v place value).orders x)) ((fed_decide A v place value).day x)
    go (inl e) = simp e new
    go (inr e) = simp e (f x h)

pub step_faithful : (M : Meaning) (A : Account) → Faithful M A → Faithful M (fed_step M A)
step_faithful M A f = go (least A 16)
  where
    go : (o : Option Key) → Faithful M (fed_step_at M A o)
    go None = f
    go (Some k) = λ x h.
        cond_both (runs A k x) (event M A.end (A.day x)) (A.day x) (Alone M A.end A.load (map plain (A.orders x)))
        (λ _. alone_event M A.end A.load (map plain (A.orders x)) (A.day x) (f x h)) (λ _. f x h)
