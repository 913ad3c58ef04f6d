-- Whatever is asked, receivers are places and delays lie between a second and a day.
use Rattle.std.specs.Prelude.{◌≡◌, ℕ, zero, suc, ◌+◌, ◌-◌, ◌<◌, ◌≤◌, true, ◌&&◌, List, IfSome, Some, None, Option, ◌==◌, nat_le, nat_lt, slice_set}
use Rattle.std.proofs.Common.{arith, rules}
use Rattle.std.proofs.ByRecursion.{All-get_or}
use Rattle.std.proofs.lemmas.Bool.{cond_both, and_parts, leb-true}
use Rattle.model.specs.declared.Arrival.{Arrival}
use Rattle.model.specs.Meaning.{Law, Reaction, Within, Lawful}
use Rattle.collection.specs.Bits.{with}
use Rattle.collection.specs.Choice.{chosen_farm_of, free_tanker_of}
use Rattle.collection.specs.Dairy.{matched, dispatched, dairy_reaction}
use Rattle.collection.specs.Farm.{announced, load_of, left_of, loaded_with, pumped, farm_reaction}
use Rattle.collection.specs.Kinds.{milked, ready, free, go, pump, loaded, unload, emptied}
use Rattle.collection.specs.Places.{dairy, is_farm_place, is_tanker_place}
use Rattle.collection.specs.Replies.{word, message}
use Rattle.collection.specs.Roads.{drives, drive_of}
use Rattle.collection.specs.Rules.{react_of, meaning_of}
use Rattle.collection.specs.Tanker.{meets, tanker_reaction}
use Rattle.collection.specs.Picking.{foremost, by_number, within}

-- a drive to a farm is at least a second and at most a day
drive_within : (i : ℕ) → 1 ≤ i → i ≤ 10 → (1 ≤ drive_of i) × (drive_of i ≤ 86400)
drive_within zero low high = absurd (omega arith)
drive_within (suc i) low high =
    All-get_or (λ d. (1 ≤ d) × (d ≤ 86400)) drives i 0 (omega arith) (search rules)

module _ (f t : ℕ) where
  -- a reaction sends only what a model may
  abbrev pub Kept : Reaction → Type 0
  Kept r = Lawful (1 + f + t) r.sends

  tanker_within : (place : ℕ) → is_tanker_place f t place ≡ true → place < 1 + f + t
  tanker_within place e = omega (arith, leb-true place (f + t) (and_parts (nat_lt f place) (nat_le place (f + t)) e).1)

  -- a message to a farm, or to the dairy from there, after the drive
  driven : (i receiver : ℕ) → f ≤ 10 → is_farm_place f i ≡ true → receiver ≤ i → (kind litres : ℕ) → Within (1 + f + t) (message receiver (drive_of i) kind litres)
  driven i receiver h e l kind litres =
      let low : 1 ≤ i = leb-true 1 i (and_parts (nat_le 1 i) (nat_le i f) e).0 in
      let high : i ≤ f = leb-true i f (and_parts (nat_le 1 i) (nat_le i f) e).1 in
      let d = drive_within i low (omega arith) in
      record { receiver = omega arith; least = d.0; most = d.1 }

  matched_kept : (ws : List ℕ) (farm tanker : Option ℕ) → IfSome tanker (λ j. j ≤ t) → Kept (matched f ws farm tanker)
  matched_kept ws None tanker h = tt
  matched_kept ws (Some i) None h = tt
  matched_kept ws (Some i) (Some j) h = (record { receiver = omega arith; least = omega arith; most = omega arith }, tt)

  dispatched_kept : (order : ℕ) (ws : List ℕ) → Kept (dispatched f t order ws)
  dispatched_kept order ws =
      matched_kept ws (chosen_farm_of order (word ws 0) f) (free_tanker_of (word ws 1) t)
      (within nat_lt (word ws 1) t t (omega arith) (free_tanker_of (word ws 1) t) (foremost nat_lt by_number (word ws 1) t))

  dairy_kept : (order : ℕ) (ws : List ℕ) (a : Arrival) → Kept (dairy_reaction f t order ws a)
  dairy_kept order ws a =
      cond_both (a.kind == ready && is_farm_place f a.sender) _ _ Kept
      (λ _. dispatched_kept order (slice_set ws 0 (with (word ws 0) a.sender)))
      (λ _. cond_both (a.kind == free && is_tanker_place f t a.sender) _ _ Kept
      (λ _. dispatched_kept order (slice_set ws 1 (with (word ws 1) (a.sender - f))))
      (λ _. cond_both (a.kind == unload && is_tanker_place f t a.sender) _ _ Kept
      (λ e. (record { receiver = tanker_within a.sender (and_parts _ _ e).1; least = omega arith; most = omega arith }, tt))
      (λ _. tt)))

  announced_within : Within (1 + f + t) announced
  announced_within = record { receiver = omega arith; least = omega arith; most = omega arith }

  pumped_kept : (ws : List ℕ) (tanker : ℕ) → tanker < 1 + f + t → Kept (pumped ws tanker)
  pumped_kept ws tanker h =
      let gone : Within (1 + f + t) (loaded_with tanker (load_of (word ws 0))) = record { receiver = h; least = omega arith; most = omega arith } in
      cond_both (left_of (word ws 0) == 0) _ _ (Lawful (1 + f + t)) (λ _. (gone, tt)) (λ _. (gone, (announced_within, tt)))

  farm_kept : (ws : List ℕ) (a : Arrival) → Kept (farm_reaction f t ws a)
  farm_kept ws a =
      cond_both (a.kind == milked) _ _ Kept (λ _. cond_both (word ws 1 == 0) _ _ Kept (λ _. (announced_within, tt)) (λ _. tt))
      (λ _. cond_both (a.kind == pump && is_tanker_place f t a.sender) _ _ Kept
      (λ e. pumped_kept ws a.sender (tanker_within a.sender (and_parts _ _ e).1)) (λ _. tt))

  tanker_kept : f ≤ 10 → (ws : List ℕ) (a : Arrival) → Kept (tanker_reaction f ws a)
  tanker_kept h ws a =
      cond_both (meets ws a 0 go dairy && is_farm_place f a.«data») _ _ Kept (λ e. (driven a.«data» a.«data» h (and_parts _ _ e).1 (omega arith) _ _, tt))
      (λ _. cond_both (meets ws a 1 loaded (word ws 1) && is_farm_place f (word ws 1)) _ _ Kept
      (λ e. (driven (word ws 1) dairy h (and_parts _ _ e).1 (omega arith) _ _, tt))
      (λ _. cond_both (meets ws a 2 emptied dairy) _ _ Kept
      (λ _. (record { receiver = omega arith; least = omega arith; most = omega arith }, tt)) (λ _. tt)))

  pub react_kept : f ≤ 10 → (place order : ℕ) (ws : List ℕ) (a : Arrival) → Kept (react_of f t place order ws a)
  react_kept h place order ws a =
      cond_both (place == dairy) _ _ Kept (λ _. dairy_kept order ws a)
      (λ _. cond_both (is_farm_place f place) _ _ Kept (λ _. farm_kept ws a)
      (λ _. cond_both (is_tanker_place f t place) _ _ Kept (λ _. tanker_kept h ws a) (λ _. tt)))

-- the law of a model, within the limits
pub law_kept : (f t : ℕ) → (1 ≤ f) × (f ≤ 10) × (1 ≤ t) × (t ≤ 6) → Law (meaning_of f t)
law_kept f t h = record { least = omega arith; most = omega arith; begun = search rules; lawful = react_kept f t h.1 }
