-- The first slots of the buckets, and the first of all.
use Rattle.std.proofs.Common.{◌≡◌, ℕ, zero, suc, ◌<◌, Bool, true, false, cond, List, [], ◌∷◌, length, map, get_or, Some, None, Option, filter, sym, refl, ap, ◌∙◌, arith}
use Rattle.std.specs.List.{AllByRecursion, filter_map, cons_option, slice_get}
use Rattle.std.proofs.ByRecursion.{all_kept_by}
use Rattle.std.proofs.lemmas.List.{get_or-replicate, length-replicate}
use Rattle.std.proofs.Math.ListN.{replicate}
use Rattle.std.proofs.lemmas.Option.{none-some, same_Some}
use Rattle.event.specs.Lists.{first as head}
use Rattle.slot.specs.Rank.{ranked, Rising}
use Rattle.slot.specs.declared.Slot.{Slot}
use Rattle.slot.specs.Slots.{earlier}
use Rattle.slot.specs.Laws.{strictly}
use Rattle.slot.proofs.Picks.{sooner, head_ins, never_self, all_at, at_zero}
use Rattle.slot.proofs.Puts.{first_least}
use Rattle.slot.proofs.Ranks.{ranked_rising}
use Rattle.bucket_calendar.specs.Buckets.{bucket_of, of_bucket, row_of}
use Rattle.bucket_calendar.specs.Chains.{Runs, at, slot_at, Linked}
use Rattle.bucket_calendar.proofs.Links.{own_bucket}

-- each of the 64 buckets has its first
pub record Led (heads : List (Option Slot)) (xs : List Slot) : Type 0 where
  pub wide : length heads ≡ 64
  pub led : (b : ℕ) → b < 64 → get_or heads b None ≡ head (row_of b xs)

-- whether s comes before what was first
abbrev pub leads : Option Slot → Slot → Bool
leads None s = true
leads (Some f) s = earlier s f

leads_yes : (o : Option Slot) (s : Slot) → leads o s ≡ true → sooner earlier o s ≡ Some s
leads_yes None s e = refl
leads_yes (Some f) s e = ap (λ b. cond b (Some s) (Some f)) e

leads_no : (o : Option Slot) (s : Slot) → leads o s ≡ false → sooner earlier o s ≡ o
leads_no None s e = let z : ◌≡◌ {A = ℕ} 0 1 = cc in absurd (let y : ⊥ = omega arith in y)
leads_no (Some f) s e = ap (λ b. cond b (Some s) (Some f)) e

-- the first of one more
module _ (o : Option Slot) (xs : List Slot) (s : Slot) (e : o ≡ head (ranked earlier xs)) where
  first_push : head (ranked earlier (s ∷ xs)) ≡ sooner earlier o s
  first_push = head_ins earlier strictly s (ranked earlier xs) ∙ ap (λ t. sooner earlier t s) (sym e)

  pub first_new : leads o s ≡ true → Some s ≡ head (ranked earlier (s ∷ xs))
  first_new h = sym (first_push ∙ leads_yes o s h)

  pub first_old : leads o s ≡ false → o ≡ head (ranked earlier (s ∷ xs))
  first_old h = sym (first_push ∙ leads_no o s h)

-- the slots that lead
abbrev pub leaders : List (Option Slot) → List Slot
leaders hs = filter_map (λ h. h) hs

place_of : (hs : List (Option Slot)) (k : ℕ) (m : Slot) → k < length hs → get_or hs k None ≡ Some m → (j : ℕ) × (j < length (leaders hs)) × (get_or (leaders hs) j m ≡ m)
place_of [] k m h e = absurd (let z : ⊥ = omega arith in z)
place_of (None ∷ t) zero m h e = absurd (none-some m e)
place_of (None ∷ t) (suc k) m h e = place_of t k m (let z : k < length t = omega arith in z) e
place_of (Some s ∷ t) zero m h e = (0, (let z : 0 < suc (length (leaders t)) = omega arith in z), same_Some s m e)
place_of (Some s ∷ t) (suc k) m h e =
    let r = place_of t k m (let z : k < length t = omega arith in z) e in
    (suc r.0, (let w = r.1 in let z : suc r.0 < suc (length (leaders t)) = omega arith in z), r.2)

all_leaders : (P : Slot → Type 0) (hs : List (Option Slot)) → ((k : ℕ) (s : Slot) → k < length hs → get_or hs k None ≡ Some s → P s) → AllByRecursion P (leaders hs)
all_leaders P [] h = tt
all_leaders P (None ∷ t) h = all_leaders P t (λ k s l e. h (suc k) s (let z : suc k < suc (length t) = omega arith in z) e)
all_leaders P (Some x ∷ t) h = (h 0 x (let z : 0 < suc (length t) = omega arith in z) refl, all_leaders P t (λ k s l e. h (suc k) s (let z : suc k < suc (length t) = omega arith in z) e))

no_one : (l : List Slot) → AllByRecursion (λ _. ⊥) l → l ≡ []
no_one [] h = refl
no_one (x ∷ l) h = absurd h.0

-- the earliest of the leaders is the first of all
first_leader : (hs : List (Option Slot)) (xs : List Slot) → Led hs xs → head (ranked earlier (leaders hs)) ≡ head (ranked earlier xs)
first_leader hs xs d = go (ranked earlier xs) refl (ranked_rising earlier strictly xs)
  where
    at_bucket : (r : List Slot) (k : ℕ) → ranked earlier xs ≡ r → k < length hs → get_or hs k None ≡ head (filter (of_bucket k) r)
    at_bucket r k e l = d.led k (omega (arith, d.wide, l)) ∙ ap (λ t. head (filter (of_bucket k) t)) e

    go : (r : List Slot) → ranked earlier xs ≡ r → Rising earlier r → head (ranked earlier (leaders hs)) ≡ head r
    go [] e w = ap (λ l. head (ranked earlier l)) (no_one (leaders hs) (all_leaders (λ _. ⊥) hs (λ k s l f. none-some s (sym (at_bucket [] k e l) ∙ f))))
    go (m ∷ r) e w =
        let k = bucket_of m in
        let l : k < length hs = omega (arith, d.wide) in
        let p = place_of hs k m l (at_bucket (m ∷ r) k e l ∙ ap (λ b. head (cond b (m ∷ filter (of_bucket k) r) (filter (of_bucket k) r))) (own_bucket m)) in
        first_least earlier strictly (leaders hs) m p.0 m p.1 p.2
        (all_leaders (λ y. earlier y m ≡ false) hs (λ j s n f.
        all_at (λ y. earlier y m ≡ false) (filter (of_bucket j) (m ∷ r)) 0 s (all_kept_by (of_bucket j) (λ y. earlier y m ≡ false) (m ∷ r) (never_self earlier strictly m, w.0))
        (at_zero (filter (of_bucket j) (m ∷ r)) ∙ sym (at_bucket (m ∷ r) j e n) ∙ f)))

-- the slots at places
pub get_at : (xs : List Slot) (p : ℕ) → p < length xs → slice_get xs p ≡ Some (at xs p)
get_at [] p h = absurd (let z : ⊥ = omega arith in z)
get_at (x ∷ xs) zero h = refl
get_at (x ∷ xs) (suc p) h = get_at xs p (let z : p < length xs = omega arith in z)

abbrev pub tops : List Slot → List (Option ℕ) → List (Option Slot)
tops xs hs = map (slot_at xs) hs

tops_get : (xs : List Slot) (hs : List (Option ℕ)) (b : ℕ) → get_or (tops xs hs) b None ≡ slot_at xs (get_or hs b None)
tops_get xs [] b = refl
tops_get xs (o ∷ hs) zero = refl
tops_get xs (o ∷ hs) (suc b) = tops_get xs hs b

tops_length : (xs : List Slot) (hs : List (Option ℕ)) → length (tops xs hs) ≡ length hs
tops_length xs [] = refl
tops_length xs (o ∷ hs) = ap suc (tops_length xs hs)

pub slots_get : (xs : List Slot) (ps : List ℕ) (i : ℕ) → AllByRecursion (λ p. p < length xs) ps → slot_at xs (slice_get ps i) ≡ slice_get (map (at xs) ps) i
slots_get xs [] i a = refl
slots_get xs (p ∷ ps) zero a = get_at xs p a.0
slots_get xs (p ∷ ps) (suc i) a = slots_get xs ps i a.1

-- a chain's first place has the first slot
pub top_of : (xs : List Slot) (nx : List (Option ℕ)) (o : Option ℕ) (ps : List ℕ) → Runs nx o ps → AllByRecursion (λ p. p < length xs) ps → slot_at xs o ≡ head (map (at xs) ps)
top_of xs nx o [] h a = ap (slot_at xs) h
top_of xs nx o (p ∷ ps) h a = ap (slot_at xs) h.0 ∙ get_at xs p a.0

-- so a bucket's head has the first of its row
pub head_slot : (hs nx : List (Option ℕ)) (xs : List Slot) (b : ℕ) → b < 64 → Linked hs nx xs → slot_at xs (get_or hs b None) ≡ head (row_of b xs)
head_slot hs nx xs b h d = top_of xs nx (get_or hs b None) (d.row b) (d.runs b h) (d.within b h) ∙ ap head (d.listed b h)

tops_led : (hs nx : List (Option ℕ)) (xs : List Slot) → Linked hs nx xs → Led (tops xs hs) xs
tops_led hs nx xs d = record {
  wide = tops_length xs hs ∙ d.wide;
  led = λ b h. tops_get xs hs b ∙ head_slot hs nx xs b h d;
}

leaders_tops : (xs : List Slot) (hs : List (Option ℕ)) → filter_map (slot_at xs) hs ≡ leaders (tops xs hs)
leaders_tops xs [] = refl
leaders_tops xs (o ∷ hs) = ap (cons_option (slot_at xs o)) (leaders_tops xs hs)

pub earliest_top : (hs nx : List (Option ℕ)) (xs : List Slot) → Linked hs nx xs → head (ranked earlier (filter_map (slot_at xs) hs)) ≡ head (ranked earlier xs)
earliest_top hs nx xs d = ap (λ l. head (ranked earlier l)) (leaders_tops xs hs) ∙ first_leader (tops xs hs) xs (tops_led hs nx xs d)

-- no bucket of nothing has a slot
pub none_linked : Linked (replicate 64 None) (replicate 512 None) []
none_linked = record {
  wide = length-replicate {A = Option ℕ} 64 None;
  long = length-replicate {A = Option ℕ} 512 None;
  row = λ _. [];
  runs = λ b h. get_or-replicate 64 b None None h;
  within = λ b h. tt;
  listed = λ b h. refl;
  placed = λ p h. let z : ⊥ = omega (arith, h) in z;
}
