-- A heap of slots under a put and a take.
use Rattle.std.proofs.Common.{◌≡◌, ℕ, ◌+◌, ◌<◌, Bool, true, false, if◌then◌else◌, List, [], ◌∷◌, length, Some, None, Option, sym, refl, ap, ◌∙◌, subst, arith}
use Rattle.std.specs.List.{slice_get}
use Rattle.std.specs.List.Sorted.{IsPermutation}
use Rattle.std.specs.BinaryHeap.{IsHeap, KeepsHeap}
use Rattle.std.specs.Option.{option_map}
use Rattle.std.specs.Prelude.{is_some}
use Rattle.std.proofs.ByRecursion.{all_shuffled, All-weaker, every_from_all, all_from_every}
use Rattle.slot.specs.Rank.{ranked}
use Rattle.slot.proofs.Ranks.{ranked_shuffled}
use Rattle.slot.specs.declared.Slot.{Slot}
use Rattle.slot.specs.Slots.{earlier, turned, steady, bare, bares, in_order}
use Rattle.event.specs.Lists.{rest, first as head}
use Rattle.calendar.specs.declared.Held.{Held}
use Rattle.slot.specs.Laws.{strictly}
use Rattle.slot.proofs.Holds.{steady_push, steady_tail, length_in_order}
use Rattle.slot.proofs.Picks.{first_rest, at_zero}
use Rattle.std.proofs.lemmas.Option.{none-some}
use Rattle.calendar.specs.Calls.{leading, waiting}
use Rattle.group.specs.Groups.{has}
use Rattle.heap_calendar.specs.Totals.{Sound, standing}
use Rattle.heap_calendar.proofs.Roots.{root_first}

pub sound_put : (taken : Bool) (xs : List Slot) (x : Slot) (ys : List Slot) → IsPermutation (x ∷ standing taken xs) ys → KeepsHeap turned xs ys → Sound x.age taken xs → Sound (x.age + 1) false ys
sound_put taken xs x ys p h s =
    let l = standing taken xs in
    record {
      young = every_from_all (λ y. y.age < x.age + 1) ys (all_shuffled (λ y. y.age < x.age + 1) (x ∷ l) ys p
          ((let b : x.age < x.age + 1 = omega arith in b), All-weaker (λ y. y.age < x.age) (λ y. y.age < x.age + 1) (λ y k. omega arith) l (all_from_every (λ y. y.age < x.age) l s.young)));
      built = h s.built;
      apart = steady_push l x ys p s.young s.apart;
    }

pub sound_settled : (n : ℕ) (taken : Bool) (xs ys : List Slot) → IsPermutation (standing taken xs) ys → KeepsHeap turned xs ys → Sound n taken xs → Sound n false ys
sound_settled n taken xs ys p h s =
    let l = standing taken xs in
    record {
      young = every_from_all (λ y. y.age < n) ys (all_shuffled (λ y. y.age < n) l ys p (all_from_every (λ y. y.age < n) l s.young));
      built = h s.built;
      apart = ap steady (ranked_shuffled earlier strictly l ys p) ∙ s.apart;
    }

pub settled_order : (taken : Bool) (xs ys : List Slot) → IsPermutation (standing taken xs) ys → in_order ys ≡ in_order (standing taken xs)
settled_order taken xs ys p = ap bares (ranked_shuffled earlier strictly (standing taken xs) ys p)

pub sound_taken : (n : ℕ) (b : Bool) (ys : List Slot) → Sound n false ys → Sound n b ys
sound_taken n false ys s = s
sound_taken n true [] s = record { young = s.young; built = s.built; apart = s.apart }
sound_taken n true (y ∷ t) s = record {
  young = every_from_all (λ y. y.age < n) t (all_from_every (λ y. y.age < n) (y ∷ t) s.young).1;
  built = s.built;
  apart = steady_tail y (ranked earlier t) (ap steady (sym (root_first y t s.built)) ∙ s.apart);
}

pub sound_none : (n : ℕ) (xs : List Slot) → xs ≡ [] → Sound n false xs
unfolding steady IsHeap
sound_none n xs e = subst (Sound n false) (sym e) (record {
  young = λ k d a b. absurd (let z : ⊥ = omega arith in z);
  built = λ p k d low a b c. absurd (let z : ⊥ = omega arith in z);
  apart = refl;
})

-- a take tells the root, and leaves what stands below it
pub take_says : (ys : List Slot) (o : Option Held) (b : Bool) → IsHeap turned ys → o ≡ option_map bare (slice_get ys 0) → b ≡ is_some o → (o ≡ head (in_order ys)) × (in_order (standing b ys) ≡ rest (in_order ys))
take_says [] o b h e f = (e, ap (λ c. in_order (standing c [])) (f ∙ ap is_some e))
take_says (y ∷ t) o b h e f =
    (e ∙ sym (ap (λ l. head (bares l)) (root_first y t h)), ap (λ c. in_order (standing c (y ∷ t))) (f ∙ ap is_some e) ∙ sym (ap (λ l. rest (bares l)) (root_first y t h)))

pub rooted : (ys : List Slot) (o : Option Held) (b : Bool) → o ≡ option_map bare (slice_get ys 0) → b ≡ is_some o → b ≡ true → 0 < length ys
rooted [] o b e f t = let z : false ≡ true = sym (f ∙ ap is_some e) ∙ t in absurd (let y : ⊥ = cc in y)
rooted (y ∷ l) o b e f t = omega arith

pub room_for : (b : Bool) (xs : List Slot) (n : ℕ) → length (in_order (standing b xs)) < n → b ≡ false → length xs < n
room_for true xs n h e = absurd (let y : ⊥ = cc in y)
room_for false xs n h e = omega (arith, length_in_order xs)

-- the first of a list in order, and the rest
pub first_is : (l : List Slot) (x : Slot) → Some x ≡ slice_get l 0 → l ≡ x ∷ rest l
first_is l x e = first_rest l x (e ∙ at_zero l)

pub none_is : (l : List Slot) → None ≡ slice_get l 0 → l ≡ []
none_is [] e = refl
none_is (x ∷ l) e = absurd (none-some x e)

pub none_looked : (xs : List Slot) (i : ℕ) → None ≡ slice_get (ranked earlier xs) 0 → None ≡ slice_get (leading (in_order xs)) i
none_looked xs i e = sym (ap (λ l. slice_get (leading (bares l)) i) (none_is (ranked earlier xs) e))

-- the first of all is the first that v waits for, if v waits for it
pub head_waits : (xs : List Slot) (x : Slot) (t : List Slot) (v : ℕ) → ranked earlier xs ≡ x ∷ t → has x.held.group v ≡ true → slice_get (waiting v (in_order xs)) 0 ≡ Some (bare x)
head_waits xs x t v e h =
    ap (λ l. slice_get (waiting v (bares l)) 0) e ∙ ap (λ b. slice_get (if b then bare x ∷ waiting v (bares t) else waiting v (bares t)) 0) h
