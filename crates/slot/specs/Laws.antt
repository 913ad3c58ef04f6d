-- The order of slots is strict and total, and how it goes with the order of keys.
use Rattle.std.proofs.Common.{◌≡◌, ℕ, ◌<◌, Bool, true, false, if◌then◌else◌, ◌&&◌, ◌||◌, ◌==◌, nat_lt, sym, refl, ap, ◌∙◌, subst, ⊎_elim, arith, Ordering, Less, Equal, Greater}
use Rattle.std.specs.Prelude.{◌==◌}
use Rattle.std.specs.Cmp.{IsTotalOrder, both_ways as one_test, tied_itself, tied_then, unsigned_tied, on_total, then_total, nat_cmp_total, back_total}
use Rattle.std.specs.Ordering.{is_lt, is_eq, eq_by_cmp, nat_cmp, max_by_ordering}
use Rattle.std.proofs.lemmas.Bool.{cases_Bool, both_ways, and_parts, eqb-true, lt-ltb}
use Rattle.std.proofs.lemmas.Bool.Decides.{nat_tests}
use Rattle.std.proofs.lemmas.List.MinMax.{ranks_by}
use Rattle.event.specs.declared.Key.{Key}
use Rattle.event.specs.Keys.{key_cmp, before, same, then}
use Rattle.event.proofs.Orders.{never, apart, same_true, same_from, key_total, is_before, is_same, lt_nat, lt_nat_then, lt_then, neither_way}
use Rattle.slot.specs.declared.Slot.{Slot}
use Rattle.slot.specs.Rank.{Strict}
use Rattle.slot.specs.Slots.{key_of_slot, by_key, last, earlier, ahead, slot_cmp, turned}

pub slot_total : IsTotalOrder slot_cmp
slot_total =
    then_total (on_total key_of_slot key_total)
    (then_total (on_total (λ x. x.age) nat_cmp_total)
    (then_total (on_total (λ x. x.held.message.kind) nat_cmp_total)
    (then_total (on_total (λ x. x.held.message.«data») nat_cmp_total) (on_total (λ x. x.held.group.mask) nat_cmp_total))))

-- the order in which the earlier is the greater is total
pub turned_total : IsTotalOrder turned
turned_total = back_total slot_total

-- what `<` answers of ranks
pub is_earlier : (x y : Slot) → is_lt (slot_cmp x y) ≡ earlier x y
unfolding earlier
is_earlier x y =
    let k = key_of_slot x in
    let l = key_of_slot y in
    let m = x.held.message in
    let n = y.held.message in
    lt_then (key_cmp k l) _ ∙ (λ i. is_before k l i
    || (is_same k l i
    && (lt_nat_then x.age y.age _ ∙ ap ((then) x.age y.age) (lt_nat_then m.kind n.kind _ ∙ ap ((then) m.kind n.kind) (lt_nat_then m.«data» n.«data» _ ∙ ap ((then) m.«data» n.«data») (lt_nat x.held.group.mask y.held.group.mask)))) i))

-- slots that agree in key, kind, data, group and age are one
one_slot : (x y : Slot) → key_of_slot x ≡ key_of_slot y → x.held.message.kind ≡ y.held.message.kind → x.held.message.«data» ≡ y.held.message.«data» → x.held.group.mask ≡ y.held.group.mask → x.age ≡ y.age → x ≡ y
one_slot x y k n d w a = λ i. record {
  held = record {
    message = record { time = (k i).time; receiver = (k i).receiver; sender = (k i).sender; number = (k i).number; kind = n i; «data» = d i };
    group = record { mask = w i };
  };
  age = a i;
}

tied : (a b : ℕ) → is_eq (nat_cmp a b) ≡ true → a ≡ b
tied a b e = eqb-true a b (sym (unsigned_tied a b) ∙ e)

from_tied : (x y : Slot) → is_eq (slot_cmp x y) ≡ true → x ≡ y
from_tied x y e =
    let k = and_parts _ _ (tied_then (key_cmp (key_of_slot x) (key_of_slot y)) _ ∙ e) in
    let a = and_parts _ _ (tied_then (nat_cmp x.age y.age) _ ∙ k.1) in
    let n = and_parts _ _ (tied_then (nat_cmp x.held.message.kind y.held.message.kind) _ ∙ a.1) in
    let d = and_parts _ _ (tied_then (nat_cmp x.held.message.«data» y.held.message.«data») _ ∙ n.1) in
    one_slot x y (same_true _ _ (sym (is_same (key_of_slot x) (key_of_slot y)) ∙ k.0)) (tied _ _ n.0) (tied _ _ d.0) (tied _ _ d.1) (tied _ _ a.0)

-- the test of a total order that tells any two apart
strict_from : {X : Type 0} {R : X → X → Ordering} → IsTotalOrder R → ((x y : X) → is_eq (R x y) ≡ true → x ≡ y) → Strict (λ x y. is_lt (R x y))
strict_from {X} {R} o one =
    let ranks = ranks_by o (λ x. x) in
    record {
      one_way = ranks.one_way;
      chain = λ x y z h k. ⊎_elim (λ e. e) (λ (e : is_lt (R x z) ≡ false). absurd (both_ways _ (ranks.chain x z y e (ranks.one_way y z k)) h)) (cases_Bool (is_lt (R x z)));
      apart = λ x y h k. one x y (neither_way o x y h k);
    }

pub strictly : Strict earlier
strictly = subst Strict (λ i x y. is_earlier x y i) (strict_from slot_total from_tied)

-- all fields are equal, as `==` tests them
abbrev pub equal_fields : Slot → Slot → Bool
equal_fields x y =
    let m = x.held.message in let n = y.held.message in
    ((m.time == n.time && (m.receiver == n.receiver && (m.sender == n.sender && (m.number == n.number && (m.kind == n.kind && m.«data» == n.«data»)))))
    && x.held.group.mask == y.held.group.mask) && x.age == y.age

from_equal : (x y : Slot) → equal_fields x y ≡ true → x ≡ y
from_equal x y e =
    let a = and_parts _ _ e in
    let g = and_parts _ _ a.0 in
    let t = and_parts _ _ g.0 in
    let r = and_parts _ _ t.1 in
    let s = and_parts _ _ r.1 in
    let n = and_parts _ _ s.1 in
    let k = and_parts _ _ n.1 in
    let t' = eqb-true _ _ t.0 in
    let r' = eqb-true _ _ r.0 in
    let s' = eqb-true _ _ s.0 in
    let n' = eqb-true _ _ n.0 in
    one_slot x y (λ i. record { time = t' i; receiver = r' i; sender = s' i; number = n' i }) (eqb-true _ _ k.0) (eqb-true _ _ k.1) (eqb-true _ _ g.1) (eqb-true _ _ a.1)

-- `==` holds exactly of what the order does not tell apart
pub turned_ties : (x y : Slot) → equal_fields x y ≡ eq_by_cmp turned x y
turned_ties x y =
    one_test (equal_fields x y) (eq_by_cmp turned x y) (λ e. subst (λ z. eq_by_cmp turned x z ≡ true) (from_equal x y e) (ap is_eq (tied_itself slot_total x)))
    (λ e. subst (λ z. equal_fields z y ≡ true) (from_tied y x e) (grind (arith, nat_tests)))

-- the greater of two, as `max` takes it, is the earlier
pub greater_is : (x y : Slot) → max_by_ordering (turned x y) x y ≡ (if earlier y x then y else x)
greater_is x y = by_answer (slot_cmp y x) (from_tied y x) ∙ ap (λ t. if t then y else x) (is_earlier y x)
  where
    by_answer : (o : Ordering) → (is_eq o ≡ true → y ≡ x) → max_by_ordering o x y ≡ (if is_lt o then y else x)
    by_answer Less h = refl
    by_answer Equal h = h refl
    by_answer Greater h = refl

-- keys in order decide, equal keys leave it to what follows
pub by_first : (k l : Key) (r : Bool) → before k l ≡ true → by_key k l r ≡ true
by_first k l r h = ap (λ b. b || (same k l && r)) h

pub by_same : (k l : Key) (r : Bool) → k ≡ l → by_key k l r ≡ r
by_same k l r e =
    ap (λ b. b || (same k l && r)) (subst (λ m. before k m ≡ false) e (never k)) ∙ ap (λ b. b && r) (same_from k l e)

-- a younger one comes before by its key alone
pub younger : (x y : Slot) → y.age < x.age → earlier x y ≡ before (key_of_slot x) (key_of_slot y)
unfolding earlier
younger x y h =
    let none : (then) x.age y.age (last x y) ≡ false = none_by x.age y.age (last x y) h in
    ap (λ r. by_key (key_of_slot x) (key_of_slot y) r) none ∙ only (before (key_of_slot x) (key_of_slot y)) (same (key_of_slot x) (key_of_slot y))
  where
    none_by : (a b : ℕ) (r : Bool) → b < a → (then) a b r ≡ false
    none_by a b r h = grind (arith, nat_tests)

    only : (p q : Bool) → (p || (q && false)) ≡ p
    only true q = refl
    only false true = refl
    only false false = refl

-- a younger one that is not earlier stands behind
pub behind : (x y : Slot) → y.age < x.age → earlier x y ≡ false → ahead y x ≡ true
unfolding ahead
behind x y h e =
    let k = key_of_slot x in
    let l = key_of_slot y in
    ⊎_elim (λ (a : before l k ≡ true). by_first l k _ a) (λ (a : before l k ≡ false). by_same l k _ (apart l k a (sym (younger x y h) ∙ e)) ∙ lt-ltb y.age x.age h) (cases_Bool (before l k))

pub before_ahead : (x y : Slot) → before (key_of_slot x) (key_of_slot y) ≡ true → ahead x y ≡ true
unfolding ahead
before_ahead x y h = by_first (key_of_slot x) (key_of_slot y) _ h

pub not_before : (x y : Slot) → earlier x y ≡ false → before (key_of_slot x) (key_of_slot y) ≡ false
unfolding earlier
not_before x y e = ⊎_elim (λ (h : before (key_of_slot x) (key_of_slot y) ≡ true). absurd (both_ways _ e (by_first (key_of_slot x) (key_of_slot y) _ h))) (λ h. h) (cases_Bool (before (key_of_slot x) (key_of_slot y)))

pub ahead_earlier : (x y : Slot) → ahead x y ≡ true → earlier x y ≡ true
unfolding earlier ahead
ahead_earlier x y = more (before (key_of_slot x) (key_of_slot y)) (same (key_of_slot x) (key_of_slot y)) (nat_lt x.age y.age) (x.age == y.age && last x y)
  where
    more : (b s p q : Bool) → (b || (s && p)) ≡ true → (b || (s && (p || q))) ≡ true
    more true s p q h = refl
    more false true true q h = refl
    more false true false q h = absurd (both_ways false refl h)
    more false false p q h = absurd (both_ways false refl h)
