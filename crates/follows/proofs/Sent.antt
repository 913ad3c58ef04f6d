-- What one reaction sends: two messages at most, no two with one key. So a place of a day run alone has sent few.
use Rattle.std.proofs.Common.{◌≡◌, ℕ, zero, suc, ◌+◌, ◌*◌, ◌≤◌, cond, eqb, leb, not, List, [], ◌∷◌, map, length, Some, None, Option, refl, sym, ap, ◌∙◌, subst, arith}
use Rattle.std.proofs.lemmas.Bool.{cond_both, eqb-true}
use Rattle.std.proofs.lemmas.List.{length-map}
use Rattle.std.proofs.lemmas.List.Filters.{length-filter_both}
use Rattle.event.specs.declared.Message.{Message}
use Rattle.event.specs.declared.Start.{Start}
use Rattle.event.specs.Keys.{key_of}
use Rattle.event.specs.Lists.{first, Distinct}
use Rattle.event.proofs.Insertion.{distinct_kept_by, length_insert_all}
use Rattle.group.specs.declared.Group.{Group}
use Rattle.calendar.specs.declared.Held.{Held}
use Rattle.calendar.specs.Calls.{key_of_held}
use Rattle.model.specs.declared.Sends.{Sends}
use Rattle.model.specs.declared.Sends.TheVariants.{Nothing, One, Two}
use Rattle.model.specs.Meaning.{Meaning, listed}
use Rattle.day.specs.declared.place.Place.{Place}
use Rattle.day.specs.Alone.{Order, Alone, alone, ordered_at}
use Rattle.day.specs.Day.{Day, event, event_at, ordered, ordered_place, place_after, posted_by, reaction, sent_by, starting}
use Rattle.day.proofs.Numbers.{length_stamped, sequence_distinct, stamped_sequence}
use Rattle.follows.specs.View.{held_for, put_all}

two_at_most : (sends : Sends) → length (listed sends) ≤ 2
two_at_most Nothing = omega arith
two_at_most (One a) = omega arith
two_at_most (Two a b) = omega arith

pub few_posted : (M : Meaning) (end : ℕ) (p : Place) (m : Message) → length (posted_by M end p m) ≤ 2
few_posted M end p m =
    let a = length-filter_both (λ (x : Message). leb x.time end) (λ (x : Message). not (leb x.time end)) (λ x. refl) (sent_by M p m) in
    let b = length_stamped m.time m.receiver p.sent (listed (reaction M p m).sends) in
    let c = two_at_most (reaction M p m).sends in
    omega (arith, a, b, c)

pub distinct_posted : (M : Meaning) (end : ℕ) (p : Place) (m : Message) → Distinct key_of (posted_by M end p m)
distinct_posted M end p m =
    distinct_kept_by key_of (λ x. leb x.time end) (sent_by M p m) (sequence_distinct m.receiver p.sent (sent_by M p m) (stamped_sequence m.time m.receiver p.sent (listed (reaction M p m).sends)))

pub length_put_all : (group : Group) (ms : List Message) (xs : List Held) → length (put_all group ms xs) ≡ length ms + length xs
length_put_all group ms xs = let a = length_insert_all key_of_held (map (held_for group) ms) xs in let b = length-map ms (held_for group) in omega (arith, a, b)

sent_ordered : (d : Day) (at value p : ℕ) → ((ordered d at value).place p).sent ≡ (d.place p).sent
sent_ordered d at value p = cond_both (eqb p at) (ordered_place (d.place at) value) (d.place p) (λ x. x.sent ≡ (d.place p).sent) (λ e. ap (λ q. (d.place q).sent) (sym (eqb-true p at e))) (λ _. refl)

-- orders send nothing
sent_ordered_at : (n : ℕ) (os : List Order) (d : Day) (p : ℕ) → ((ordered_at n os d).place p).sent ≡ (d.place p).sent
sent_ordered_at n [] d p = refl
sent_ordered_at n (o ∷ os) d p =
    sent_ordered_at n os (cond (eqb o.position n) (ordered d o.place o.value) d) p
    ∙ cond_both (eqb o.position n) (ordered d o.place o.value) d (λ x. (x.place p).sent ≡ (d.place p).sent) (λ _. sent_ordered d o.place o.value p) (λ _. refl)

-- an event sends two at most
sent_event : (M : Meaning) (end : ℕ) (d : Day) (p : ℕ) → ((event M end d).place p).sent ≤ (d.place p).sent + 2
sent_event M end d p = go (first d.waiting)
  where
    go : (o : Option Message) → ((event_at M end d o).place p).sent ≤ (d.place p).sent + 2
    go None = omega arith
    go (Some m) =
        let c = two_at_most (reaction M (d.place m.receiver) m).sends in
        cond_both (eqb p m.receiver) (place_after M (d.place m.receiver) m) (d.place p) (λ x. x.sent ≤ (d.place p).sent + 2) (λ e. let q = ap (λ q. (d.place q).sent) (eqb-true p m.receiver e) in omega (arith, c, q)) (λ _. omega arith)

sent_alone : (M : Meaning) (end : ℕ) (starts : List Start) (os : List Order) (n p : ℕ) → ((alone M end starts os n).place p).sent ≤ 2 * n
unfolding alone
sent_alone M end starts os zero p = let a = sent_ordered_at 0 os (starting M starts) p in omega (arith, a)
sent_alone M end starts os (suc n) p =
    let a = sent_ordered_at (suc n) os (event M end (alone M end starts os n)) p in
    let b = sent_event M end (alone M end starts os n) p in
    let c = sent_alone M end starts os n p in
    omega (arith, a, b, c)

-- a place of a day run alone has sent two at most for each event that was run
pub few_sent : (M : Meaning) (end : ℕ) (starts : List Start) (os : List Order) (d : Day) → Alone M end starts os d → (p : ℕ) → (d.place p).sent ≤ 2 * length d.journal
few_sent M end starts os d a p = subst (λ (x : Day). (x.place p).sent ≤ 2 * length d.journal) (sym a.day) (sent_alone M end starts os (length d.journal) p)
