-- A place that leaves its chain, and the last slot of the pool that moves there.
use Rattle.std.proofs.Common.{◌≡◌, ◌≢◌, inl, inr, ℕ, suc, ◌-◌, ◌<◌, ◌≤◌, true, cond, List, [], ◌∷◌, ◌++◌, length, map, filter, get_or, set, Some, None, Option, sym, refl, ap, ◌∙◌, subst, arith, get_or-set_other, get_or-set_same, eqb, ⊎_elim}
use Rattle.std.proofs.lemmas.Bool.{cases_eq, eq-eqb, both_ways}
use Rattle.std.specs.List.{AllByRecursion, swap_remove}
use Rattle.std.proofs.ByRecursion.{All-weaker}
use Rattle.std.proofs.lemmas.List.{get_or-take, get_or_default, length-set, length-take-le}
use Rattle.event.specs.Lists.{rest}
use Rattle.std.proofs.lemmas.Option.{same_Some}
use Rattle.slot.specs.Rank.{ranked, Rising}
use Rattle.slot.specs.Laws.{strictly}
use Rattle.slot.proofs.Picks.{never_self}
use Rattle.slot.specs.declared.Slot.{Slot}
use Rattle.slot.specs.Slots.{earlier}
use Rattle.bucket_calendar.specs.Buckets.{bucket_of, of_bucket, row_of}
use Rattle.bucket_calendar.specs.Chains.{Runs, at, Among, blank, Linked}
use Rattle.bucket_calendar.specs.Cuts.{end_of, LeadsTo}
use Rattle.bucket_calendar.proofs.Cuts.{among_split, among_there, among_rest, among_other, among_all, front_all, back_all, both_all, next_place}
use Rattle.bucket_calendar.specs.Hints.{Begins}
use Rattle.bucket_calendar.proofs.Walks.{runs_from, leads_behind, not_in_front}
use Rattle.bucket_calendar.proofs.Starts.{behind_short}
use Rattle.bucket_calendar.proofs.Links.{row_rising, runs_set, end_in, runs_apart, runs_after, runs_splice, map_agree, own_bucket, other_bucket, pick, row_short, row_bucket, rows_apart}

-- chains through the places of a pool, none of them at the place that is left
pub record Loose (hs nx : List (Option ℕ)) (xs : List Slot) (place : ℕ) : Type 0 where
  pub wide : length hs ≡ 64
  pub long : length nx ≡ 512
  pub row : ℕ → List ℕ
  pub runs : (b : ℕ) → b < 64 → Runs nx (get_or hs b None) (row b)
  pub within : (b : ℕ) → b < 64 → AllByRecursion (λ p. p < length xs) (row b)
  pub gone : (b : ℕ) → b < 64 → AllByRecursion (λ p. p ≢ place) (row b)
  pub own : (b : ℕ) → b < 64 → AllByRecursion (λ p. bucket_of (at xs p) ≡ b) (row b)
  pub short : (b : ℕ) → b < 64 → length (row b) ≤ length xs
  pub placed : (p : ℕ) → p < length xs → p ≢ place → Among p (row (bucket_of (at xs p)))
  pub listed : (ys : List Slot) → ranked earlier xs ≡ at xs place ∷ ranked earlier ys → (b : ℕ) → b < 64 → map (at xs) (row b) ≡ row_of b ys

module _ (hs nx : List (Option ℕ)) (xs : List Slot) (b place : ℕ) (h : b < 64) (e : get_or hs b None ≡ Some place) (d : Linked hs nx xs) where
  after : (qs : List ℕ) × (d.row b ≡ place ∷ qs) × Runs nx (get_or nx place None) qs
  after = next_place nx (get_or hs b None) place (d.row b) (d.runs b h) e

  abbrev others : List ℕ
  others = after.0

  split : (P : ℕ → Type 0) → AllByRecursion P (d.row b) → P place × AllByRecursion P others
  split P a = subst (AllByRecursion P) after.1 a

  pub place_in : place < length xs
  place_in = (split (λ p. p < length xs) (d.within b h)).0

  place_bucket : bucket_of (at xs place) ≡ b
  place_bucket = (split (λ p. bucket_of (at xs p) ≡ b) (row_bucket hs nx xs d b h)).0

  abbrev rows : ℕ → List ℕ
  rows k = cond (eqb k b) others (d.row k)

  abbrev heads : List (Option ℕ)
  heads = set hs b (get_or nx place None)

  without_first : (ys : List Slot) → ranked earlier xs ≡ at xs place ∷ ranked earlier ys → (k : ℕ) → k < 64 → map (at xs) (rows k) ≡ row_of k ys
  without_first ys r = pick (λ k t. map (at xs) t ≡ row_of k ys) b others d.row
      (ap rest (ap (map (at xs)) (sym after.1) ∙ d.listed b h ∙ ap (filter (of_bucket b)) r ∙ ap (λ t. cond t (at xs place ∷ row_of b ys) (row_of b ys)) (subst (λ k. of_bucket k (at xs place) ≡ true) place_bucket (own_bucket (at xs place)))))
      (λ k l n. d.listed k l ∙ ap (filter (of_bucket k)) r ∙ ap (λ t. cond t (at xs place ∷ row_of k ys) (row_of k ys)) (other_bucket (at xs place) k (λ z. n (z ∙ place_bucket))))

  pub loosened : Loose heads nx xs place
  loosened = record {
    wide = length-set hs b (get_or nx place None) ∙ d.wide;
    long = d.long;
    row = rows;
    runs = pick (λ k. Runs nx (get_or heads k None)) b others d.row
        (subst (λ o. Runs nx o others) (sym (get_or-set_same hs b (get_or nx place None) None (omega (arith, h, d.wide)))) after.2)
        (λ k l n. subst (λ o. Runs nx o (d.row k)) (sym (get_or-set_other hs b k (get_or nx place None) None n)) (d.runs k l));
    within = pick (λ _. AllByRecursion (λ p. p < length xs)) b others d.row (split (λ p. p < length xs) (d.within b h)).1 (λ k l _. d.within k l);
    gone = pick (λ _. AllByRecursion (λ p. p ≢ place)) b others d.row (subst (Runs nx (get_or hs b None)) after.1 (d.runs b h)).1 (λ k l n. rows_apart hs nx xs d b k place l n place_bucket);
    own = pick (λ k. AllByRecursion (λ p. bucket_of (at xs p) ≡ k)) b others d.row (split (λ p. bucket_of (at xs p) ≡ b) (row_bucket hs nx xs d b h)).1 (λ k l _. row_bucket hs nx xs d k l);
    short = pick (λ _ r. length r ≤ length xs) b others d.row (let s = row_short hs nx xs d b h in let f : length (d.row b) ≡ suc (length others) = ap length after.1 in omega (arith, s, f)) (λ k l _. row_short hs nx xs d k l);
    listed = without_first;
    placed = λ p l n. pick (λ k r. k ≡ bucket_of (at xs p) → Among p r) b others d.row
        (λ g. among_rest p place others n (subst (Among p) after.1 (subst (λ k. Among p (d.row k)) (sym g) (d.placed p l))))
        (λ k _ _ g. subst (λ j. Among p (d.row j)) (sym g) (d.placed p l)) (bucket_of (at xs p)) (omega arith) refl;
  }

module _ (hs nx : List (Option ℕ)) (xs : List Slot) (place : ℕ) (z : place < length xs) (few : length xs ≤ 512) (o : Loose hs nx xs place) where
  abbrev m : ℕ
  m = length xs - 1

  abbrev c : ℕ
  c = bucket_of (at xs m)

  c_in : c < 64
  c_in = omega arith

  abbrev copied : List (Option ℕ)
  copied = set nx place (get_or nx m None)

  copied_long : length copied ≡ 512
  copied_long = length-set nx place (get_or nx m None) ∙ o.long

  copied_runs : (k : ℕ) → k < 64 → Runs copied (get_or hs k None) (o.row k)
  copied_runs k h = runs_set nx place (get_or nx m None) (get_or hs k None) (o.row k) (o.gone k h) (o.runs k h)

  -- a chain from o: what leads to the last slot in it does so in the chain of its bucket
  pub record Moving (q : Option ℕ) : Type 0 where
    pub places : List ℕ
    pub runs : Runs copied q places
    pub within : AllByRecursion (λ p. p < 512) places
    pub short : length places ≤ 512
    pub leads : (k : ℕ) → LeadsTo k m places → LeadsTo k m (o.row c)
    pub none : Rising earlier (map (at xs) (o.row c)) → AllByRecursion (λ p. p ≢ m) places → AllByRecursion (λ p. p ≢ m) (o.row c)
    pub head : q ≡ Some m → get_or hs c None ≡ Some m

  inside : AllByRecursion (λ p. p < 512) (o.row c)
  inside = All-weaker (λ p. p < length xs) (λ p. p < 512) (λ p e. omega (arith, e, few)) (o.row c) (o.within c c_in)

  short_row : length (o.row c) ≤ 512
  short_row = let s = o.short c c_in in omega (arith, s, few)

  moving_from : (q : Option ℕ) (p : ℕ) → q ≡ Some p → earlier (at xs p) (at xs m) ≡ true → (front back : List ℕ) → o.row c ≡ front ++ p ∷ back → Moving q
  moving_from q p e n front back w = record {
    places = p ∷ back;
    runs = subst (λ t. Runs copied t (p ∷ back)) (sym e) (runs_from copied (get_or hs c None) front back p (subst (Runs copied (get_or hs c None)) w (copied_runs c c_in)));
    within = back_all (λ k. k < 512) front (p ∷ back) (subst (AllByRecursion (λ k. k < 512)) w inside);
    short = behind_short front (p ∷ back) 512 (subst (λ ps. length ps ≤ 512) w short_row);
    leads = λ k t. subst (LeadsTo k m) (sym w) (leads_behind k m p front back t);
    none = λ r a. subst (AllByRecursion (λ k. k ≢ m)) (sym w) (not_in_front xs m p front back (subst (λ ps. Rising earlier (map (at xs) ps)) w r) n (never_self earlier strictly (at xs m)) a);
    head = λ f. absurd (both_ways (earlier (at xs m) (at xs m)) (never_self earlier strictly (at xs m)) (subst (λ k. earlier (at xs k) (at xs m) ≡ true) (same_Some p m (sym e ∙ f)) n));
  }

  pub moving : (q : Option ℕ) → Begins hs xs (at xs m) place q → Moving q
  moving q (inl e) = record { places = o.row c; runs = subst (λ t. Runs copied t (o.row c)) (sym e) (copied_runs c c_in); within = inside; short = short_row; leads = λ k t. t; none = λ r a. a; head = λ f. sym e ∙ f }
  moving q (inr (p, e, n, near)) =
      let t = among_split p (o.row c) (subst (λ k. Among p (o.row k)) near.alike (o.placed p near.within n)) in
      moving_from q p e near.sooner t.0 t.1 t.2

  pub leader_in : (k : ℕ) → LeadsTo k m (o.row c) → k < 512
  leader_in k t = let w = end_in (λ p. p < length xs) t.front k t.ends (front_all (λ p. p < length xs) t.front (m ∷ t.back) (subst (AllByRecursion (λ p. p < length xs)) t.parts (o.within c c_in))) in omega (arith, w, few)

  -- the last slot is in no other bucket's chain
  elsewhere : (k : ℕ) → k < 64 → k ≢ c → AllByRecursion (λ p. p ≢ m) (o.row k)
  elsewhere k h n = All-weaker (λ p. bucket_of (at xs p) ≡ k) (λ p. p ≢ m) (λ p f w. n (sym f ∙ ap (λ t. bucket_of (at xs t)) w)) (o.row k) (o.own k h)

  module _ (d : Slot) (ys : List Slot) (e : ys ≡ swap_remove xs place d) (r : ranked earlier xs ≡ at xs place ∷ ranked earlier ys) where
    abbrev moved : List Slot
    moved = set xs place (get_or xs m d)

    length_ys : length ys ≡ m
    length_ys = ap length e ∙ length-take-le m moved (let n = length-set xs place (get_or xs m d) in omega (arith, n))

    at_below : (p : ℕ) → p < m → at ys p ≡ at moved p
    at_below p l = ap (λ t. at t p) e ∙ get_or-take m moved p blank l

    at_stay : (p : ℕ) → p < m → p ≢ place → at ys p ≡ at xs p
    at_stay p l n = at_below p l ∙ get_or-set_other xs place p (get_or xs m d) blank n

    at_moved : place < m → at ys place ≡ at xs m
    at_moved l = at_below place l ∙ get_or-set_same xs place (get_or xs m d) blank z ∙ get_or_default xs m d blank (omega (arith, z))

    abbrev Stays : ℕ → Type 0
    Stays p = (p < m) × (at ys p ≡ at xs p)

    stay : (ps : List ℕ) → AllByRecursion (λ p. p < length xs) ps → AllByRecursion (λ p. p ≢ place) ps → AllByRecursion (λ p. p ≢ m) ps → AllByRecursion Stays ps
    stay [] a g n = tt
    stay (p ∷ ps) a g n = let l : p < m = omega (arith, a.0, n.0) in ((l, at_stay p l g.0), stay ps a.1 g.1 n.1)

    fit : (ps : List ℕ) → AllByRecursion (λ p. p < m) ps → AllByRecursion (λ p. p < length ys) ps
    fit ps a = All-weaker (λ p. p < m) (λ p. p < length ys) (λ p f. omega (arith, f, length_ys)) ps a

    fits : (ps : List ℕ) → AllByRecursion Stays ps → AllByRecursion (λ p. p < length ys) ps
    fits ps a = fit ps (All-weaker Stays (λ p. p < m) (λ p f. f.0) ps a)

    same_slots : (ps : List ℕ) → AllByRecursion Stays ps → map (at ys) ps ≡ map (at xs) ps
    same_slots ps a = map_agree (at ys) (at xs) ps (All-weaker Stays (λ p. at ys p ≡ at xs p) (λ p f. f.1) ps a)

    -- where no chain leads to the last slot
    pub row_rises : Rising earlier (map (at xs) (o.row c))
    row_rises = subst (Rising earlier) (sym (o.listed ys r c c_in)) (row_rising c ys)

    pub unmoved : AllByRecursion (λ p. p ≢ m) (o.row c) → Linked hs copied ys
    unmoved n = record {
      wide = o.wide;
      long = copied_long;
      row = o.row;
      runs = copied_runs;
      within = λ k h. fits (o.row k) (stays k h);
      listed = λ k h. same_slots (o.row k) (stays k h) ∙ o.listed ys r k h;
      placed = λ p l. subst (λ s. Among p (o.row (bucket_of s))) (sym (at_stay p (omega (arith, l, length_ys)) (last_left p (omega (arith, l, length_ys))))) (o.placed p (omega (arith, l, length_ys)) (last_left p (omega (arith, l, length_ys))));
    }
      where
        -- so the last slot is the one that leaves
        last_left : (p : ℕ) → p < m → p ≢ place
        last_left p l w = among_all (λ q. q ≢ m) m (o.row c) (o.placed m (omega (arith, z)) (λ v. let y : ⊥ = omega (arith, l, v, w) in y)) n refl

        stays : (k : ℕ) → k < 64 → AllByRecursion Stays (o.row k)
        stays k h = stay (o.row k) (o.within k h) (o.gone k h) (⊎_elim (λ (f : k ≡ c). subst (λ j. AllByRecursion (λ p. p ≢ m) (o.row j)) (sym f) n) (λ (f : k ≢ c). elsewhere k h f) (cases_eq k c))

    -- where the chain of its bucket does
    module _ (front back : List ℕ) (parts : o.row c ≡ front ++ m ∷ back) where
      through_m : (P : ℕ → Type 0) → AllByRecursion P (o.row c) → AllByRecursion P front × (P m × AllByRecursion P back)
      through_m P a = let t = subst (AllByRecursion P) parts a in (front_all P front (m ∷ back) t, back_all P front (m ∷ back) t)

      runs_m : Runs copied (get_or hs c None) (front ++ m ∷ back)
      runs_m = subst (Runs copied (get_or hs c None)) parts (copied_runs c c_in)

      m_not_left : m ≢ place
      m_not_left = (through_m (λ p. p ≢ place) (o.gone c c_in)).1.0

      back_gone : AllByRecursion (λ p. p ≢ place) back
      back_gone = (through_m (λ p. p ≢ place) (o.gone c c_in)).1.1

      front_gone : AllByRecursion (λ p. p ≢ place) front
      front_gone = (through_m (λ p. p ≢ place) (o.gone c c_in)).0

      not_m_front : AllByRecursion (λ p. p ≢ m) front
      not_m_front = All-weaker (λ p. AllByRecursion (λ r. r ≢ p) (m ∷ back)) (λ p. p ≢ m) (λ p a f. a.0 (sym f)) front (runs_apart copied (get_or hs c None) front (m ∷ back) runs_m)

      not_m_back : AllByRecursion (λ p. p ≢ m) back
      not_m_back = tail_apart front (get_or hs c None) runs_m
        where
          tail_apart : (f : List ℕ) (t : Option ℕ) → Runs copied t (f ++ m ∷ back) → AllByRecursion (λ p. p ≢ m) back
          tail_apart [] t h = h.1
          tail_apart (p ∷ f) t h = tail_apart f (get_or copied p None) h.2

      abbrev new_row : List ℕ
      new_row = front ++ place ∷ back

      front_stays : AllByRecursion Stays front
      front_stays = stay front (through_m (λ p. p < length xs) (o.within c c_in)).0 front_gone not_m_front

      back_stays : AllByRecursion Stays back
      back_stays = stay back (through_m (λ p. p < length xs) (o.within c c_in)).1.1 back_gone not_m_back

      left_in : place < m
      left_in = let n : m ≢ place = m_not_left in omega (arith, z, n)

      new_listed : (f : List ℕ) → AllByRecursion Stays f → map (at ys) (f ++ place ∷ back) ≡ map (at xs) (f ++ m ∷ back)
      new_listed [] a = ap (λ s. s ∷ map (at ys) back) (at_moved left_in) ∙ ap (λ t. at xs m ∷ t) (same_slots back back_stays)
      new_listed (p ∷ f) a = ap (λ s. s ∷ map (at ys) (f ++ place ∷ back)) a.0.1 ∙ ap (λ t. at xs p ∷ t) (new_listed f a.1)

      abbrev new_rows : ℕ → List ℕ
      new_rows k = cond (eqb k c) new_row (o.row k)

      relinked : (hs' nx' : List (Option ℕ)) → length hs' ≡ 64 → length nx' ≡ 512 → Runs nx' (get_or hs' c None) new_row → ((k : ℕ) → k < 64 → k ≢ c → Runs nx' (get_or hs' k None) (o.row k)) → Linked hs' nx' ys
      relinked hs' nx' w n own others = record {
        wide = w;
        long = n;
        row = λ k. cond (eqb k c) new_row (o.row k);
        runs = pick (λ k. Runs nx' (get_or hs' k None)) c new_row o.row own others;
        within = pick (λ _. AllByRecursion (λ p. p < length ys)) c new_row o.row (both_all (λ p. p < length ys) front (place ∷ back) (fits front front_stays) (omega (arith, left_in, length_ys), fits back back_stays)) (λ k h f. fits (o.row k) (rest_stays k h f));
        listed = pick (λ k r. map (at ys) r ≡ row_of k ys) c new_row o.row (new_listed front front_stays ∙ ap (map (at xs)) (sym parts) ∙ o.listed ys r c c_in) (λ k h f. same_slots (o.row k) (rest_stays k h f) ∙ o.listed ys r k h);
        placed = λ p l. ⊎_elim
            (λ (g : p ≡ place). subst (λ q. Among q (new_rows (bucket_of (at ys q)))) (sym g) (subst (λ s. Among place (new_rows (bucket_of s))) (sym (at_moved left_in)) (subst (λ t. Among place (cond t new_row (o.row c))) (sym (eq-eqb c c refl)) (among_there place front back))))
            (λ (g : p ≢ place). old_place p (omega (arith, l, length_ys)) g) (cases_eq p place);
      }
        where
          old_place : (p : ℕ) → p < m → p ≢ place → Among p (new_rows (bucket_of (at ys p)))
          old_place p l g =
              let w : Among p (o.row (bucket_of (at xs p))) = o.placed p (omega (arith, l)) g in
              let u : p ≢ m = λ v. let y : ⊥ = omega (arith, l, v) in y in
              subst (λ s. Among p (new_rows (bucket_of s))) (sym (at_stay p l g))
              (pick (λ k t. k ≡ bucket_of (at xs p) → Among p t) c new_row o.row
              (λ q. among_other p m place front back u (subst (Among p) parts (subst (λ k. Among p (o.row k)) (sym q) w)))
              (λ k _ _ q. subst (λ j. Among p (o.row j)) (sym q) w) (bucket_of (at xs p)) (omega arith) refl)

          rest_stays : (k : ℕ) → k < 64 → k ≢ c → AllByRecursion Stays (o.row k)
          rest_stays k h f = stay (o.row k) (o.within k h) (o.gone k h) (elsewhere k h f)

      at_left : get_or copied place None ≡ get_or nx m None
      at_left = get_or-set_same nx place (get_or nx m None) None (omega (arith, z, few, o.long))

      at_last : get_or copied m None ≡ get_or nx m None
      at_last = get_or-set_other nx place m (get_or nx m None) None m_not_left

      pub led_to : (k : ℕ) → end_of front ≡ Some k → Linked hs (set copied k (Some place)) ys
      led_to k f = relinked hs (set copied k (Some place)) o.wide (length-set copied k (Some place) ∙ copied_long)
          (runs_splice copied (set copied k (Some place)) (get_or hs c None) front (m ∷ back) (place ∷ back) k f runs_m apart
          (every (λ p. p ≢ k → get_or (set copied k (Some place)) p None ≡ get_or copied p None) (λ p n. get_or-set_other copied k p (Some place) None n) front)
          (subst (λ t. Runs (set copied k (Some place)) t (place ∷ back)) (sym (get_or-set_same copied k (Some place) None (omega (arith, k_in, few, copied_long)))) (
            refl,
            back_gone,
            subst (λ t. Runs (set copied k (Some place)) t back) (sym (get_or-set_other copied k place (Some place) None (λ g. k_gone (sym g)) ∙ at_left ∙ sym at_last))
                (runs_set copied k (Some place) (get_or copied m None) back behind (runs_after copied (get_or hs c None) front (m ∷ back) k f runs_m).2),
          )))
          (λ j h n. runs_set copied k (Some place) (get_or hs j None) (o.row j) (All-weaker (λ p. bucket_of (at xs p) ≡ j) (λ p. p ≢ k) (λ p g w. n (sym g ∙ ap (λ t. bucket_of (at xs t)) w ∙ k_own)) (o.row j) (o.own j h)) (copied_runs j h))
        where
          every : (P : ℕ → Type 0) → ((p : ℕ) → P p) → (ps : List ℕ) → AllByRecursion P ps
          every P g [] = tt
          every P g (p ∷ ps) = (g p, every P g ps)

          k_in : k < length xs
          k_in = end_in (λ p. p < length xs) front k f (through_m (λ p. p < length xs) (o.within c c_in)).0

          k_own : bucket_of (at xs k) ≡ c
          k_own = end_in (λ p. bucket_of (at xs p) ≡ c) front k f (through_m (λ p. bucket_of (at xs p) ≡ c) (o.own c c_in)).0

          k_gone : k ≢ place
          k_gone = end_in (λ p. p ≢ place) front k f front_gone

          behind : AllByRecursion (λ p. p ≢ k) back
          behind = (end_in (λ p. AllByRecursion (λ r. r ≢ p) (m ∷ back)) front k f (runs_apart copied (get_or hs c None) front (m ∷ back) runs_m)).1

          apart : AllByRecursion (λ p. AllByRecursion (λ r. r ≢ p) (place ∷ back)) front
          apart = both front front_gone (runs_apart copied (get_or hs c None) front (m ∷ back) runs_m)
            where
              both : (ps : List ℕ) → AllByRecursion (λ p. p ≢ place) ps → AllByRecursion (λ p. AllByRecursion (λ r. r ≢ p) (m ∷ back)) ps → AllByRecursion (λ p. AllByRecursion (λ r. r ≢ p) (place ∷ back)) ps
              both [] g a = tt
              both (p ∷ ps) g a = (((λ w. g.0 (sym w)), a.0.1), both ps g.1 a.1)

    -- where its bucket's chain begins with it
    pub led_first : get_or hs c None ≡ Some m → Linked (set hs c (Some place)) copied ys
    led_first f = from (next_place copied (get_or hs c None) m (o.row c) (copied_runs c c_in) f)
      where
        from : (qs : List ℕ) × (o.row c ≡ m ∷ qs) × Runs copied (get_or copied m None) qs → Linked (set hs c (Some place)) copied ys
        from t = relinked [] t.0 t.1 (set hs c (Some place)) copied (length-set hs c (Some place) ∙ o.wide) copied_long
            (subst (λ w. Runs copied w (place ∷ t.0)) (sym (get_or-set_same hs c (Some place) None (omega (arith, o.wide))))
            (refl, back_gone [] t.0 t.1, subst (λ w. Runs copied w t.0) (at_last [] t.0 t.1 ∙ sym (at_left [] t.0 t.1)) t.2))
            (λ k h n. subst (λ w. Runs copied w (o.row k)) (sym (get_or-set_other hs c k (Some place) None n)) (copied_runs k h))
