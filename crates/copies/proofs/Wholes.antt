-- Where all share, those that are live are one group.
use Rattle.std.proofs.Common.{◌≡◌, ℕ, zero, suc, ◌+◌, ◌*◌, ◌<◌, ◌≤◌, Bool, true, false, cond, not, eqb, leb, ltb, ◌&&◌, ◌||◌, List, replicate, sym, refl, ap, ◌∙◌, ⊎_elim, arith}
use Rattle.std.proofs.lemmas.Bool.{and_parts, cases_Bool, cases_eq, cases_lt, eq-eqb, eqb-true, lt-ltb, or_parts, or_right}
use Rattle.std.proofs.lemmas.Bool.Decides.{nat_tests}
use Rattle.std.proofs.lemmas.List.{get_or-replicate}
use Rattle.std.proofs.lemmas.Nat.{mul-le}
use Rattle.group.specs.declared.Group.{Group}
use Rattle.group.specs.Groups.{count, gathered, has}
use Rattle.group.proofs.Bits.{count_same}
use Rattle.group.proofs.Members.{has_gathered}
use Rattle.account.specs.Account.{any_below, ind, sum_below}
use Rattle.account.specs.Groups.{leads}
use Rattle.account.proofs.Bounds.{any_from}
use Rattle.account.proofs.Leaders.{least_in, sum_first}
use Rattle.copies.specs.declared.names.Names.{Names}
use Rattle.copies.specs.Names.{cell_in}
use Rattle.copies.specs.Rows.{group_at, is_whole_at, parted_places}
use Rattle.copies.specs.Sharing.{groups}
use Rattle.copies.specs.Tests.{AllShare}
use Rattle.copies.proofs.Leads.{few_counted, few_lead}
use Rattle.copies.proofs.Members.{member_small}
use Rattle.copies.proofs.Rows.{cell_past}
use Rattle.copies.proofs.Numbers.{ind_few}

any_alike : (f g : ℕ → Bool) (n : ℕ) → ((w : ℕ) → w < n → f w ≡ g w) → any_below f n ≡ any_below g n
unfolding any_below
any_alike f g zero h = refl
any_alike f g (suc n) h = λ i. h n (omega arith) i || any_alike f g n (λ w l. h w (omega (arith, l))) i

sum_alike : (f g : ℕ → ℕ) (n : ℕ) → ((v : ℕ) → v < n → f v ≡ g v) → sum_below f n ≡ sum_below g n
unfolding sum_below
sum_alike f g zero h = refl
sum_alike f g (suc n) h = λ i. sum_alike f g n (λ w l. h w (omega (arith, l))) i + h n (omega arith) i

and_true : (a b : Bool) → b ≡ true → (a && b) ≡ a
and_true true b e = e
and_true false b e = refl

none_below : (q : ℕ → Bool) (n : ℕ) → ((w : ℕ) → q w ≡ false) → any_below q n ≡ false
unfolding any_below
none_below q zero h = refl
none_below q (suc n) h = ap (λ b. b || any_below q n) (h n) ∙ none_below q n h

-- the smallest that is live leads, and no other does
pub one_group : (live : Group) (share : ℕ → ℕ → Bool) → AllShare share → sum_below (λ v. ind (leads (has live) share v)) 16 ≡ ind (any_below (has live) 16)
one_group live share all =
    sum_alike (λ v. ind (leads (has live) share v)) (λ v. ind (least_in v (has live))) 16 (λ v l.
    ap (λ b. ind (has live v && not b)) (any_alike (λ w. has live w && share v w) (has live) v (λ w m. and_true (has live w) (share v w) (all v w l (omega (arith, l, m))))))
    ∙ sum_first (has live) 16

-- a group has a member unless it is empty
pub some_unless_empty : (group : Group) (empty : Bool) → (empty ≡ true → (w : ℕ) → has group w ≡ false) → (empty ≡ false → (w : ℕ) × (has group w ≡ true)) → not empty ≡ any_below (has group) 16
some_unless_empty group true none some = sym (none_below (has group) 16 (none refl))
some_unless_empty group false none some = let r = some refl in sym (any_from (has group) 16 r.0 (member_small group r.0 r.1) r.1)

-- and one that was gathered unless none passes
pub some_gathered : (among group : Group) (f : ℕ → Bool) (empty : Bool) → group ≡ gathered (λ w. has among w && f w) 16 → (empty ≡ true → (w : ℕ) → has group w ≡ false) → (empty ≡ false → (w : ℕ) × (has group w ≡ true)) → not empty ≡ any_below (λ w. has among w && f w) 16
some_gathered among group f empty is none some = some_unless_empty group empty none some
    ∙ any_alike (has group) (λ w. has among w && f w) 16 (λ w l. ap (λ g. has g w) is ∙ has_gathered (λ u. has among u && f u) 16 w ∙ ap (λ b. b && (b && (has among w && f w))) (lt-ltb w 16 l))

-- no more than one leads where all share, and one for each that is live elsewhere
place_most : (live : Group) (share : ℕ → ℕ → Bool) (parted here : Bool) → ((parted || here) ≡ false → AllShare share) → sum_below (λ v. ind (leads (has live) share v)) 16 ≤ 1 + (ind parted + ind here) * count (has live) 16
place_most live share true here whole = let a = few_lead (has live) share 16 in grind (arith, a)
place_most live share false true whole = let a = few_lead (has live) share 16 in grind (arith, a)
place_most live share false false whole = let e = one_group live share (whole refl) in let n = ind_few (any_below (has live) 16) in omega (arith, e, n)

groups_most : (live : Group) (share : ℕ → ℕ → ℕ → Bool) (parted here : ℕ → Bool) (n : ℕ) → ((p : ℕ) → (parted p || here p) ≡ false → AllShare (share p))
    → groups n live share ≤ n + (sum_below (λ p. ind (parted p)) n + sum_below (λ p. ind (here p)) n) * count (has live) 16
unfolding sum_below
groups_most live share parted here zero whole = omega arith
groups_most live share parted here (suc n) whole =
    let a = groups_most live share parted here n whole in
    let b = place_most live (share n) (parted n) (here n) (whole n) in
    grind (arith, a, b)

none_here : (place n : ℕ) → n ≤ place → sum_below (λ p. ind (eqb p place)) n ≡ 0
unfolding sum_below
none_here place zero l = refl
none_here place (suc n) l = let a = none_here place n (omega (arith, l)) in let e : eqb n place ≡ false = grind (arith, nat_tests) in let b = ap ind e in omega (arith, a, b)

-- a place is one place
one_here : (place n : ℕ) → sum_below (λ p. ind (eqb p place)) n ≤ 1
unfolding sum_below
one_here place zero = omega arith
one_here place (suc n) = ⊎_elim
    (λ (e : eqb n place ≡ true). let a = none_here place n (let q = eqb-true n place e in omega (arith, q)) in let b = ind_few (eqb n place) in omega (arith, a, b))
    (λ (e : eqb n place ≡ false). let a = one_here place n in let b = ap ind e in omega (arith, a, b)) (cases_Bool (eqb n place))

sum_up : (f : ℕ → ℕ) (n m : ℕ) → n ≤ m → sum_below f n ≤ sum_below f m
unfolding sum_below
sum_up f n zero l = let e : n ≡ 0 = omega (arith, l) in let a = ap (sum_below f) e in omega (arith, a)
sum_up f n (suc m) l = ⊎_elim
    (λ (k : n < suc m). let a = sum_up f n m (omega (arith, k)) in omega (arith, a))
    (λ (k : suc m ≤ n). let e : n ≡ suc m = omega (arith, k, l) in let a = ap (sum_below f) e in omega (arith, a)) (cases_lt n (suc m))

-- no place past the last is parted
parted_most : (parted : ℕ → Bool) (m n : ℕ) → ((p : ℕ) → m ≤ p → parted p ≡ false) → sum_below (λ p. ind (parted p)) n ≤ sum_below (λ p. ind (parted p)) m
unfolding sum_below
parted_most parted m zero past = omega arith
parted_most parted m (suc n) past = ⊎_elim
    (λ (k : n < m). sum_up (λ p. ind (parted p)) (suc n) m (omega (arith, k)))
    (λ (k : m ≤ n). let a = parted_most parted m n past in let b = ap ind (past n k) in omega (arith, a, b)) (cases_lt n m)

-- no more groups than this, where all share at each place that is neither parted nor this one
pub most : (live : Group) (share : ℕ → ℕ → ℕ → Bool) (parted : ℕ → Bool) (place places tally told : ℕ) → ((p : ℕ) → 32 ≤ p → parted p ≡ false) → ((p : ℕ) → eqb p place ≡ false → parted p ≡ false → AllShare (share p))
    → tally ≡ sum_below (λ p. ind (parted p)) 32 → told ≡ places + (tally + 1) * count (has live) 16 → groups places live share ≤ told
most live share parted place places tally told past whole t e =
    let a = groups_most live share parted (λ p. eqb p place) places (λ p w. let d = or_parts (parted p) (eqb p place) w in whole p d.1 d.0) in
    let b = parted_most parted 32 places past in
    let d = one_here place places in
    let m = mul-le (sum_below (λ p. ind (parted p)) places + sum_below (λ p. ind (eqb p place)) places) (count (has live) 16) (tally + 1) (count (has live) 16) (omega (arith, b, d, t)) (omega arith) in
    omega (arith, a, m, e)

-- all are counted of which as many are counted
count_full : (f : ℕ → Bool) (n : ℕ) → count f n ≡ n → (w : ℕ) → w < n → f w ≡ true
unfolding count
count_full f zero e w l = absurd (omega (arith, l))
count_full f (suc n) e w l = ⊎_elim
    (λ (t : f n ≡ true).
    let one : ◌≡◌ {A = ℕ} (cond (f n) 1 0) 1 = ap (λ b. cond b 1 0) t in
    ⊎_elim (λ (k : w < n). count_full f n (omega (arith, e, one)) w k) (λ (k : n ≤ w). let s : w ≡ n = omega (arith, k, l) in ap f s ∙ t) (cases_lt w n))
    (λ (t : f n ≡ false). let none : ◌≡◌ {A = ℕ} (cond (f n) 1 0) 0 = ap (λ b. cond b 1 0) t in let a = few_counted f n in absurd (omega (arith, a, e, none))) (cases_Bool (f n))

-- all have one cell at a place that is whole
pub whole_cells : (names : Names) (p : ℕ) → is_whole_at names.sharing p ≡ true → (v w : ℕ) → v < 16 → w < 16 → cell_in names v p ≡ cell_in names w p
whole_cells names p e v w l m = ⊎_elim
    (λ (k : p < 32). as_first k v l ∙ sym (as_first k w m))
    (λ (k : 32 ≤ p). let past : ltb p 32 ≡ false = grind (arith, nat_tests) in cell_past names.rows v p past ∙ sym (cell_past names.rows w p past)) (cases_lt p 32)
  where
    as_first : p < 32 → (u : ℕ) → u < 16 → cell_in names u p ≡ cell_in names 0 p
    as_first k u n =
        let inside : leb 32 p ≡ false = grind (arith, nat_tests) in
        let full : eqb (count (has (group_at names.sharing 0 p)) 16) 16 ≡ true = sym (ap (λ b. b || eqb (count (has (group_at names.sharing 0 p)) 16) 16) inside) ∙ e in
        let member = count_full (has (group_at names.sharing 0 p)) 16 (eqb-true _ _ full) u n in
        eqb-true _ _ (and_parts (ltb u 16) _ (sym (names.shared 0 p (omega arith) k u) ∙ member)).1

-- so all share it
pub whole_shared : (names : Names) (p : ℕ) → is_whole_at names.sharing p ≡ true → AllShare (λ x y. eqb (cell_in names x p) (cell_in names y p))
whole_shared names p e x y l m = eq-eqb _ _ (whole_cells names p e x y l m)

-- and past the last all do
pub past_whole : (sharing : List Group) (p : ℕ) → 32 ≤ p → is_whole_at sharing p ≡ true
past_whole sharing p l = let e : leb 32 p ≡ true = grind (arith, nat_tests) in ap (λ b. b || eqb (count (has (group_at sharing 0 p)) 16) 16) e

pub told : (b : Bool) → not b ≡ false → b ≡ true
told true e = refl
told false e = sym e

few_of : (f : ℕ → Bool) (n : ℕ) → sum_below (λ p. ind (f p)) n ≤ n
unfolding sum_below
few_of f zero = omega arith
few_of f (suc n) = let a = few_of f n in let b = ind_few (f n) in omega (arith, a, b)

-- no more than all places are parted
pub few_parted : (sharing : List Group) → parted_places sharing ≤ 32
few_parted sharing = few_of (λ p. not (is_whole_at sharing p)) 32

-- a sum of which one part is changed
sum_at : (f g : ℕ → ℕ) (p n : ℕ) → p < n → ((q : ℕ) → q < n → (q ≡ p → ⊥) → f q ≡ g q) → sum_below f n + g p ≡ sum_below g n + f p
unfolding sum_below
sum_at f g p zero l h = absurd (omega (arith, l))
sum_at f g p (suc n) l h = ⊎_elim
    (λ (e : p ≡ n).
    let a = sum_alike f g n (λ q m. h q (omega (arith, m)) (λ s. omega (arith, s, m, e))) in
    let b = ap f e in
    let d = ap g e in
    omega (arith, a, b, d))
    (λ (ne : p ≡ n → ⊥).
    let a = sum_at f g p n (omega (arith, l, ne)) (λ q m. h q (omega (arith, m))) in
    let b = h n (omega arith) (λ s. ne (sym s)) in
    omega (arith, a, b)) (cases_eq p n)

ind_not : (b : Bool) → ind (not b) + ind b ≡ 1
ind_not true = refl
ind_not false = refl

-- the count of parted places once the groups of one place are changed
pub parted_recounted : (sharing beside : List Group) (p parted : ℕ) → p < 32 → parted ≡ parted_places sharing → ((q : ℕ) → q < 32 → (q ≡ p → ⊥) → (w : ℕ) → has (group_at beside 0 q) w ≡ has (group_at sharing 0 q) w) → parted + ind (is_whole_at sharing p) ≡ parted_places beside + ind (is_whole_at beside p)
parted_recounted sharing beside p parted l held same =
    let a = sum_at (λ q. ind (not (is_whole_at beside q))) (λ q. ind (not (is_whole_at sharing q))) p 32 l (λ q m ne. ap (λ n. ind (not (leb 32 q || eqb n 16))) (count_same (has (group_at beside 0 q)) (has (group_at sharing 0 q)) 16 (λ w _. same q m ne w))) in
    let b = ind_not (is_whole_at sharing p) in
    let d = ind_not (is_whole_at beside p) in
    omega (arith, a, b, d, held)

count_all : (f : ℕ → Bool) (n : ℕ) → ((w : ℕ) → w < n → f w ≡ true) → count f n ≡ n
unfolding count
count_all f zero h = refl
count_all f (suc n) h =
    let a = count_all f n (λ w l. h w (omega (arith, l))) in
    let b : ◌≡◌ {A = ℕ} (cond (f n) 1 0) 1 = ap (λ b. cond b 1 0) (h n (omega arith)) in
    omega (arith, a, b)

sum_of_none : (f : ℕ → ℕ) (n : ℕ) → ((q : ℕ) → q < n → f q ≡ 0) → sum_below f n ≡ 0
unfolding sum_below
sum_of_none f zero h = refl
sum_of_none f (suc n) h = let a = sum_of_none f n (λ q l. h q (omega (arith, l))) in let b = h n (omega arith) in omega (arith, a, b)

-- as a study begins, none is parted
pub begun_whole : (all : Group) → ((w : ℕ) → has all w ≡ ltb w 16) → 0 ≡ parted_places (replicate 512 all)
begun_whole all is = sym (sum_of_none (λ p. ind (not (is_whole_at (replicate 512 all) p))) 32 (λ p l. ap (λ b. ind (not b)) (whole p l)))
  where
    whole : (p : ℕ) → p < 32 → is_whole_at (replicate 512 all) p ≡ true
    whole p l =
        let full = ap (λ g. count (has g) 16) (get_or-replicate 512 (p * 16 + 0) all (record { mask = 0 }) (omega (arith, l))) ∙ count_all (has all) 16 (λ w m. is w ∙ lt-ltb w 16 m) in
        or_right (leb 32 p) (eqb (count (has (group_at (replicate 512 all) 0 p)) 16) 16) (eq-eqb _ _ full)
