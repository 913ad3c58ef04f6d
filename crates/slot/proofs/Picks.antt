-- Choosing from a ranked list: the first that passes, and the one after it.
use Rattle.std.proofs.Common.{◌≡◌, ℕ, zero, suc, ◌≤◌, Bool, true, false, cond, ◌&&◌, ◌⊎◌, List, [], ◌∷◌, ◌++◌, Some, None, Option, filter, append_assoc, append-nil, sym, refl, ap, ◌∙◌, subst, inl, inr, ⊎_elim, arith}
use Rattle.std.specs.List.{AllByRecursion, fold, reduce}
use Rattle.std.proofs.ByRecursion.{All-weaker, all_kept_by}
use Rattle.std.proofs.lemmas.Bool.{cases_Bool, both_ways, cond_both}
use Rattle.std.proofs.lemmas.Option.{none-some, same_Some}
use Rattle.event.specs.Lists.{first as head, rest}
use Rattle.std.specs.List.{slice_get}
use Rattle.slot.specs.Rank.{ins, ranked, Strict, Rising}
use Rattle.slot.proofs.Ranks.{ins_comm, ranked_rising}

-- a list is its first and the rest
pub first_rest : {X : Type 0} (l : List X) (x : X) → Some x ≡ head l → l ≡ x ∷ rest l
first_rest [] x e = absurd (none-some x (sym e))
first_rest (y ∷ l) x e = ap (λ z. z ∷ l) (same_Some y x (sym e))

pub kept_both : {X : Type 0} (p q : X → Bool) (l : List X) → filter (λ x. p x && q x) l ≡ filter q (filter p l)
kept_both p q [] = refl
kept_both p q (x ∷ l) = ⊎_elim
    (λ (e : p x ≡ true). simp e (ap (λ t. cond (q x) (x ∷ t) t) (kept_both p q l)))
    (λ (e : p x ≡ false). simp e (kept_both p q l)) (cases_Bool (p x))

pub kept_every : {X : Type 0} (p : X → Bool) (l : List X) → AllByRecursion (λ x. p x ≡ true) l → filter p l ≡ l
kept_every p [] h = refl
kept_every p (x ∷ l) h = ap (λ b. cond b (x ∷ filter p l) (filter p l)) h.0 ∙ ap (λ t. x ∷ t) (kept_every p l h.1)

pub all_at : {X : Type 0} (P : X → Type 0) (l : List X) (k : ℕ) (x : X) → AllByRecursion P l → slice_get l k ≡ Some x → P x
all_at P [] k x h e = let z : ◌≡◌ {A = ℕ} 0 1 = cc in absurd (let y : ⊥ = omega arith in y)
all_at P (y ∷ l) zero x h e = let z : y ≡ x = cc in subst P z h.0
all_at P (y ∷ l) (suc k) x h e = all_at P l k x h.1 e

pub at_none : {X : Type 0} (l : List X) (k j : ℕ) → slice_get l k ≡ None → k ≤ j → slice_get l j ≡ None
at_none [] k j e h = refl
at_none (x ∷ l) zero j e h = let z : ◌≡◌ {A = ℕ} 0 1 = cc in absurd (let y : ⊥ = omega arith in y)
at_none (x ∷ l) (suc k) zero e h = absurd (let y : ⊥ = omega arith in y)
at_none (x ∷ l) (suc k) (suc j) e h = at_none l k j e (let m : k ≤ j = omega arith in m)

pub at_zero : {X : Type 0} (l : List X) → slice_get l 0 ≡ head l
at_zero [] = refl
at_zero (x ∷ l) = refl

module _ {X : Type 0} (lt : X → X → Bool) where
  -- each comes before all that follow
  abbrev pub Climbs : List X → Type 0
  Climbs [] = Unit {0}
  Climbs (x ∷ xs) = AllByRecursion (λ y. lt x y ≡ true) xs × Climbs xs

  pub climbs_kept : (p : X → Bool) (l : List X) → Climbs l → Climbs (filter p l)
  climbs_kept p [] h = tt
  climbs_kept p (x ∷ l) h = cond_both (p x) (x ∷ filter p l) (filter p l) Climbs (λ _. (all_kept_by p (λ y. lt x y ≡ true) l h.0, climbs_kept p l h.1)) (λ _. climbs_kept p l h.1)

-- the earlier of the two
abbrev pub sooner : {X : Type 0} → (X → X → Bool) → Option X → X → Option X
sooner lt None x = Some x
sooner lt (Some b) x = cond (lt x b) (Some x) (Some b)

module _ {X : Type 0} (lt : X → X → Bool) (o : Strict lt) where
  pub ranked_push : (l : List X) (x : X) → ranked lt (l ++ x ∷ []) ≡ ins lt x (ranked lt l)
  ranked_push [] x = refl
  ranked_push (y ∷ l) x = ap (ins lt y) (ranked_push l x) ∙ ins_comm lt o y x (ranked lt l)

  pub never_self : (x : X) → lt x x ≡ false
  never_self x = ⊎_elim (λ (e : lt x x ≡ true). o.one_way x x e) (λ e. e) (cases_Bool (lt x x))

  -- before y, and so before what does not come before y
  pub through : (x y z : X) → lt x y ≡ true → lt z y ≡ false → lt x z ≡ true
  through x y z a b = go (cases_Bool (lt x z)) (cases_Bool (lt z x))
    where
      go : (lt x z ≡ true) ⊎ (lt x z ≡ false) → (lt z x ≡ true) ⊎ (lt z x ≡ false) → lt x z ≡ true
      go (inl e) w = e
      go (inr e) (inl f) = absurd (both_ways (lt z y) b (o.chain z x y f a))
      go (inr e) (inr f) = absurd (both_ways (lt z y) b (ap (λ u. lt u y) (sym (o.apart x z e f)) ∙ a))

  pub kept_ins_no : (p : X → Bool) (x : X) (l : List X) → p x ≡ false → filter p (ins lt x l) ≡ filter p l
  kept_ins_no p x [] e = ap (λ b. cond b (x ∷ []) []) e
  kept_ins_no p x (y ∷ l) e = cond_both (lt x y) (x ∷ y ∷ l) (y ∷ ins lt x l) (λ t. filter p t ≡ filter p (y ∷ l))
      (λ _. ap (λ b. cond b (x ∷ filter p (y ∷ l)) (filter p (y ∷ l))) e)
      (λ _. ap (λ t. cond (p y) (y ∷ t) t) (kept_ins_no p x l e))

  pub ins_first : (x : X) (l : List X) → AllByRecursion (λ y. lt x y ≡ true) l → ins lt x l ≡ x ∷ l
  ins_first x [] h = refl
  ins_first x (y ∷ l) h = ap (λ b. cond b (x ∷ y ∷ l) (y ∷ ins lt x l)) h.0

  pub kept_ins_yes : (p : X → Bool) (x : X) (l : List X) → p x ≡ true → Rising lt l → filter p (ins lt x l) ≡ ins lt x (filter p l)
  kept_ins_yes p x [] e r = ap (λ b. cond b (x ∷ []) []) e
  kept_ins_yes p x (y ∷ l) e r = go (cases_Bool (lt x y)) (cases_Bool (p y)) (kept_ins_yes p x l e r.1)
    where
      go : (lt x y ≡ true) ⊎ (lt x y ≡ false) → (p y ≡ true) ⊎ (p y ≡ false) → filter p (ins lt x l) ≡ ins lt x (filter p l) → filter p (ins lt x (y ∷ l)) ≡ ins lt x (filter p (y ∷ l))
      go (inl a) w ih =
          let all : AllByRecursion (λ z. lt x z ≡ true) (y ∷ l) = (a, All-weaker (λ z. lt z y ≡ false) (λ z. lt x z ≡ true) (λ z k. through x y z a k) l r.0) in
          ap (λ b. filter p (cond b (x ∷ y ∷ l) (y ∷ ins lt x l))) a ∙ ap (λ b. cond b (x ∷ filter p (y ∷ l)) (filter p (y ∷ l))) e
          ∙ sym (ins_first x (filter p (y ∷ l)) (all_kept_by p (λ z. lt x z ≡ true) (y ∷ l) all))
      go (inr a) (inl f) ih =
          ap (λ b. filter p (cond b (x ∷ y ∷ l) (y ∷ ins lt x l))) a ∙ ap (λ b. cond b (y ∷ filter p (ins lt x l)) (filter p (ins lt x l))) f ∙ ap (λ t. y ∷ t) ih
          ∙ sym (ap (λ b. ins lt x (cond b (y ∷ filter p l) (filter p l))) f ∙ ap (λ b. cond b (x ∷ y ∷ filter p l) (y ∷ ins lt x (filter p l))) a)
      go (inr a) (inr f) ih =
          ap (λ b. filter p (cond b (x ∷ y ∷ l) (y ∷ ins lt x l))) a ∙ ap (λ b. cond b (y ∷ filter p (ins lt x l)) (filter p (ins lt x l))) f ∙ ih
          ∙ sym (ap (λ b. ins lt x (cond b (y ∷ filter p l) (filter p l))) f)

  pub head_ins : (x : X) (l : List X) → head (ins lt x l) ≡ sooner lt (head l) x
  head_ins x [] = refl
  head_ins x (y ∷ l) = ⊎_elim
      (λ (a : lt x y ≡ true). ap (λ b. head (cond b (x ∷ y ∷ l) (y ∷ ins lt x l))) a ∙ sym (ap (λ b. cond b (Some x) (Some y)) a))
      (λ (a : lt x y ≡ false). ap (λ b. head (cond b (x ∷ y ∷ l) (y ∷ ins lt x l))) a ∙ sym (ap (λ b. cond b (Some x) (Some y)) a)) (cases_Bool (lt x y))

  -- a choice among those that pass is one among all
  pub kept_ranked : (p : X → Bool) (l : List X) → filter p (ranked lt l) ≡ ranked lt (filter p l)
  kept_ranked p [] = refl
  kept_ranked p (x ∷ l) = ⊎_elim
      (λ (e : p x ≡ true). simp e (kept_ins_yes p x (ranked lt l) e (ranked_rising lt o l) ∙ ap (ins lt x) (kept_ranked p l)))
      (λ (e : p x ≡ false). simp e (kept_ins_no p x (ranked lt l) e ∙ kept_ranked p l)) (cases_Bool (p x))

  -- what takes the earlier of each two finds the first
  module _ (f : X → X → X) (e : (b x : X) → f b x ≡ cond (lt x b) x b) where
    some_sooner : (b x : X) → sooner lt (Some b) x ≡ Some (f b x)
    some_sooner b x = ⊎_elim (λ (t : lt x b ≡ true). rw (e b x) (simp t)) (λ (t : lt x b ≡ false). rw (e b x) (simp t)) (cases_Bool (lt x b))

    from_front : (front : List X) (b : X) (l : List X) → head (ranked lt front) ≡ Some b → Some (fold f b l) ≡ head (ranked lt (front ++ l))
    from_front front b [] h = sym h ∙ ap (λ t. head (ranked lt t)) (sym (append-nil front))
    from_front front b (x ∷ l) h =
        from_front (front ++ x ∷ []) (f b x) l (ap head (ranked_push front x) ∙ head_ins x (ranked lt front) ∙ ap (λ t. sooner lt t x) h ∙ some_sooner b x)
        ∙ ap (λ t. head (ranked lt t)) (append_assoc front (x ∷ []) l)

    pub first_reduced : (l : List X) → reduce f l ≡ head (ranked lt l)
    first_reduced [] = refl
    first_reduced (x ∷ l) = from_front (x ∷ []) x l refl

  -- the one after x
  pub next_at : (l : List X) (k : ℕ) (x : X) → Climbs lt l → slice_get l k ≡ Some x → head (filter (lt x) l) ≡ slice_get l (suc k)
  next_at [] k x h e = refl
  next_at (y ∷ l) zero x h e =
      let z : y ≡ x = cc in
      ap (λ b. head (cond b (y ∷ filter (lt x) l) (filter (lt x) l))) (ap (λ u. lt u y) (sym z) ∙ never_self y)
      ∙ ap head (kept_every (lt x) l (subst (λ u. AllByRecursion (λ w. lt u w ≡ true) l) z h.0)) ∙ sym (at_zero l)
  next_at (y ∷ l) (suc k) x h e =
      let z : lt y x ≡ true = all_at (λ w. lt y w ≡ true) l k x h.0 e in
      ap (λ b. head (cond b (y ∷ filter (lt x) l) (filter (lt x) l))) (o.one_way y x z) ∙ next_at l k x h.1 e
