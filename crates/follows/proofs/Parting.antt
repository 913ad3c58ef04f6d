-- Sharing that grows finer: where two that shared are parted, one more leads.
use Rattle.std.proofs.Common.{◌≡◌, ℕ, ◌<◌, ◌≤◌, Bool, true, false, ◌&&◌, ◌⊎◌, sym, refl, ◌∙◌, subst, inl, inr, arith}
use Rattle.std.proofs.lemmas.Bool.{both_ways, cases_order, and_from, and_parts, and_right, not-true, not_from_false, not_from_true}
use Rattle.account.specs.Account.{ind, any_below}
use Rattle.account.specs.Groups.{leads}
use Rattle.account.proofs.Bounds.{any_from}
use Rattle.follows.proofs.Below.{first_below, none_below}

-- who shares now, and who shares after
pub record Finer (live : ℕ → Bool) (now then : ℕ → ℕ → Bool) : Type 0 where
  pub few : (x : ℕ) → live x ≡ true → x < 16
  pub now_turned : (x y : ℕ) → live x ≡ true → live y ≡ true → now x y ≡ now y x
  pub now_through : (x y z : ℕ) → live x ≡ true → live y ≡ true → live z ≡ true → now x y ≡ true → now y z ≡ true → now x z ≡ true
  pub then_self : (x : ℕ) → then x x ≡ true
  pub then_turned : (x y : ℕ) → then x y ≡ then y x
  pub then_through : (x y z : ℕ) → live x ≡ true → live y ≡ true → live z ≡ true → then x y ≡ true → then y z ≡ true → then x z ≡ true
  pub finer : (x y : ℕ) → then x y ≡ true → now x y ≡ true

pub ind_le : (a b : Bool) → (a ≡ true → b ≡ true) → ind a ≤ ind b
ind_le true b f = let e = f refl in subst (λ (z : Bool). 1 ≤ ind z) (sym e) (omega arith)
ind_le false b f = omega arith

pub ind_less : (a b : Bool) → a ≡ false → b ≡ true → ind a < ind b
ind_less a b x y = subst (λ (z : Bool). ind z < ind b) (sym x) (subst (λ (z : Bool). 0 < ind z) (sym y) (omega arith))

module _ (live : ℕ → Bool) (now then : ℕ → ℕ → Bool) (f : Finer live now then) where
  -- who leads now leads after
  pub leads_on : (v : ℕ) → leads live now v ≡ true → leads live then v ≡ true
  leads_on v e =
      let a = and_parts (live v) _ e in
      and_from (live v) _ a.0 (not_from_false _ (none_below (λ w. live w && then v w) v (λ w l t.
      let b = and_parts (live w) (then v w) t in
      both_ways (any_below (λ w. live w && now v w) v) (not-true _ a.1) (any_from (λ w. live w && now v w) v w l (and_from (live w) (now v w) b.0 (f.finer v w b.1))))))

  -- the one that leads x's group after
  abbrev Led : ℕ → Type 0
  Led x = (v : ℕ) × (live v ≡ true) × (then x v ≡ true) × (leads live then v ≡ true)

  leader : (x : ℕ) → live x ≡ true → Led x
  leader x l =
      let r = first_below (λ w. live w && then x w) 16 (any_from (λ w. live w && then x w) 16 x (f.few x l) (and_from (live x) _ l (f.then_self x))) in
      let p = and_parts (live r.0) _ r.2 in (
        r.0,
        p.0,
        p.1,
        and_from (live r.0) _ p.0 (not_from_false _ (none_below (λ w. live w && then r.0 w) r.0 (λ w m t.
            let b = and_parts (live w) _ t in
            both_ways (any_below (λ w. live w && then x w) r.0) r.3 (any_from (λ w. live w && then x w) r.0 w m (and_from (live w) _ b.0 (f.then_through x r.0 w l p.0 b.0 p.1 b.1)))))),
      )

  -- the later of two that share now does not lead
  second : (x z : ℕ) → live x ≡ true → x < z → now z x ≡ true → leads live now z ≡ false
  second x z l m t = and_right (live z) _ (not_from_true _ (any_from (λ w. live w && now z w) z x m (and_from (live x) _ l t)))

  pub new_leader : (n u : ℕ) → live n ≡ true → live u ≡ true → now n u ≡ true → then n u ≡ false → (v : ℕ) × (v < 16) × (leads live now v ≡ false) × (leads live then v ≡ true)
  new_leader n u l m e d = go (leader n l) (leader u m)
    where
      go : Led n → Led u → (v : ℕ) × (v < 16) × (leads live now v ≡ false) × (leads live then v ≡ true)
      go a b = which (cases_order a.0 b.0)
        where
          both : now a.0 b.0 ≡ true
          both = f.now_through a.0 n b.0 a.1 l b.1 (f.now_turned a.0 n a.1 l ∙ f.finer n a.0 a.2) (f.now_through n u b.0 l m b.1 e (f.finer u b.0 b.2))

          which : (a.0 ≡ b.0) ⊎ ((a.0 < b.0) ⊎ (b.0 < a.0)) → (v : ℕ) × (v < 16) × (leads live now v ≡ false) × (leads live then v ≡ true)
          which (inl q) = absurd (both_ways (then n u) d (f.then_through n a.0 u l a.1 m a.2 (subst (λ (z : ℕ). then z u ≡ true) (sym q) (f.then_turned b.0 u ∙ b.2))))
          which (inr (inl h)) = (b.0, f.few b.0 b.1, second a.0 b.0 a.1 h (f.now_turned b.0 a.0 b.1 a.1 ∙ both), b.3)
          which (inr (inr h)) = (a.0, f.few a.0 a.1, second b.0 a.0 b.1 h both, a.3)
