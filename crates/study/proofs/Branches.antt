-- A branch, an order and a waived permit are denied as the account's are, and leave what they are to leave.
use Rattle.std.proofs.Common.{◌≡◌, ℕ, ◌<◌, ⊎_elim, Bool, true, false, ltb, leb, not, [], ◌∷◌, Some, None, sym, refl}
use Rattle.std.specs.Prelude.{if◌then◌else◌}
use Rattle.std.proofs.lemmas.Bool.{cases_Bool, both_ways, ltb-true}
use Rattle.std.proofs.lemmas.Option.{none-some}
use Rattle.group.proofs.Members.{has_above}
use Rattle.group.specs.Groups.{count, has}
use Rattle.calendar.specs.Contents.{Contents}
use Rattle.model.specs.Meaning.{Meaning, Law}
use Rattle.account.specs.Account.{Call, branch, decide, waive, retire}
use Rattle.account.specs.Refusals.{by_study, first_met}
use Rattle.copies.specs.Sharing.{groups, shares_decided}
use Rattle.follows.specs.View.{View}
use Rattle.follows.specs.Refusing.{refusal_of}
use Rattle.follows.specs.Answering.{fed_view}
use Rattle.study.specs.declared.Study.{Study}
use Rattle.study.specs.declared.fault.StudyFault.TheVariants.{NotLoaded, Variant, Undecided, Permit, Place, Made, Last, Copies}
use Rattle.study.specs.Branches.{branch_fault, permit_fault, decide_fault, retire_fault}
use Rattle.study.specs.Promises.{view_of, Keeps, SameParts}
use Rattle.study.proofs.Promises.{told_by, denial, keeps_accepted}
use Rattle.study.proofs.Steps.{alike_same}

-- the first of the refusals of a branch, of an order, and of a waived permit
of_branch : (a b c d : Bool) → first_met (by_study 2 (not a) ∷ by_study 8 (not b) ∷ by_study 9 c ∷ by_study 12 d ∷ [])
    ≡ told_by (if not a then Some NotLoaded else if not b then Some Variant else if c then Some Undecided else if d then Some Made else None)
of_branch false b c d = refl
of_branch true false c d = refl
of_branch true true true d = refl
of_branch true true false true = refl
of_branch true true false false = refl

of_order : (a b c d : Bool) → first_met (by_study 2 (not a) ∷ by_study 10 (not b) ∷ by_study 11 c ∷ by_study 15 d ∷ [])
    ≡ told_by (if not a then Some NotLoaded else if not b then Some Permit else if c then Some Place else if d then Some Copies else None)
of_order false b c d = refl
of_order true false c d = refl
of_order true true true d = refl
of_order true true false true = refl
of_order true true false false = refl

of_permit : (a b : Bool) → first_met (by_study 2 (not a) ∷ by_study 10 (not b) ∷ []) ≡ told_by (if not a then Some NotLoaded else if not b then Some Permit else None)
of_permit false b = refl
of_permit true false = refl
of_permit true true = refl

of_retire : (a b c d : Bool) → first_met (by_study 2 (not a) ∷ by_study 8 (not b) ∷ by_study 9 c ∷ by_study 13 d ∷ [])
    ≡ told_by (if not a then Some NotLoaded else if not b then Some Variant else if c then Some Undecided else if d then Some Last else None)
of_retire false b c d = refl
of_retire true false c d = refl
of_retire true true true d = refl
of_retire true true false true = refl
of_retire true true false false = refl

pub retire_same : (M : Meaning) (capacity : ℕ) (V : View) (v : ℕ) → refusal_of M capacity V (retire v) ≡ told_by (retire_fault V v)
retire_same M capacity V v = of_retire V.loaded (has V.live v) (has V.undecided v) (leb (count (has V.live) 16) 1)

pub branch_same : (M : Meaning) (capacity : ℕ) (V : View) (v : ℕ) → refusal_of M capacity V (branch v) ≡ told_by (branch_fault V v)
branch_same M capacity V v = of_branch V.loaded (has V.live v) (has V.undecided v) (leb 16 V.made)

pub decide_same : (M : Meaning) (capacity : ℕ) (V : View) (v place order : ℕ) → refusal_of M capacity V (decide v place order) ≡ told_by (decide_fault M V v place)
decide_same M capacity V v place order = of_order V.loaded (has V.undecided v) (leb M.places place) (ltb 128 (groups M.places V.live (shares_decided V.cell v place)))

pub waive_same : (M : Meaning) (capacity : ℕ) (V : View) (v : ℕ) → refusal_of M capacity V (waive v) ≡ told_by (permit_fault V v)
waive_same M capacity V v = of_permit V.loaded (has V.undecided v)

-- only a variant below sixteen is branched
pub branch_small : (V : View) (v : ℕ) → branch_fault V v ≡ None → v < 16
branch_small V v e = go V.loaded (has V.live v) refl e
  where
    go : (a b : Bool) → has V.live v ≡ b → (if not a then Some NotLoaded else if not b then Some Variant else if has V.undecided v then Some Undecided else if leb 16 V.made then Some Made else None) ≡ None → v < 16
    go false b h n = absurd (none-some NotLoaded (sym n))
    go true false h n = absurd (none-some Variant (sym n))
    go true true h n = ⊎_elim (λ t. ltb-true v 16 t) (λ f. absurd (both_ways (has V.live v) (has_above V.live v f) h)) (cases_Bool (ltb v 16))

-- a call that is accepted, and leaves just what it is to leave
pub keeps_exact : {C M : Type 0} (contents : C → Contents) (meaning : M → Meaning) (law : (m : M) → Law (meaning m)) (s : Study C M) (call : Call) (t : Study C M) → denial contents meaning law s call ≡ None → SameParts contents s t
    → view_of contents t ≡ fed_view (meaning s.model) (view_of contents s) call → Keeps contents meaning s call t
keeps_exact contents meaning law s call t e parts left = keeps_accepted contents meaning law s call t e parts (λ A a. alike_same (meaning s.model).places _ _ (sym left))
