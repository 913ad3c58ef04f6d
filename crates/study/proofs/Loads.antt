-- A load is denied as its starting list is.
use Rattle.std.proofs.Common.{◌≡◌, ℕ, suc, ◌<◌, ◌≤◌, ◌+◌, arith, Bool, true, false, ltb, leb, List, [], ◌∷◌, length, None, Option, sym, refl, ap, ◌∙◌}
use Rattle.std.proofs.lemmas.Bool.{leb-false, cond-true, lt-ltb}
use Rattle.std.proofs.lemmas.Bool.Decides.{nat_tests}
use Rattle.event.specs.Starts.{numbered}
use Rattle.group.specs.Groups.{has, only}
use Rattle.calendar.specs.Contents.{Contents, emptied}
use Rattle.calendar.specs.declared.Held.{Held}
use Rattle.day.specs.Blank.{blank_place}
use Rattle.day.specs.Day.{starting_place}
use Rattle.day.specs.declared.place.Place.{Place}
use Rattle.copies.specs.Starts.{starting_cell, starting_content}
use Rattle.follows.specs.View.{put_all, loaded_view}
use Rattle.follows.specs.Follows.{Alike}
use Rattle.follows.specs.Rooms.{put_each}
use Rattle.follows.proofs.Registers.{has_only}
use Rattle.follows.proofs.Rooms.{puts_accepted}
use Rattle.study.specs.declared.register.Register.{Register}
use Rattle.study.specs.Registers.{loaded_register}
use Rattle.account.specs.Answers.{variant}
use Rattle.std.proofs.Common.{Ok, Result}
use Rattle.std.specs.Result.{IsErr, result_err}
use Rattle.study.specs.declared.Study.{Study}
use Rattle.study.specs.Promises.{view_from, view_of, Tells, Keeps, SameParts}
use Rattle.study.proofs.Promises.{told_by, denial, told_err, told_accepted, keeps_err, keeps_accepted}
use Rattle.event.specs.declared.Start.{Start}
use Rattle.model.specs.Meaning.{Meaning, Law}
use Rattle.account.specs.Account.{load}
use Rattle.account.specs.Refusals.{start_cases, first_met}
use Rattle.follows.specs.View.{View}
use Rattle.follows.specs.Refusing as view
use Rattle.study.specs.declared.fault.StudyFault.{StudyFault}
use Rattle.study.specs.declared.fault.StudyFault.TheVariants as fault
use Rattle.study.specs.declared.fault.StartFault.TheVariants as start
use Rattle.calendar.specs.declared.fault.CalendarFault.TheVariants.{Full}
use Rattle.std.proofs.lemmas.Option.{none-some}
use Rattle.study.specs.Loads.{starts_fault, load_fault}

starts_same : (M : Meaning) (capacity end i : ℕ) (l : List Start) → first_met (start_cases M capacity end i l) ≡ told_by (starts_fault M.places capacity end i l)
starts_same M capacity end i [] = refl
starts_same M capacity end i (s ∷ l) = go (leb M.places s.receiver) (ltb end s.time) (leb capacity i) refl refl refl (starts_same M capacity end (suc i) l)
  where
    go : (a b c : Bool) → leb M.places s.receiver ≡ a → ltb end s.time ≡ b → leb capacity i ≡ c → first_met (start_cases M capacity end (suc i) l) ≡ told_by (starts_fault M.places capacity end (suc i) l)
        → first_met (start_cases M capacity end i (s ∷ l)) ≡ told_by (starts_fault M.places capacity end i (s ∷ l))
    go true b c x y z ih = simp x refl
    go false true c x y z ih = simp (x, y) refl
    go false false true x y z ih = simp (x, y, z) refl
    go false false false x y z ih = simp (x, y, z) ih

pub load_same : (M : Meaning) (capacity end : ℕ) (V : View) (l : List Start) → view.refusal_of M capacity V (load l end) ≡ told_by (load_fault V.loaded M.places capacity end l)
load_same M capacity end V l = go V.loaded (ltb 1000000 end) refl refl
  where
    go : (a b : Bool) → V.loaded ≡ a → ltb 1000000 end ≡ b → view.refusal_of M capacity V (load l end) ≡ told_by (load_fault V.loaded M.places capacity end l)
    go true b x y = simp x refl
    go false true x y = simp (x, y) refl
    go false false x y = simp (x, y) (starts_same M capacity end 0 l)

-- an accepted starting list fits into the calendar
starts_fit : (places capacity end i : ℕ) (l : List Start) → i ≤ capacity → starts_fault places capacity end i l ≡ None → i + length l ≤ capacity
starts_fit places capacity end i [] h e = omega arith
starts_fit places capacity end i (s ∷ l) h e = go (leb places s.receiver) (ltb end s.time) (leb capacity i) refl refl refl e (starts_fit places capacity end (suc i) l)
  where
    go : (a b c : Bool) → leb places s.receiver ≡ a → ltb end s.time ≡ b → leb capacity i ≡ c → starts_fault places capacity end i (s ∷ l) ≡ None → (suc i ≤ capacity → starts_fault places capacity end (suc i) l ≡ None → suc i + length l ≤ capacity) → i + suc (length l) ≤ capacity
    go true b c x y z e ih = absurd (none-some (fault.Start i start.Place) (sym e ∙ simp x refl))
    go false true c x y z e ih = absurd (none-some (fault.Start i start.Time) (sym e ∙ simp (x, y) refl))
    go false false true x y z e ih = absurd (none-some (fault.Start i (start.Calendar Full)) (sym e ∙ simp (x, y, z) refl))
    go false false false x y z e ih = let k = leb-false capacity i z in let r = ih (omega arith) (sym (simp (x, y, z) refl) ∙ e) in omega arith

length_numbered : (i : ℕ) (l : List Start) → length (numbered i l) ≡ length l
length_numbered i [] = refl
length_numbered i (s ∷ l) = ap suc (length_numbered (suc i) l)

pub load_fits : (loaded : Bool) (places capacity end : ℕ) (l : List Start) → load_fault loaded places capacity end l ≡ None → length l ≤ capacity
load_fits loaded places capacity end l e = let a = starts_fit places capacity end 0 l (omega arith) (grind arith) in omega arith

-- what is left of a study by a load
module _ (M : Meaning) (law : Law M) (old new : Contents) (register : Register) (cell : ℕ → ℕ → ℕ) (content : ℕ → Place) (entries : List Held) (l : List Start) (end : ℕ) where
  accepted : length l ≤ old.room → old.room ≤ 4096 → put_each (only 0) (numbered 0 l) (emptied old) ≡ record { held = put_all (only 0) (numbered 0 l) []; room = old.room; puts = length l }
  accepted h k = let e = length_numbered 0 l in puts_accepted (only 0) (numbered 0 l) (emptied old) (omega (arith, length_numbered 0 l)) (omega (arith, length_numbered 0 l)) ∙ ap (λ n. record { held = put_all (only 0) (numbered 0 l) []; room = old.room; puts = n }) (omega (arith, e))

  pub load_room : length l ≤ old.room → old.room ≤ 4096 → new ≡ put_each (only 0) (numbered 0 l) (emptied old) → new.room ≡ old.room
  load_room h k e = ap (λ c. c.room) (e ∙ accepted h k)

  -- each place has the cell of its number
  own_cell : register ≡ loaded_register end → cell ≡ starting_cell → (v p : ℕ) → has register.live v ≡ true → p < M.places → p ≡ cell v p
  own_cell r c v p live within =
      let zero = sym (has_only 0 v (omega arith)) ∙ sym (ap (λ x. has x.live v) r) ∙ live in
      let most = law.most in
      sym (ap (λ q. q v p) c ∙ grind (arith, nat_tests))

  begins : (p : ℕ) → p < M.places → starting_content M p ≡ starting_place M p
  begins p within = let most = law.most in cond-true (ltb p 128) (starting_place M p) blank_place (lt-ltb p 128 (omega arith))

  pub load_alike : length l ≤ old.room → old.room ≤ 4096 → new ≡ put_each (only 0) (numbered 0 l) (emptied old) → register ≡ loaded_register end → cell ≡ starting_cell → content ≡ starting_content M → entries ≡ []
      → Alike M.places (loaded_view M l end) (view_from new register cell content entries)
  load_alike h k e r c d j = record {
    loaded = sym (ap (λ x. x.loaded) r);
    end = sym (ap (λ x. x.end) r);
    held = sym (ap (λ x. x.held) (e ∙ accepted h k));
    entries = sym j;
    live = λ v. sym (ap (λ x. has x.live v) r);
    undecided = λ v. sym (ap (λ x. has x.undecided v) r);
    made = sym (ap (λ x. x.made) r);
    executions = sym (ap (λ x. x.executions) r);
    puts = sym (ap (λ x. x.puts) (e ∙ accepted h k));
    cell = λ v p live within. own_cell r c v p live within;
    content = λ v p live within. sym (ap (λ q. q (cell v p)) d ∙ ap (starting_content M) (sym (own_cell r c v p live within)) ∙ begins p within);
  }

-- what a load promises
module _ {C M : Type 0} (contents : C → Contents) (meaning : M → Meaning) (law : (m : M) → Law (meaning m)) (s : Study C M) (l : List Start) (end : ℕ) where
  why : (o : Option StudyFault) → load_fault s.register.loaded (meaning s.model).places (contents s.calendar).room end l ≡ o → denial contents meaning law s (load l end) ≡ told_by o
  why o e = load_same (meaning s.model) (contents s.calendar).room end (view_of contents s) l ∙ ap told_by e

  pub load_refused : (r : Result ℕ StudyFault) → IsErr r → load_fault s.register.loaded (meaning s.model).places (contents s.calendar).room end l ≡ result_err r → Tells contents meaning s (load l end) variant r × Keeps contents meaning s (load l end) s
  load_refused r i e = (told_err contents meaning law s (load l end) variant r i (why _ e), keeps_err contents meaning law s (load l end) r i (why _ e))

  pub load_told : load_fault s.register.loaded (meaning s.model).places (contents s.calendar).room end l ≡ None → Tells contents meaning s (load l end) variant (Ok 0)
  load_told e = told_accepted contents meaning law s (load l end) variant 0 (why None e) refl

  pub load_kept : (t : Study C M) → load_fault s.register.loaded (meaning s.model).places (contents s.calendar).room end l ≡ None → SameParts contents s t → Alike (meaning s.model).places (loaded_view (meaning s.model) l end) (view_of contents t) → Keeps contents meaning s (load l end) t
  load_kept t e p a = keeps_accepted contents meaning law s (load l end) t (why None e) p (λ _ _. a)
