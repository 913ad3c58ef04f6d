-- A history begins, goes on by one call, and is over.
use Rattle.std.proofs.Common.{◌≡◌, ℕ, ◌+◌, ◌≤◌, ◌⊎◌, ◌-◌, ◌^◌, ⊎_elim, inl, inr, Bool, true, false, List, [], ◌∷◌, ◌++◌, reverse, take, length, slice_index_or, ◌<◌, Some, None, Option, sym, refl, ap, ◌∙◌, subst, add-one, arith}
use Rattle.std.specs.Prelude.{if◌then◌else◌}
use Rattle.std.proofs.Math.Seq.{take-suc}
use Rattle.std.proofs.lemmas.List.{reverse-append}
use Rattle.calendar.specs.Contents.{Contents}
use Rattle.model.specs.Meaning.{Meaning, Law}
use Rattle.account.specs.Account as account
use Rattle.account.specs.Account.{Account, empty, waive}
use Rattle.account.specs.Answers as account_answers
use Rattle.account.specs.Answers.{after}
use Rattle.follows.specs.Accounted.{Accounted}
use Rattle.study.specs.declared.Study.{Study}
use Rattle.study.specs.Promises.{Serves, SameParts, view_of}
use Rattle.history.specs.declared.answer.Answer.{Answer}
use Rattle.history.specs.declared.call.Call.{Call}
use Rattle.history.specs.Calls.{account_call}
use Rattle.history.specs.Carried.{After, Carried, Going, waived_at}
use Rattle.history.specs.Exchanges.{Exchanged, begun, one_more}
use Rattle.history.specs.Histories.{GoesOn, KeepsRoom, Replies, Roomy, standing}
use Rattle.history.specs.Stands.{Stand, can, calls_made, made, next, replies, reply, stand}
use Rattle.history.proofs.Stays.{promised}

-- the account of a history is the pair account fed with the calls that were made
stand_more : (M : Meaning) (capacity : ℕ) (s : Stand) (c : Call) (cs : List account.Call) → s.account ≡ account_answers.history M capacity cs → (b : Bool)
    → (if b then made M capacity s c else s).account ≡ account_answers.history M capacity (if b then account_call c ∷ cs else cs)
unfolding account_answers.history
stand_more M capacity s c cs e true = ap (λ (A : Account). after M capacity A (account_call c)) e
stand_more M capacity s c cs e false = e

pub stand_account : (M : Meaning) (capacity : ℕ) (held : List ℕ) (calls : List Call) → (stand M capacity held calls).account ≡ account_answers.history M capacity (calls_made M capacity held calls)
unfolding stand calls_made account_answers.history
stand_account M capacity held [] = refl
stand_account M capacity held (c ∷ cs) = stand_more M capacity (stand M capacity held cs) c (calls_made M capacity held cs) (stand_account M capacity held cs) (can c (stand M capacity held cs).held)

module _ {C M : Type 0} (contents : C → Contents) (meaning : M → Meaning) (model : M) (capacity : ℕ) (held : List ℕ) where
  pub going_begun : (s : Study C M) (left : List ℕ) (count room : ℕ) → s.model ≡ model → (contents s.calendar).room ≡ capacity → Serves contents meaning s (empty (meaning model)) → left ≡ held → count + 16 ≤ room
      → Going contents meaning model capacity held [] s left count room
  unfolding stand
  going_begun s left count room same_model same_room served same_held roomy = record {
    permits = same_held;
    model_same = same_model;
    room_same = same_room;
    served = served;
    roomy = omega (arith, roomy);
  }

  module _ (calls : List Call) (s t : Study C M) (left left' : List ℕ) (count count' room room' : ℕ) (call : Call) (g : Going contents meaning model capacity held calls s left count room) where
    abbrev here : Stand
    here = stand (meaning model) capacity held calls

    after_it : next (meaning s.model) (contents s.calendar).room (standing here.account left) call ≡ next (meaning model) capacity here call
    after_it i = next (meaning (g.model_same i)) (g.room_same i) (standing here.account (g.permits i)) call

    -- the answer to one more call
    pub replied_so : (answer : Answer) → Replies contents meaning s left call answer → answer ≡ reply (meaning model) capacity here call
    replied_so answer replied = replied here.account g.served ∙ (λ i. reply (meaning (g.model_same i)) (g.room_same i) (standing here.account (g.permits i)) call)

    pub going_on : GoesOn contents meaning s left call t left' → SameParts contents s t → KeepsRoom contents meaning s left count room call count' room' → Going contents meaning model capacity held (call ∷ calls) t left' count' room'
    unfolding stand
    going_on on same kept = record {
      permits = (on here.account g.served).1 ∙ ap (λ (b : Stand). b.held) after_it;
      model_same = same.model ∙ g.model_same;
      room_same = same.room ∙ g.room_same;
      served = subst (λ (b : Stand). Serves contents meaning t b.account) after_it (on here.account g.served).0;
      roomy = subst (λ (b : Stand). Roomy b.account count' room') after_it (kept here.account g.served g.roomy);
    }

  pub all_promised : (law : (m : M) → Law (meaning m)) (calls : List Call) (s : Study C M) (left : List ℕ) (count room : ℕ) → Going contents meaning model capacity held calls s left count room → After contents meaning model capacity held calls s left
  all_promised law calls s left count room g = record {
    model_same = g.model_same;
    room_same = g.room_same;
    permits = g.permits;
    account = same;
    promise = promised (meaning model) capacity (law model) (calls_made (meaning model) capacity held calls) (view_of contents s)
        (subst (λ (A : Account). Accounted (meaning model) capacity (view_of contents s) A) same
        (subst (λ (x : M × ℕ). Accounted (meaning x.0) x.1 (view_of contents s) (stand (meaning model) capacity held calls).account) (λ i. (g.model_same i, g.room_same i)) g.served));
  }
    where
      same : (stand (meaning model) capacity held calls).account ≡ account_answers.history (meaning model) capacity (calls_made (meaning model) capacity held calls)
      same = stand_account (meaning model) capacity held calls

-- a caller has given these calls and was answered so, and the study goes on
pub record Talking {C M K : Type 0} (contents : C → Contents) (meaning : M → Meaning) (gives : K → Option Call → K → Type 0) (hears : K → Call → Answer → K → Type 0) (model : M) (capacity : ℕ) (held : List ℕ) (before now : K) (study : Study C M) (left : List ℕ) (count room made : ℕ) : Type 0 where
  pub calls : List Call
  pub counted : length calls ≡ made
  pub answered : Exchanged gives hears before calls (replies (meaning model) capacity held calls) now
  pub going : Going contents meaning model capacity held calls study left count room

module _ {C M K : Type 0} (contents : C → Contents) (meaning : M → Meaning) (gives : K → Option Call → K → Type 0) (hears : K → Call → Answer → K → Type 0) (model : M) (capacity : ℕ) (held : List ℕ) (before : K) where
  pub talk_begun : (s : Study C M) (left : List ℕ) (count room : ℕ) → s.model ≡ model → (contents s.calendar).room ≡ capacity → Serves contents meaning s (empty (meaning model)) → left ≡ held → count + 16 ≤ room
      → Talking contents meaning gives hears model capacity held before before s left count room 0
  unfolding replies
  talk_begun s left count room same_model same_room served same_held roomy = record { calls = []; counted = refl; answered = begun; going = going_begun contents meaning model capacity held s left count room same_model same_room served same_held roomy }

  pub talk_on : (now given told : K) (s t : Study C M) (left left' : List ℕ) (count count' room room' made : ℕ) (call : Call) (answer : Answer) → Talking contents meaning gives hears model capacity held before now s left count room made
      → gives now (Some call) given → hears given call answer told → Replies contents meaning s left call answer → GoesOn contents meaning s left call t left' → SameParts contents s t → KeepsRoom contents meaning s left count room call count' room'
      → Talking contents meaning gives hears model capacity held before told t left' count' room' (made + 1)
  unfolding replies
  talk_on now given told s t left left' count count' room room' made call answer k gave heard replied on same kept = record {
    calls = call ∷ k.calls;
    counted = let z = k.counted in omega (arith, z);
    answered = subst (λ (a : Answer). Exchanged gives hears before (call ∷ k.calls) (a ∷ replies (meaning model) capacity held k.calls) told)
        (replied_so contents meaning model capacity held k.calls s t left left' count count' room room' call k.going answer replied) (one_more call answer k.answered gave heard);
    going = going_on contents meaning model capacity held k.calls s t left left' count count' room room' call k.going on same kept;
  }

  pub all_carried : (law : (m : M) → Law (meaning m)) (told after : K) (s : Study C M) (left : List ℕ) (count room made : ℕ) → Talking contents meaning gives hears model capacity held before told s left count room made → gives told None after ⊎ ((told ≡ after) × (made ≡ 2 ^ 64 - 1))
      → Carried contents meaning gives hears model capacity held before after s left
  all_carried law told after s left count room made k over = record {
    calls = k.calls;
    told = told;
    answered = k.answered;
    over = ⊎_elim (λ none. inl none) (λ all. inr (all.0, k.counted ∙ all.1)) over;
    all = all_promised contents meaning model capacity held law k.calls s left count room k.going;
  }

-- the last permit is waived first
pub waived_last : (M : Meaning) (capacity : ℕ) (vs : List ℕ) (v : ℕ) (A : Account) → waived_at M capacity (vs ++ v ∷ []) A ≡ waived_at M capacity vs (after M capacity A (waive v))
waived_last M capacity [] v A = refl
waived_last M capacity (u ∷ vs) v A = ap (λ (B : Account). after M capacity B (waive u)) (waived_last M capacity vs v A)

-- one more call stands in front, with the newest first
pub front_more : {X : Type 0} (xs : List X) (i : ℕ) (x : X) → i < length xs → x ≡ slice_index_or xs i x → reverse (take (i + 1) xs) ≡ x ∷ reverse (take i xs)
front_more xs i x l h = ap (λ n. reverse (take n xs)) (add-one i) ∙ ap reverse (take-suc xs i x l ∙ ap (λ y. take i xs ++ y ∷ []) (sym h)) ∙ reverse-append (take i xs) (x ∷ [])

-- and its answer behind, with the oldest first
pub back_more : (M : Meaning) (capacity : ℕ) (held : List ℕ) (calls : List Call) (c : Call) → reverse (replies M capacity held (c ∷ calls)) ≡ reverse (replies M capacity held calls) ++ reply M capacity (stand M capacity held calls) c ∷ []
unfolding replies
back_more M capacity held calls c = reverse-append (reply M capacity (stand M capacity held calls) c ∷ []) (replies M capacity held calls)
