-- What is claimed of plain values that follow an account, together.
use Rattle.std.proofs.Common.{Some, Option, ◌≤◌, sym, ◌∙◌, subst}
use Rattle.std.proofs.lemmas.List.{length-append}
use Rattle.event.specs.declared.Key.{Key}
use Rattle.account.specs.Account.{fed_step_at}
use Rattle.account.specs.Groups.{copies}
use Rattle.account.proofs.Step.{step_sound_at}
use Rattle.copies.specs.Sharing.{shares}
use Rattle.follows.specs.Steps.{with_key}
use Rattle.follows.specs.Claims.{FollowsKept, CountsAgree, CellsAreFound}
use Rattle.follows.proofs.Ahead.{worked_ahead, copies_ahead, copies_decided}
use Rattle.follows.proofs.Calls.{branch_follows, waive_follows, retire_follows}
use Rattle.follows.proofs.Copies.{groups_leaders, used_copies}
use Rattle.follows.proofs.Counting.{held_count, entries_count, taken_count}
use Rattle.follows.proofs.Deciding.{decide_follows, decide_found}
use Rattle.follows.proofs.Free.{step_finds, step_found}
use Rattle.follows.proofs.Loads.{begin_follows, load_follows}
use Rattle.follows.proofs.Start.{journals_start}
use Rattle.follows.proofs.Step.{head_of, step_follows, turns_mid}

pub follows_kept : FollowsKept
follows_kept M law = record {
  begun = begin_follows M;
  load = load_follows M law;
  branch = λ V A v s f l few. branch_follows M V A v s f l few;
  decide = λ V A v place value s f l h room. decide_follows M V A v s f place value l h room;
  waive = λ V A v s f. waive_follows M V A v s f;
  retire = λ V A v s f l. retire_follows M V A v s f l;
  step = λ V A s f room. step_follows M law A s V f (λ k e. step_finds M law A s k e V f (subst (λ (o : Option Key). copies M (fed_step_at M A o) ≤ 128) e room));
}

pub counts_agree : CountsAgree
counts_agree M law V A s f = record {
  held_same = held_count M A s V.held f.messages;
  entries_same = entries_count M A s V.entries f.journals;
  copies_same = groups_leaders M.places V.live A.live (shares V.cell) A.reached f.same_live f.cells.shared;
  cells_same = used_copies M.places V.live A.live V.cell V.content _ _ f.same_live f.cells;
  copies_decided = copies_decided M A V f;
  taken_same = λ k e. taken_count M A s law k e V.held f.messages;
  worked_ahead = λ k e. worked_ahead M law A s k e V f;
  copies_ahead = λ k e. copies_ahead M law A s k e V f;
  entries_after = λ k e. sym (length-append V.entries (with_key k V.held)) ∙ entries_count M (fed_step_at M A (Some k)) (step_sound_at M law A s k e) _ (journals_start M law A s k e V f);
}

pub cells_are_found : CellsAreFound
cells_are_found M law V A s f = record {
  decide = λ v place value l h room y. decide_found M V A v s f place value l h room y;
  step = λ k n h e room is y. step_found M law A s k e V f room n _ h (turns_mid M law A s k e V f (step_finds M law A s k e V f room) n) (head_of M law A s k e V f n h is) y;
}
