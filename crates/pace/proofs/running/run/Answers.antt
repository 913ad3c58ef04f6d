use Rattle.std.proofs.Common.{rules, ◌≡◌, true, ap, sym, subst, ◌∙◌}
use Rattle.std.specs.Prelude.{is_ok}
use Rattle.account.specs.Account.{empty, load}
use Rattle.pace.specs.Paces.{InService}
use Rattle.pace.proofs.Service.{goes_on}
use Rattle.study.specs.Plain.{NeverBranched}
use Rattle.pace.proofs.running.run.Goals as goal

pub returns : goal.returns
returns g c =
    let s = c.in_ok-study.study in
    let starts = c.args.starts.now in
    let ok : is_ok c.load.result ≡ true = search rules in
    let begun : InService g.C.Calendar.meaning g.M.Model.meaning s = record { account = empty (g.M.Model.meaning c.args.model); serves = c.in_ok-study.ensures.begun } in
    record {
      study = c.step-after.new.study;
      model = ap g.M.Model.meaning (c.step-after.ensures.same.model ∙ c.add_children.ensures.same.model ∙ c.step-before.ensures.same.model ∙ c.load.ensures.same.model ∙ c.in_ok-study.ensures.kept.0);
      served = c.step-after.ensures.keeps (c.add_children.ensures.keeps (c.step-before.ensures.keeps (goes_on g.C.Calendar.meaning g.M.Model.meaning s c.load.new.self (load starts 1000000) c.load.ensures.keeps begun)));
      alone = λ few. c.step-after.ensures.alone starts 1000000 (subst (NeverBranched g.C.Calendar.meaning g.M.Model.meaning starts 1000000) (sym (c.add_children.ensures.none few)) (c.step-before.ensures.alone starts 1000000 (c.load.ensures.alone ok)));
      told = c.in_ok-told.ensures;
    }
