-- The day begins as it should, and so stays alone and tidy.
use Rattle.std.proofs.Common.{◌≡◌, ℕ, List, [], None, sym, subst}
use Rattle.event.specs.declared.Start.{Start}
use Rattle.model.specs.Meaning.{Meaning, Law}
use Rattle.day.specs.Faults.{load_fault_of}
use Rattle.day.specs.Alone.{Alone, done, given}
use Rattle.day.specs.Day.{Day, starting}
use Rattle.day.specs.Tidy.{Tidy}
use Rattle.day.proofs.Alone.{alone_done, alone_starts}
use Rattle.day.proofs.Tidy.{tidy_done, tidy_starts}
use Rattle.day.proofs.Loading.{load_fits}
use Rattle.day.proofs.lone.LoneDay.load.Goals as goal

pub returns-clause-alone : goal.returns-clause-alone
returns-clause-alone g c =
    let M : Meaning = g.M.Model.meaning c.args.model in
    let end : ℕ = c.args.end in
    let starts : List Start = c.args.starts.now in
    λ deeds.
    subst (λ (d : Day). Alone M end starts (given M end deeds d) (done M end deeds d)) (sym c.in_ok-begin.ensures.day) (alone_done M end starts [] deeds (starting M starts) (alone_starts M end starts))

pub returns-clause-tidy : goal.returns-clause-tidy
returns-clause-tidy g c =
    let M : Meaning = g.M.Model.meaning c.args.model in
    let law : Law M = g.met.M.Model.law c.args.model in
    let starts : List Start = c.args.starts.now in
    let check = c.in_ok-check.ensures in
    let places = c.places.ensures in
    let none : load_fault_of M.places c.args.capacity c.args.end starts ≡ None = cc in
    let fits = load_fits M.places c.args.capacity c.args.end starts none in
    λ deeds. subst (λ (d : Day). Tidy M (done M c.args.end deeds d)) (sym c.in_ok-begin.ensures.day) (tidy_done M law c.args.end deeds (starting M starts) (tidy_starts M law starts fits.1.placed))
