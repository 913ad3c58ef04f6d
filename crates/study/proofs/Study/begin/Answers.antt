use Rattle.std.proofs.Common.{rules, arith, refl}
use Rattle.copies.specs.Cells.{cell_of, content_of}
use Rattle.study.proofs.Loads.{load_alike, load_room}
use Rattle.study.proofs.Study.begin.Goals as goal

pub put_starts-requires : goal.put_starts-requires
put_starts-requires g c = let most = (g.met.C.Calendar.lawful c.args.self.now.calendar).bounded in let fits = c.requires in omega arith

pub returns-clause-held : goal.returns-clause-held
returns-clause-held g c =
    let s = c.args.self.now in
    load_alike (g.M.Model.meaning s.model) (g.met.M.Model.law s.model) (g.C.Calendar.meaning s.calendar) (g.C.Calendar.meaning c.put_starts.new.calendar) c.load.new.self (cell_of c.begin.new.self) (content_of c.begin.new.self) c.clear.new.self
    c.args.starts.now c.args.end c.requires (g.met.C.Calendar.lawful s.calendar).bounded (search rules) (search rules) (search rules) (search rules) (search rules)

pub returns-clause-same : goal.returns-clause-same
returns-clause-same g c =
    let s = c.args.self.now in
    record {
      model = refl;
      room = load_room (g.M.Model.meaning s.model) (g.met.M.Model.law s.model) (g.C.Calendar.meaning s.calendar) (g.C.Calendar.meaning c.put_starts.new.calendar) c.load.new.self (cell_of c.begin.new.self) (content_of c.begin.new.self) c.clear.new.self
          c.args.starts.now c.args.end c.requires (g.met.C.Calendar.lawful s.calendar).bounded (search rules);
    }
