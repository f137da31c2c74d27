use Rattle.std.specs.Prelude.{[], refl}
use Rattle.bac_lines.proofs.ScanLemmas.{last_of}
use Rattle.bac_lines.proofs.StartLemmas.{ending_bare}
use Rattle.bac_lines.proofs.scanning.brackets.add_end.Goals as goal

pub returns-clause-sound : goal.returns-clause-sound
returns-clause-sound c =
    let form = c.is_end.ensures.0 c.if-not-is_end.false in
    let ends = last_of c.args.ends.now.items c.pop.new.self.items c.in-Some.end c.pop.new.self.len c.args.ends.now.len c.args.ends.now.ok.0 c.in-Some.ensures.cases c.in-Some.ensures.rest c.in-Some.ensures.value in (
      record { name = c.in-Some.end.name; number = c.in-Some.end.number; head = []; contents = [] },
      (form, (ends, (refl, c.in_ok-add.ensures.added (record { name = c.in-Some.end.name; number = c.in-Some.end.number; head = []; contents = [] }) refl refl (ending_bare c.args.parenthesis c.in-Some.end.name form)))),
    )
