use Rattle.bac_productions.specs.Laws.Production.{unique}
use Rattle.bac_productions.proofs.laws.parts_are_well_spelled.Goals as goal

pub returns : goal.returns
returns g c =
    let part = g.P.Production in
    let sound = g.met.P.Production.decided c.requires in
    record {
      inhabited = g.met.P.Production.inhabited sound;
      once = unique part.spells part.openers part.continuers part.may_be_empty (g.met.P.Production.lawful sound);
      least = g.met.P.Production.has_least;
    }
