use Rattle.std.proofs.Common.{take, ap, refl, ◌-◌, ◌∙◌}
use Rattle.bac_record.proofs.DigitLemmas.{without}
use Rattle.bac_record.proofs.digits.without_first.Goals as goal

pub returns : goal.returns
returns c =
    ap (take (4 - c.args.count)) c.to_le_bytes.ensures
    ∙ without c.args.a c.args.b c.args.c c.args.d c.args.count c.from_le_bytes.result _ c.ranges.a.fits c.ranges.b.fits c.ranges.c.fits c.ranges.d.fits c.requires c.from_le_bytes.ensures refl
