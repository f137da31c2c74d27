use Rattle.std.proofs.Common.{sym, subst}
use Rattle.bac_fields.specs.FrameFields.{FrameFits}
use Rattle.bac_fields.proofs.appending.append_places.Goals as goal

pub unreachable-requires : goal.unreachable-requires
unreachable-requires c = c.in_default.ensures.unfit (subst FrameFits (sym c.head-head.ensures) c.requires.fits)
