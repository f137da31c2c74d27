use Rattle.bac_npdu_parts.proofs.HeadRefusedLemmas.{nothing_refused, version_short, version_refused, short_other, version_other}
use Rattle.bac_npdu_parts.proofs.frame_heads.read_control.Goals as goal

pub returns-in_default : goal.returns-in_default
returns-in_default c = rw c.at.ensures (nothing_refused c.args.octets.now c.in_default.len_below, short_other)

pub returns-then-version-ne1 : goal.returns-then-version-ne1
returns-then-version-ne1 c = rw c.at-then-version-ne1.ensures (version_refused c.args.octets.now c.in-len1-up.len_at_least c.if-version-ne1.true, version_other)

pub returns-in_default-octets : goal.returns-in_default-octets
returns-in_default-octets c = rw c.at-in_default-octets.ensures (version_short c.args.octets.now c.in-len1-up.len_at_least c.if-version-ne1.false c.in_default-octets.len_below, short_other)
