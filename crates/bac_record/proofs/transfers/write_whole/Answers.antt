use Rattle.std.proofs.Common.{rules, subst}
use Rattle.std.specs.Io.KnownBytes.{Appends}
use Rattle.std.proofs.KnownBytes.{Appends-trans}
use Rattle.bac_record.proofs.Lists.{taken_more}
use Rattle.bac_record.proofs.transfers.write_whole.Goals as goal

pub loop-at-preserved : goal.loop-at-preserved
loop-at-preserved g c =
    let bytes = c.args.octets.now in
    record {
      within = search rules;
      sent = subst (Appends _ _) (taken_more c.loop-at.at c.in-Ok.count bytes) (Appends-trans _ _ _ _ _ c.loop-at.invariant.sent c.in-Ok.ensures.octets);
      counted = search rules;
    }
