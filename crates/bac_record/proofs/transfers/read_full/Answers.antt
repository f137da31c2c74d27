use Rattle.std.proofs.Common.{rules, subst, length, take, ◌-◌}
use Rattle.std.specs.Io.KnownBytes.{Consumes}
use Rattle.std.proofs.KnownBytes.{Consumes-trans, Consumes-kept}
use Rattle.bac_record.proofs.Lists.{put_mid_behind}
use Rattle.bac_record.proofs.transfers.read_full.Goals as goal

pub loop-at-preserved : goal.loop-at-preserved
loop-at-preserved g c =
    let at = c.loop-at.at in
    let whole = put_mid_behind at (length c.loop-at.buffer - at) c.in-Ok.count c.loop-at.buffer c.read.new.buffer c.loop-at.invariant.within c.in-Ok.ensures.bound.0 in
    record {
      same_length = search rules;
      within = search rules;
      filled = subst (Consumes _ _) whole (Consumes-trans _ _ _ _ _ c.loop-at.invariant.filled c.in-Ok.ensures.octets.0);
      counted = search rules;
    }

pub returns-in-Err-clause-fails : goal.returns-in-Err-clause-fails
returns-in-Err-clause-fails g c =
    (take c.loop-at.at c.loop-at.buffer, search rules, Consumes-kept _ _ _ _ c.loop-at.invariant.filled c.in-Err.ensures.octets)
