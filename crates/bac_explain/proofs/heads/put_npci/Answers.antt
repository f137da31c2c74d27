use Rattle.std.proofs.Common.{◌++◌}
use Rattle.bac_npdu_parts.specs.FrameHeads.{address_read, destination_read}
use Rattle.bac_explain.specs.HeadParts.{control_parts, destination_parts, source_parts, hops_parts}
use Rattle.bac_explain.proofs.PartLemmas.{parts_append}
use Rattle.bac_explain.proofs.heads.put_npci.Goals as goal

pub returns : goal.returns
returns c =
    let to = destination_parts (destination_read c.args.npci.now.destination) in
    let from = source_parts (address_read c.args.npci.now.source) in
    let hops = hops_parts (destination_read c.args.npci.now.destination) in
    let last = parts_append from hops c.args.end c.put_destination-from.result c.put_source-hops.result c.put_hops.result c.put_destination-from.new.room c.put_source-hops.new.room c.put_hops.new.room c.put_source-hops.ensures c.put_hops.ensures in
    let addresses = parts_append to (from ++ hops) c.args.end c.put_control-to.result c.put_destination-from.result c.put_hops.result c.put_control-to.new.room c.put_destination-from.new.room c.put_hops.new.room c.put_destination-from.ensures last in
    parts_append control_parts (to ++ (from ++ hops)) c.args.end c.args.cursor c.put_control-to.result c.put_hops.result c.args.room.now c.put_control-to.new.room c.put_hops.new.room c.put_control-to.ensures addresses
