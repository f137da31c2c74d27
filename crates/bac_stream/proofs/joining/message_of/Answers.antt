use Rattle.bac_segment.specs.Deliveries.{delivery}
use Rattle.bac_stream.proofs.JoiningLemmas.{no_message}
use Rattle.bac_stream.proofs.joining.message_of.Goals as goal

pub returns-in-Err : goal.returns-in-Err
returns-in-Err c =
    let r = c.in-Err.ensures in
    no_message (delivery c.args.segment.now) c.args.octets.now c.in-Err.refusal c.kind_of_segment.result c.kind_of_segment.ensures r.refused r.memory r.reasons
