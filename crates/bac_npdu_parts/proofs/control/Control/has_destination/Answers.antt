use Rattle.std.proofs.Common.{arith}
use Rattle.bac_npdu_parts.proofs.ControlLemmas.{flag_is}
use Rattle.bac_npdu_parts.proofs.control.Control.has_destination.Goals as goal

pub returns : goal.returns
returns c = flag_is c.args.self.0 5 c.contains.result (omega arith) (c.contains.ensures tt)
