use Rattle.std.proofs.Common.{sym}
use Rattle.bac_npdu_parts.proofs.UntypedLemmas.{behind_all}
use Rattle.bac_npdu_parts.proofs.messages.networks.octets_of_networks.Goals as goal

pub returns-clause-found : goal.returns-clause-found
returns-clause-found c = sym (behind_all 1 c.args.octets.now)
