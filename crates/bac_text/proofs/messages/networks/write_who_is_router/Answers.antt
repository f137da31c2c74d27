use Rattle.std.proofs.Common.{take}
use Rattle.bac_text.proofs.TextLemmas.{written_last}
use Rattle.bac_text.proofs.messages.networks.write_who_is_router.Goals as goal

pub returns-clause-text : goal.returns-clause-text
returns-clause-text c = written_last c.write_optional.result (take c.args.at c.args.out.now.items) _ _ _ _ c.in_ok-end.ensures.text c.write_optional.ensures.text
