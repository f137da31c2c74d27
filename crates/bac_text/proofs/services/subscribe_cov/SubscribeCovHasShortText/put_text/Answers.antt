use Rattle.std.proofs.Common.{take}
use Rattle.bac_text.proofs.TextLemmas.{appended}
use Rattle.bac_text.proofs.services.subscribe_cov.SubscribeCovHasShortText.put_text.Goals as goal

pub returns-clause-text : goal.returns-clause-text
returns-clause-text c =
    appended (take c.args.at c.args.room.now) _ _ _ _ (appended (take c.args.at c.args.room.now) _ _ _ _ (appended (take c.args.at c.args.room.now) _ _ _ _ c.put_field-end.ensures.text c.put_field-end-2.ensures.text) c.put_optional-end.ensures.text) c.put_optional.ensures.text
