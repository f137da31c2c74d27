use Rattle.std.proofs.Common.{◌++◌, take, ◌∙◌, append_assoc}
use Rattle.bac_text.proofs.TextLemmas.{appended, written_last}
use Rattle.bac_text.proofs.services.read_property_multiple.ReadAccessSpecificationHasText.write_text.Goals as goal

pub returns-clause-text : goal.returns-clause-text
returns-clause-text c =
    written_last c.write_word.result (take c.args.at c.args.out.now.items) _ _ _ _
    (appended (take c.args.at c.args.out.now.items ++ _) _ _ _ _ c.in_ok-end.ensures.text c.in_ok-end-2.ensures.text ∙ append_assoc (take c.args.at c.args.out.now.items) _ _)
    c.write_word.ensures.text
